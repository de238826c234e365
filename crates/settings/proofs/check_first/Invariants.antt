-- `settings::check_first` meets its contract: what the lines from `line` on find is what the first lines find.
-- Assumes nothing.
use mathlib.Core.Path.{◌≡◌}
use Prim.Native.Nat.{◌≤◌}
use Rattle.settings.specs.Lines.{first_lines_check}
use Rattle.settings.proofs.Steps.{from}
use Rattle.settings.proofs.check_first.Given as goal

abbrev pub invariant-loop-line : goal.invariant-loop-line
invariant-loop-line l = (l.line ≤ l.lines) × (first_lines_check l.lines l.s ≡ from l.lines l.s l.line)
