-- `settings::line_in_row` meets its contract: what is found of the pairs from k on is what is found of the line.
-- Assumes nothing.
use mathlib.Core.Path.{◌≡◌, refl, ◌∙◌}
use mathlib.Core.List.{map}
use Prim.Native.Nat.{◌-◌, ◌≤◌}
use native.Mathlib.Omega.{arith}
use lib.ListN.{length, drop}
use borrow.Author.Rules.{rules}
use borrow.Author.Tests.{not-true, not-false}
use Rattle.rules.specs.Tests.{all}
use Rattle.rules.specs.Settings.{in_row}
use Rattle.ranges.specs.Rows.{row_of}
use Rattle.pairs.specs.Pairs.{settings_line, pairs_in}
use Rattle.pairs.proofs.Sheet.{pairs-at, unmapped}
use Rattle.settings.proofs.Steps.{range-more, range-end}
use Rattle.settings.proofs.line_in_row.Given as goal

abbrev pub invariant-loop-k : goal.invariant-loop-k
invariant-loop-k l =
    all (map (in_row (row_of l.row)) (settings_line l.s l.line)) ≡ all (map (in_row (row_of l.row)) (drop l.k (settings_line l.s l.line)))
