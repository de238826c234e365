-- `settings::rises` meets its contract: the pairs from k on rise where the line does.
-- Assumes nothing.
use mathlib.Core.Path.{◌≡◌, refl, ◌∙◌}
use Prim.Native.Nat.{◌-◌, ◌≤◌}
use native.Mathlib.Omega.{arith}
use lib.ListN.{length, drop}
use lib.Signed.{lt_z}
use mir.Syntax.{w64}
use borrow.Author.Rules.{rules}
use borrow.Author.Tests.{not-true, not-false}
use Rattle.rules.specs.Settings.{rising}
use Rattle.pairs.specs.Pairs.{settings_line, pairs_in}
use Rattle.ranges.proofs.Words.{word}
use Rattle.pairs.proofs.Sheet.{some_pair, pairs-at, unmapped}
use Rattle.settings.proofs.Steps.{rise-more, rise-end}
use Rattle.settings.proofs.rises.Given as goal

abbrev pub invariant-loop-k : goal.invariant-loop-k
invariant-loop-k l = rising (settings_line l.s l.line) ≡ rising (drop (l.k - 1) (settings_line l.s l.line))
