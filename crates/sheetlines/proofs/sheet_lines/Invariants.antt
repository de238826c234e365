-- `sheetlines::sheet_lines` meets its contract. The loop's invariant: nothing is written yet, and what is said from here on is what was
-- to be said (`Turns.antt`).
-- Assumes nothing.
use native.Mathlib.Omega.{arith}
use Prim.Native.Nat.{◌-◌}
use lib.ListN.{length}
use Rattle.sheetlines.proofs.Turns.{Going, beginning, waits, fit_line, refused, goes_on, past}
use borrow.Author.Rules.{rules}
use Rattle.sheetlines.proofs.sheet_lines.Given as goal

abbrev pub invariant-loop-state : goal.invariant-loop-state
invariant-loop-state l = Going l.initial.state l.s l.state l.at

abbrev pub decreases-loop-state : goal.decreases-loop-state
decreases-loop-state l = length l.s - l.at
