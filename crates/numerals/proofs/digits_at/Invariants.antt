-- `numerals::digits_at` meets its contract: the loop goes along a run of digits, up to the seventh.
-- Assumes nothing.
use Rattle.numerals.proofs.Runs.{Run}
use Rattle.numerals.proofs.digits_at.Given as goal

abbrev pub invariant-loop-i : goal.invariant-loop-i
invariant-loop-i l = Run l.s l.at l.value l.i
