-- `fastfields::fast_digits` meets its contract: the loop goes along a run of digits and stops before its seventh, or finds nothing.
-- Assumes nothing.
use Rattle.std.proofs.Common.{◌+◌}
use Rattle.numerals.proofs.Runs.{Run}
use Rattle.fastfields.proofs.fast_digits.Given as goal

abbrev pub invariant-loop-i : goal.invariant-loop-i
invariant-loop-i l = Run l.s l.at l.value (l.at + l.i)
