-- `fastfields::fast_digits` meets its contract: the loop goes along a run of digits and stops before its seventh, or finds nothing.
-- Assumes nothing.
use Rattle.std.proofs.Common.{◌+◌, arith, slice_index_or}
use native.Mathlib.Nat.{add_assoc}
use Rattle.numerals.proofs.Runs.{run_more, run-other, run-below}
use Rattle.fastfields.proofs.Fields.{xor-digit, xor-value, xor-other}
use Rattle.fastfields.proofs.fast_digits.Goals as goal

pub returns-then-d-gt9 : goal.returns-then-d-gt9
returns-then-d-gt9 c =
    let l = c.loop-i in
    let at = c.args.at in
    record {
      any = omega arith;
      few = omega arith;
      digits = run-other c.args.s.now at l.value (at + l.i) l.invariant (omega arith) (omega arith) (xor-other _ c.if-d-gt9.true);
    }

pub overflow_mul-value : goal.overflow_mul-value
overflow_mul-value c =
    let l = c.loop-i in
    omega (arith, run-below c.args.s.now c.args.at l.value (c.args.at + l.i) l.invariant (omega arith))

pub overflow_add-value : goal.overflow_add-value
overflow_add-value c =
    let l = c.loop-i in
    omega (arith, c.if-d-gt9.false, run-below c.args.s.now c.args.at l.value (c.args.at + l.i) l.invariant (omega arith))

pub loop-i-preserved : goal.loop-i-preserved
loop-i-preserved c =
    let l = c.loop-i in
    let at = c.args.at in
    let b = slice_index_or c.args.s.now (at + l.i) 0 in
    let d = xor-digit b c.if-d-gt9.false in
    rw (xor-value b d, ← add_assoc at l.i 1) (run_more c.args.s.now at l.value (at + l.i) l.invariant (omega arith) d)
