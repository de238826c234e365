-- `numerals::digits_at` meets its contract: the loop goes along a run of digits, up to the seventh.
-- Assumes nothing.
use Rattle.std.proofs.Common.{arith, sym, ap, ◌+◌, ℕ, slice_index_or}
use Rattle.rules.specs.Tests.{within}
use Rattle.formats.proofs.Digits.{digit-is}
use Rattle.numerals.proofs.Runs.{run_more, run-other, run_ends, run-below}
use Rattle.numerals.proofs.digits_at.Goals as goal

pub returns-then-not-is_ascii_digit : goal.returns-then-not-is_ascii_digit
unfolding within
returns-then-not-is_ascii_digit c =
    let l = c.loop-i in
    run-other c.args.s.now c.args.at l.value l.i l.invariant (omega arith) (omega arith) (sym c.if-not-is_ascii_digit.ensures.value)

pub overflow_mul-value : goal.overflow_mul-value
overflow_mul-value c = let l = c.loop-i in omega (arith, run-below c.args.s.now c.args.at l.value l.i l.invariant (omega arith))

pub overflow_add-value : goal.overflow_add-value
unfolding within
overflow_add-value c =
    let l = c.loop-i in
    let d = digit-is (slice_index_or c.args.s.now l.i 0) (sym c.if-not-is_ascii_digit.ensures.value) in
    omega (arith, d.high, run-below c.args.s.now c.args.at l.value l.i l.invariant (omega arith))

pub loop-i-preserved : goal.loop-i-preserved
unfolding within
loop-i-preserved c =
    let l = c.loop-i in
    let d = digit-is (slice_index_or c.args.s.now l.i 0) (sym c.if-not-is_ascii_digit.ensures.value) in
    run_more c.args.s.now c.args.at l.value l.i l.invariant (omega arith) d

pub returns : goal.returns
returns c =
    let l = c.loop-i in
    run_ends c.args.s.now c.args.at l.value l.i l.invariant _ (ap (λ (k : ℕ). c.args.at + k) c.min.ensures) (omega arith) c.requires
