-- `numerals::number_at` meets its contract: a run of one to six digits without a leading zero is a number, and no other.
-- Assumes nothing.
use Rattle.std.proofs.Common.{◌≡◌, ◌-◌, ◌≤◌, ◌<◌, arith, rules, slice_index_or, pos}
use mir.Facts.{to_z-of_z}
use Rattle.numerals.proofs.Taking.{not_counted, leading-zero, value-small, well-taken, small-fits}
use Rattle.numerals.proofs.number_at.Goals as goal
use Rattle.numerals.proofs.number_at.Goals.{else-count-gt1-via-then-count-gt1+else-s-at-eq48, else-count-gt1-via-else-count-gt1}

pub returns-then-not-contains : goal.returns-then-not-contains
returns-then-not-contains c =
    let a = c.args in
    let d = c.digits_at-digits in
    let out : 1 ≤ d.result.next - a.at → 6 < d.result.next - a.at = grind (arith, c.if-not-contains.ensures.cases, c.new.ensures.start, c.new.ensures.end) in
    not_counted a.s.now a.at d.result d.ensures out

pub returns-then-s-at-eq48 : goal.returns-then-s-at-eq48
returns-then-s-at-eq48 c =
    leading-zero c.args.s.now c.args.at c.digits_at-digits.result c.digits_at-digits.ensures c.if-count-gt1.true c.if-s-at-eq48.true

pub overflow_cast-result : goal.overflow_cast-result
overflow_cast-result c =
    let d = c.digits_at-digits in
    let six : d.result.next - c.args.at ≤ 6 = search rules in
    small-fits (pos d.result.value) (value-small c.args.s.now c.args.at d.result d.ensures six)

pub returns : goal.returns
returns c =
    let a = c.args in
    let d = c.digits_at-digits in
    let one : 1 ≤ d.result.next - a.at = search rules in
    let six : d.result.next - a.at ≤ 6 = search rules in
    let lead : slice_index_or a.s.now a.at 0 ≡ 48 → d.result.next - a.at ≤ 1
    = elim c.else-count-gt1.branch [
      | else-count-gt1-via-then-count-gt1+else-s-at-eq48 w ↦ λ z. absurd (w.if-s-at-eq48.false z)
      | else-count-gt1-via-else-count-gt1 w ↦ λ z. w.if-count-gt1.false
    ]
    in
    let small = value-small a.s.now a.at d.result d.ensures six in
    rw (to_z-of_z (small-fits (pos d.result.value) small)) (record {
      same = well-taken a.s.now a.at d.result d.ensures one six lead;
      inside = d.ensures.inside;
      small = small;
    })
