-- `fastfields::fast_number` meets its contract: digits that begin with a zero are a number where they are this one.
-- Assumes nothing.
use Rattle.std.proofs.Common.{◌≡◌, ◌+◌, ◌≤◌, arith, slice_index_or}
use Rattle.fastfields.proofs.Fields.{number-taken}
use Rattle.fastfields.proofs.fast_number.Goals as goal
use Rattle.fastfields.proofs.fast_number.Goals.{else-s-at-eq48-via-then-s-at-eq48+else-d-at, else-s-at-eq48-via-else-s-at-eq48}

pub returns : goal.returns
returns c =
    let a = c.args in
    let d = c.in_ok-d in
    let lead : slice_index_or a.s.now a.at 0 ≡ 48 → d.d.next ≤ a.at + 1
    = elim c.else-s-at-eq48.branch [
      | else-s-at-eq48-via-then-s-at-eq48+else-d-at w ↦ λ z. omega (arith, w.if-d-at.false)
      | else-s-at-eq48-via-else-s-at-eq48 w ↦ λ z. absurd (w.if-s-at-eq48.false z)
    ]
    in
    number-taken a.s.now a.at d.d d.ensures lead
