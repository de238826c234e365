-- `numerals::marked_at` meets its contract: by the mark, and by the byte that stands there, one of the two readings.
-- Assumes nothing.
use Rattle.std.proofs.Common.{◌≡◌, drop}
use Rattle.rules.specs.Text.{take_number}
use Rattle.formats.specs.Marks.{take_marked}
use Rattle.numerals.proofs.Taking.{marked-number, marked-minus, marked_other, marked-past}
use Rattle.numerals.proofs.marked_at.Goals as goal
use Rattle.numerals.proofs.marked_at.Goals.{else-mark-ne35-via-then-mark-ne35+then-at-s+else-s-at-eq45, else-mark-ne35-via-then-mark-ne35+else-at-s, else-mark-ne35-via-else-mark-ne35}

pub returns-then-s-at-eq45 : goal.returns-then-s-at-eq45
returns-then-s-at-eq45 c =
    let a = c.args in
    rw (marked-minus a.mark a.s.now a.at c.if-mark-ne35.true c.if-at-s.true c.if-s-at-eq45.true) c.negative_at.ensures

pub returns : goal.returns
returns c =
    let a = c.args in
    let same : take_marked a.mark (drop a.at a.s.now) ≡ take_number (drop a.at a.s.now) =
    elim c.else-mark-ne35.branch [
      | else-mark-ne35-via-then-mark-ne35+then-at-s+else-s-at-eq45 w ↦ marked_other a.mark a.s.now a.at w.if-mark-ne35.true w.if-at-s.true w.if-s-at-eq45.false
      | else-mark-ne35-via-then-mark-ne35+else-at-s w ↦ marked-past a.mark a.s.now a.at w.if-mark-ne35.true w.if-at-s.false
      | else-mark-ne35-via-else-mark-ne35 w ↦ marked-number a.mark (drop a.at a.s.now) w.if-mark-ne35.false
    ]
    in
    rw same c.number_at.ensures
