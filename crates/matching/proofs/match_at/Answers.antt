-- `matching::match_at` meets its contract: each turn takes one byte of the form, with its number or its byte of the text.
-- Assumes nothing.
use Rattle.std.proofs.Common.{◌≡◌, sym, ◌∙◌, ◌<◌, ◌≤◌, length, rules, slice_index_or}
use mir.Facts.{to_z-of_z}
use Rattle.numerals.proofs.Taking.{small-fits}
use Rattle.matching.proofs.Matching.{has_room, no-number, next-number, no_byte, other_byte, next-byte, match-ends}
use Rattle.matching.proofs.match_at.Goals as goal
use Rattle.matching.proofs.match_at.Goals.{then-is_mark+in_ok-x, else-is_mark+in_ok-b+else-b-mark}

pub returns-in_err-x : goal.returns-in_err-x
returns-in_err-x c =
    let a = c.args in
    let l = c.loop-mark in
    rw c.from_residual.ensures (no-number a.form.now a.s.now a.start l.n l.k l.at l.mark-index l.invariant c.loop-mark-test.true
    (sym c.if-is_mark.ensures) c.in_err-x.ensures)

pub bounds-n-k : goal.bounds-n-k
bounds-n-k c =
    let a = c.args in
    let l = c.loop-mark in
    has_room a.form.now a.s.now a.start l.n l.k l.at l.mark-index l.invariant c.loop-mark-test.true (sym c.if-is_mark.ensures)

pub returns-in_err-b : goal.returns-in_err-b
returns-in_err-b c =
    let a = c.args in
    let l = c.loop-mark in
    let past : length a.s.now ≤ l.at = search rules in
    rw c.from_residual-in_err-b.ensures (no_byte a.form.now a.s.now a.start l.n l.k l.at l.mark-index l.invariant c.loop-mark-test.true
    (sym c.if-is_mark.ensures) past)

pub returns-then-b-mark : goal.returns-then-b-mark
returns-then-b-mark c =
    let a = c.args in
    let l = c.loop-mark in
    let inside : l.at < length a.s.now = search rules in
    let same : c.in_ok-b.b.now ≡ slice_index_or a.s.now l.at 0 = search rules in
    other_byte a.form.now a.s.now a.start l.n l.k l.at l.mark-index l.invariant c.loop-mark-test.true (sym c.if-is_mark.ensures)
    inside (λ e. c.if-b-mark.true (same ∙ e))

pub loop-mark-preserved : goal.loop-mark-preserved
loop-mark-preserved c =
    let a = c.args in
    let l = c.loop-mark in
    elim c.if-is_mark.branch [
      | then-is_mark+in_ok-x w ↦ let x = w.in_ok-x in rw (w.n-is, w.k-is, w.at-is, to_z-of_z (small-fits x.x.value x.ensures.small))
          (next-number a.form.now a.s.now a.start l.n l.k l.at l.mark-index l.invariant c.loop-mark-test.true (sym w.if-is_mark.ensures) x.x x.ensures)
      | else-is_mark+in_ok-b+else-b-mark w ↦ let inside : l.at < length a.s.now = search rules in let same : w.in_ok-b.b.now ≡ slice_index_or a.s.now l.at 0 = search rules in rw (w.n-is, w.k-is, w.at-is)
          (next-byte a.form.now a.s.now a.start l.n l.k l.at l.mark-index l.invariant c.loop-mark-test.true (sym w.if-is_mark.ensures)
          inside (sym same ∙ w.if-b-mark.false))
    ]

pub returns : goal.returns
returns c =
    let a = c.args in
    let l = c.loop-mark in
    match-ends a.form.now a.s.now a.start l.n l.k l.at l.mark-index l.invariant c.loop-mark-test.false
