-- `tails::put_end` meets its contract.
-- Assumes nothing.
use mathlib.Core.Path.{◌≡◌, refl}
use mathlib.Core.Bool.{true, ◌||◌}
use borrow.Author.Tests.{lt-ltb, le-ltb}
use lib.Dec.{ltb}
use lib.ListN.{length}
use native.Mathlib.Omega.{arith}
use Rattle.states.proofs.Buffers.{wrote_none}
use Rattle.tails.proofs.Ends.{end-sheet, end-done, end-sample, end_none}
use Rattle.tails.proofs.put_end.Goals.{then-q-via-then-q, then-q-via-else-q+then-n-gt0}
use Rattle.tails.proofs.put_end.Goals as goal

pub returns-then-stage-eq0 : goal.returns-then-stage-eq0
returns-then-stage-eq0 c = λ l e. rw (← end-sheet c.args.q l c.if-stage-eq0.true, ← c.refusal_number.ensures)
    c.put_refused.ensures

pub returns-then-stage-ge2 : goal.returns-then-stage-ge2
returns-then-stage-ge2 c = λ l e. rw (← end-done c.args.q l c.if-stage-ge2.true)
    (wrote_none c.args.out.now c.args.at (omega arith))

pub returns-then-q : goal.returns-then-q
returns-then-q c = λ l e.
    let begun : (c.args.q.overlong || ltb 0 (length l)) ≡ true = elim c.then-q.branch [
      | then-q-via-then-q w ↦ rw w.if-q.true refl
      | then-q-via-else-q+then-n-gt0 w ↦ rw (w.if-q.false, lt-ltb 0 (length l) (omega (arith, e, w.if-n-gt0.true))) refl
    ] in
    rw (← end-sample c.args.q l c.if-stage-eq0.false (omega arith) begun, ← c.refusal_number-then-q.ensures) c.put_refused-then-q.ensures

pub returns : goal.returns
returns c = λ l e. rw
    (← end_none c.args.q l c.if-stage-eq0.false (omega arith)
    (rw (c.if-q.false, le-ltb 0 (length l) (omega (arith, e, c.if-n-gt0.false))) refl))
    (wrote_none c.args.out.now c.args.at (omega arith))
