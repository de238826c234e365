-- `tails::tail` meets its contract.
-- Assumes nothing.
use mathlib.Core.Path.{◌≡◌, refl}
use mathlib.Core.Bool.{true, false, ◌||◌}
use borrow.Author.Tests.{lt-ltb, le-ltb}
use Prim.Native.Nat.{◌-◌}
use lib.Dec.{ltb}
use lib.ListN.{length}
use native.Mathlib.Omega.{arith}
use Rattle.tails.proofs.Ends.{done-stays, full-stays, closes, drops, waits}
use Rattle.text.specs.Forms.{longest}
use Rattle.tails.proofs.tail.Goals.{then-q-via-then-q, then-q-via-else-q+then-n-gt-LONGEST}
use Rattle.tails.proofs.tail.Goals as goal

pub returns-then-stage-ge2 : goal.returns-then-stage-ge2
returns-then-stage-ge2 c =
    let s = c.args.s.now in
    let d = c.args.out.now in
    let h = c.args.h in
    λ e. done-stays e c.args.ends s d h c.requires.0 c.requires.1 c.if-stage-ge2.true

pub returns-then-out-w-lt-LINE_ROOM : goal.returns-then-out-w-lt-LINE_ROOM
returns-then-out-w-lt-LINE_ROOM c =
    let s = c.args.s.now in
    let d = c.args.out.now in
    let h = c.args.h in
    λ e. full-stays e c.args.ends s d h c.requires.0 c.requires.1 (omega arith)

pub returns-then-ends : goal.returns-then-ends
returns-then-ends c =
    let s = c.args.s.now in
    let d = c.args.out.now in
    let h = c.args.h in
    let end = c.if-ends.true in
    let put = c.put_end-written.ensures in
    λ e. closes e c.args.ends s d h c.requires.0 c.requires.1 (omega arith) (omega arith) c.requires.3 end _ _ put c.stop-state.result c.stop-state.ensures

pub returns-then-q : goal.returns-then-q
returns-then-q c =
    let s = c.args.s.now in
    let d = c.args.out.now in
    let h = c.args.h in
    let n = length s - h.at in
    let overlong : (h.state.overlong || ltb longest n) ≡ true = elim c.then-q.branch [
      | then-q-via-then-q w ↦ rw w.if-q.true refl
      | then-q-via-else-q+then-n-gt-LONGEST w ↦ rw (w.if-q.false, lt-ltb longest n (omega arith)) refl
    ] in
    let next = c.drop_bytes-state in
    λ e. drops e c.args.ends s d h c.requires.0 c.requires.1 (omega arith) (omega arith) c.requires.3 c.if-ends.false overlong next.result next.ensures

pub returns : goal.returns
returns c =
    let s = c.args.s.now in
    let d = c.args.out.now in
    let h = c.args.h in
    let short : (h.state.overlong || ltb longest (length s - h.at)) ≡ false = rw (c.if-q.false, le-ltb longest (length s - h.at) (omega arith)) refl in
    λ e. waits e c.args.ends s d h c.requires.0 c.requires.1 (omega arith) (omega arith) c.requires.3 c.if-ends.false short
