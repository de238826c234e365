-- `stages::handle` meets its contract: its three parts, one after the other.
-- Assumes nothing.
use native.Mathlib.Omega.{arith}
use Rattle.rules.specs.Regions.{our_equipment}
use Rattle.states.proofs.Buffers.{wrote-length}
use Rattle.tails.proofs.Ends.{full-stays}
use Rattle.stages.proofs.Parts.{carried-then, closed-then}
use Rattle.states.specs.Carrying.{begun}
use Rattle.stages.proofs.handle.Goals as goal

pub returns-then-out-lt-LINE_ROOM : goal.returns-then-out-lt-LINE_ROOM
returns-then-out-lt-LINE_ROOM c =
    let s = c.args.s.now in
    let d = c.args.out.now in
    full-stays our_equipment c.args.ends s d (begun c.args.q) (omega arith) (omega arith) (omega arith)

pub on_samples-b-requires : goal.on_samples-b-requires
on_samples-b-requires c =
    let r = c.on_sheet-a.ensures in
    let k = r.carried our_equipment in
    (k.stands.inside, omega (arith, k.wrote.inside, wrote-length k.wrote), k.stands.fit, r.s_value)

pub returns : goal.returns
returns c =
    let s = c.args.s.now in
    let d = c.args.out.now in
    let r = c.on_sheet-a in
    let b = c.on_samples-b in
    let end = c.tail in
    let carried = carried-then our_equipment s d _ _ (begun c.args.q) r.result (r.ensures.carried our_equipment) b.result b.ensures.carried in
    closed-then our_equipment s d _ _ (begun c.args.q) b.result carried c.args.ends end.result (end.ensures our_equipment)
