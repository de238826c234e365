-- What `respond` wrote is what is lent to the writing.
use Rattle.std.proofs.Common.{subst}
use Rattle.rules.specs.Regions.{our_equipment}
use Rattle.stdio.specs.Moves.{Put}
use Rattle.handover.proofs.Saying.{due, lent_is}
use Rattle.handover.proofs.say.Goals as goal

pub hand_over-handed-requires-clause-due : goal.hand_over-handed-requires-clause-due
hand_over-handed-requires-clause-due g c =
    let a = c.args in
    let r = c.respond-r in
    due our_equipment a.q a.block.now a.last a.before a.out.now r.new.out c.requires.out_len.0 r.result r.ensures.responds c.requires.out_len.1
    a.input c.requires.tells

pub returns-clause-put : goal.returns-clause-put
returns-clause-put g c =
    let a = c.args in
    let r = c.respond-r in
    let is = lent_is our_equipment a.q a.block.now a.last a.out.now r.new.out c.requires.out_len.0 r.result r.ensures.responds in
    subst (Put _ _ _) is c.hand_over-handed.ensures.put
