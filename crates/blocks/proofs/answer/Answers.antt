-- Each turn is a call of `respond` more.
use Rattle.std.proofs.Common.{◌≡◌, Bool, not, ◌&&◌, refl, ap, ◌∙◌}
use Rattle.rules.specs.Regions.{our_equipment}
use Rattle.blocks.proofs.Answering.{rest-is, first, talks-here, next}
use Rattle.blocks.proofs.answer.Goals.{then-put, else-put}
use Rattle.blocks.proofs.answer.Goals as goal

pub loop-more-init : goal.loop-more-init
loop-more-init g c =
    let a = c.args in
    (first our_equipment a.q a.block.now a.last a.before _ c.requires.out_len.1.well, refl)

pub say-r-requires-clause-out_len : goal.say-r-requires-clause-out_len
say-r-requires-clause-out_len g c =
    let a = c.args in
    let w = c.loop-more in (
      w.invariant.1 ∙ c.requires.out_len.0,
      talks-here our_equipment a.q a.block.now a.last a.before _ c.requires.out_len.1 w.invariant.0 c.loop-more-test.true _
          (rest-is a.block.now w.at),
    )

pub loop-more-preserved : goal.loop-more-preserved
loop-more-preserved g c =
    let a = c.args in
    let w = c.loop-more in
    let tests : c.if-put.going ≡ (c.put.result && not c.say-r.result.done) = elim c.if-put.branch [
      | then-put w ↦ rw (w.going-is, w.if-put.true) refl
      | else-put w ↦ rw (w.going-is, w.if-put.false) refl
    ] in
    let goes = tests ∙ ap (λ (b : Bool). b && not c.say-r.result.done) c.put.ensures in (
      next our_equipment a.q a.block.now a.last a.before _ c.requires.out_len.1 w.invariant.0 c.loop-more-test.true _ (rest-is a.block.now w.at)
          c.say-r.result c.say-r.ensures.says c.if-put.going c.goes_on-more.result goes c.goes_on-more.ensures c.say-r.ensures.put,
      c.say-r.auto.out ∙ w.invariant.1,
    )
