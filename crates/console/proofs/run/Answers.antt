-- Each turn is a read, the answers to what it brought, and what is left moved to the front.
use Rattle.std.proofs.Common.{◌≡◌, ◌≤◌, ℕ, Bool, true, false, nat_eq, refl, sym, ◌∙◌, arith}
use borrow.Author.Tests.{eqb-true, eqb-false}
use Rattle.rules.specs.Regions.{our_equipment}
use Rattle.console.proofs.Running.{turning-first, brought, ran-failed, talks-block, turning-next}
use Rattle.console.proofs.run.Goals as goal

-- none came where the input has ended, and some where it has not
module _ {n bytes : ℕ} {last : Bool} (is : n ≡ bytes) (told : last ≡ nat_eq bytes 0) where
  none : last ≡ true → n ≡ 0
  none p = is ∙ eqb-true bytes 0 (sym told ∙ p)

  some : last ≡ false → 1 ≤ n
  some p = let h : bytes ≡ 0 → ⊥ = eqb-false bytes 0 (sym told ∙ p) in omega arith

pub loop-going-init : goal.loop-going-init
loop-going-init g c = (
  turning-first our_equipment _ _ c.args.buf.now c.args.first c.unread-input.result c.unsaid-handed.result c.requires.0 c.unread-input.ensures
      c.unsaid-handed.ensures,
  refl,
  refl,
)

pub read_to-input-requires : goal.read_to-input-requires
read_to-input-requires g c =
    let t = c.loop-going.invariant in
    let on = c.loop-going-test.true in
    (omega (arith, t.0.short on, t.1, c.requires), t.0.waits on)

pub returns-then-failed : goal.returns-then-failed
returns-then-failed g c =
    let w = c.loop-going in
    let r = c.read_to-input in
    let t = brought w.invariant.0 c.loop-going-test.true (omega (arith, w.invariant.1, c.requires)) r.new.buf r.auto.buf r.ensures.buf_unchanged r.result
    r.ensures.value _ r.ensures.came in
    ran-failed t (sym c.failed.ensures ∙ c.if-failed.true)

pub answer-a-requires-clause-out_len : goal.answer-a-requires-clause-out_len
answer-a-requires-clause-out_len g c =
    let w = c.loop-going in
    let r = c.read_to-input in
    let t = brought w.invariant.0 c.loop-going-test.true (omega (arith, w.invariant.1, c.requires)) r.new.buf r.auto.buf r.ensures.buf_unchanged r.result
    r.ensures.value _ r.ensures.came in
    (w.invariant.2 ∙ c.requires.2, talks-block t c.bytes-bytes.ensures _)

pub loop-going-preserved : goal.loop-going-preserved
loop-going-preserved g c =
    let w = c.loop-going in
    let r = c.read_to-input in
    let a = c.answer-a in
    let f = c.to_front-have in
    let t = brought w.invariant.0 c.loop-going-test.true (omega (arith, w.invariant.1, c.requires)) r.new.buf r.auto.buf r.ensures.buf_unchanged r.result
    r.ensures.value _ r.ensures.came in
    let well = sym c.failed.ensures ∙ c.if-failed.false in
    let is = c.bytes-bytes.ensures in
    let told = c.ended-last.ensures in
    let turned = turning-next t is a.ensures (none is told) (some is told) well f.new.buf f.result f.ensures.0 f.ensures.1 in
    (turned, f.auto.buf ∙ r.auto.buf ∙ w.invariant.1, a.auto.out ∙ w.invariant.2)
