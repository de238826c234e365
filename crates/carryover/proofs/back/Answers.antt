-- `carryover::back` meets its contract: refused, it writes nothing; else the old bytes of the image.
-- Assumes nothing.
use mathlib.Core.Path.{◌≡◌, refl, sym, ap, ◌∙◌}
use mathlib.Core.Bool.{Bool}
use mathlib.Core.List.{List}
use Prim.Native.Nat.{ℕ}
use lib.Dec.{eqb, leb}
use lib.ListN.{length}
use Rattle.std.specs.Prelude.{Ok, Err}
use Rattle.std.proofs.lemmas.Result.{err_from_is_err_and}
use Rattle.rules.specs.Images.{image_length}
use Rattle.oldimages.specs.OldImages.{old_length, has_added}
use Rattle.carryover.specs.CarryOver.{CarryAnswer, carried_back, carry_answer, back_answer, back_into}
use Rattle.carryover.proofs.Outcomes.{front, promised, stays}
use Rattle.carryover.proofs.back.Goals as goal

-- the answer, with the second test as the code found it
answered : (source target : List ℕ) (added : Bool) (a : CarryAnswer) → added ≡ has_added source
    → a ≡ carry_answer (eqb (length source) image_length) added (leb old_length (length target)) → a ≡ back_answer source target
unfolding back_answer
answered source target added a e told = told ∙ ap (λ (b : Bool). carry_answer (eqb (length source) image_length) b (leb old_length (length target))) e

pub returns-in_err-checked-clause-value : goal.returns-in_err-checked-clause-value
unfolding back_into
returns-in_err-checked-clause-value c =
    let source = c.args.source.now in
    let target = c.args.target.now in
    let told = answered source target c.has_added.result c.checked.result c.has_added.ensures c.checked.ensures in
    let p = err_from_is_err_and c.from_residual.result c.from_residual.ensures.1 in
    promised (back_answer source target) _ (carried_back source) target target (p.1 ∙ ap Err p.2 ∙ sym c.in_err-checked.was ∙ told) (rw p.1 (stays _ (carried_back source) target))

pub returns-clause-value : goal.returns-clause-value
unfolding back_into
returns-clause-value c =
    let source = c.args.source.now in
    let target = c.args.target.now in
    let told = sym c.in_ok-checked.was ∙ answered source target c.has_added.result c.checked.result c.has_added.ensures c.checked.ensures in
    promised (back_answer source target) (Ok tt) (carried_back source) target _ told (c.copy_old.ensures ∙ front (carried_back source) target)
