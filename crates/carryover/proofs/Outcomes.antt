-- What comes of a call, from what its three tests gave: all pass, and the image is written; or one does not, and the target stays.
-- Assumes nothing.
use mathlib.Core.Path.{◌≡◌, refl, ap, ◌∙◌}
use mathlib.Core.Bool.{Bool, true, false, not}
use mathlib.Core.List.{List, [], ◌∷◌, ◌++◌}
use Prim.Native.Nat.{ℕ, ◌≤◌}
use native.Mathlib.Nat.{zero-add}
use native.Mathlib.Omega.{arith}
use lib.Dec.{eqb, leb}
use lib.ListN.{length, drop}
use borrow.Author.Tests.{eqb-true, leb-true}
use Rattle.std.specs.Prelude.{Ok, Err}
use Rattle.rules.specs.Images.{image_length}
use Rattle.causes.specs.FirstCause.{cause, first}
use Rattle.buffers.specs.Written.{written}
use Rattle.oldimages.specs.OldImages.{old_length, has_added}
use Rattle.carryover.specs.declared.CarryRefusal.{CarryRefusal}
use Rattle.carryover.specs.CarryOver.{CarryAnswer, carry_number, carry_answer, forward_answer, back_answer, carried_into, forward_causes, back_causes}

-- ---- the target

-- a write at the front
pub front : (image target : List ℕ) → written target 0 image ≡ image ++ drop (length image) target
unfolding written
front image target = rw zero-add

-- the answer of a call and the target after it, by the answer that its tests gave
pub promised : (answer a : CarryAnswer) (image target after : List ℕ) → a ≡ answer → after ≡ carried_into a image target
    → (a ≡ answer) × (after ≡ carried_into answer image target)
promised answer a image target after e left = (e, left ∙ ap (λ (k : CarryAnswer). carried_into k image target) e)

-- a refusal, whichever, leaves the target
pub stays : (why : CarryRefusal) (image target : List ℕ) → target ≡ carried_into (Err why) image target
stays CarryRefusal.SourceLength image target = refl
stays CarryRefusal.AddedBytes image target = refl
stays CarryRefusal.TargetLength image target = refl

-- ---- the tests

passed : (measured added room : Bool) → carry_answer measured added room ≡ Ok tt → (measured ≡ true) × (added ≡ true) × (room ≡ true)
passed true true true e = (refl, refl, refl)
passed true true false e = absurd (omega (arith, ap carry_number e))
passed true false room e = absurd (omega (arith, ap carry_number e))
passed false added room e = absurd (omega (arith, ap carry_number e))

-- where nothing is refused: the lengths, and the test between them
pub clear : (source target : List ℕ) (from to : ℕ) (added : Bool)
    → carry_answer (eqb (length source) from) added (leb to (length target)) ≡ Ok tt → (length source ≡ from) × (added ≡ true) × (to ≤ length target)
clear source target from to added e =
    let tests = passed (eqb (length source) from) added (leb to (length target)) e in
    (eqb-true (length source) from tests.0, tests.1, leb-true to (length target) tests.2)

-- ---- the number is that of the first cause

two-causes : (measured room : Bool) → carry_number (carry_answer measured true room) ≡ first (cause 10 (not measured) ∷ cause 9 (not room) ∷ [])
two-causes true true = refl
two-causes true false = refl
two-causes false room = refl

three-causes : (measured added room : Bool)
    → carry_number (carry_answer measured added room) ≡ first (cause 10 (not measured) ∷ cause 11 (not added) ∷ cause 9 (not room) ∷ [])
three-causes true true true = refl
three-causes true true false = refl
three-causes true false room = refl
three-causes false added room = refl

module _ (source target : List ℕ) where
  pub forward-first : carry_number (forward_answer source target) ≡ first (forward_causes source target)
  unfolding forward_answer
  forward-first = two-causes (eqb (length source) old_length) (leb image_length (length target))

  pub back-first : carry_number (back_answer source target) ≡ first (back_causes source target)
  unfolding back_answer
  back-first = three-causes (eqb (length source) image_length) (has_added source) (leb old_length (length target))
