-- Carrying forward and back refuse as they should, and each undoes the other.
-- Assumes nothing.
use mathlib.Core.Path.{◌≡◌, refl, sym, ap, ◌∙◌}
use mathlib.Core.Bool.{Bool, true}
use mathlib.Core.List.{List, ◌++◌}
use Prim.Native.Nat.{ℕ, ◌≤◌, ◌<◌}
use native.Mathlib.Omega.{arith}
use borrow.Author.Tests.{eq-eqb, le-leb}
use lib.Dec.{eqb, leb}
use lib.ListN.{length, take, drop, take-append-drop, length-append}
use lib.Seq.{length-take-le, take_at, drop_at}
use Rattle.rules.specs.Images.{image_length}
use Rattle.oldimages.specs.OldImages.{old_length, added_bytes, has_added}
use Rattle.std.specs.Prelude.{Ok, Err}
use Rattle.carryover.specs.CarryOver.{CarryAnswer, carried_forward, carried_back, carry_number, carry_answer, forward_answer, back_answer, carried_into, forward_into, back_into}
use Rattle.carryover.specs.declared.CarryRefusal.{CarryRefusal}
use Rattle.carryover.specs.Carries.{our_forward, our_back, CarryRefusedRightly, new_in, old_in, RoundTrips}
use Rattle.oldimages.proofs.Added.{added_true, true-added}
use Rattle.carryover.proofs.Outcomes.{clear, forward-first, back-first}

-- ---- where nothing is refused

-- the answer whose number is 0
zero-written : (a : CarryAnswer) → carry_number a ≡ 0 → a ≡ Ok tt
zero-written (Ok tt) e = refl
zero-written (Err CarryRefusal.SourceLength) e = absurd (omega arith)
zero-written (Err CarryRefusal.AddedBytes) e = absurd (omega arith)
zero-written (Err CarryRefusal.TargetLength) e = absurd (omega arith)

-- three tests that pass
all-passed : (measured added room : Bool) → measured ≡ true → added ≡ true → room ≡ true → carry_answer measured added room ≡ Ok tt
all-passed measured added room e₁ e₂ e₃ = rw (e₁, e₂, e₃)

module _ (source target : List ℕ) where
  forward-written : length source ≡ old_length → image_length ≤ length target → forward_answer source target ≡ Ok tt
  unfolding forward_answer
  forward-written measured room =
      all-passed (eqb (length source) old_length) true (leb image_length (length target)) (eq-eqb (length source) old_length measured) refl
      (le-leb image_length (length target) room)

  back-written : length source ≡ image_length → drop old_length source ≡ added_bytes → old_length ≤ length target
      → back_answer source target ≡ Ok tt
  unfolding back_answer
  back-written measured added room =
      all-passed (eqb (length source) image_length) (has_added source) (leb old_length (length target)) (eq-eqb (length source) image_length measured)
      (true-added source added) (le-leb old_length (length target) room)

  -- and what a number of 0 tells
  pub forward-told : carry_number (forward_answer source target) ≡ 0 → (length source ≡ old_length) × (image_length ≤ length target)
  unfolding forward_answer
  forward-told none = let h = clear source target old_length image_length true (zero-written (forward_answer source target) none) in (h.0, h.2)

  pub back-told : carry_number (back_answer source target) ≡ 0
      → (length source ≡ image_length) × (drop old_length source ≡ added_bytes) × (old_length ≤ length target)
  unfolding back_answer
  back-told none =
      let h = clear source target image_length old_length (has_added source) (zero-written (back_answer source target) none) in
      (h.0, added_true source h.1, h.2)

-- ---- the images

forward-length : (source : List ℕ) → length source ≡ old_length → length (carried_forward source) ≡ image_length
forward-length source e = length-append source added_bytes ∙ rw e

back-length : (source : List ℕ) → length source ≡ image_length → length (carried_back source) ≡ old_length
back-length source e = length-take-le old_length source (omega (arith, e))

-- an image that can be carried back is what its old bytes are carried forward to
pub whole : (new : List ℕ) → drop old_length new ≡ added_bytes → carried_forward (carried_back new) ≡ new
whole new added = ap (λ (l : List ℕ). take old_length new ++ l) (sym added) ∙ take-append-drop old_length new

module _ (a : CarryAnswer) (image target : List ℕ) where
  into : a ≡ Ok tt → carried_into a image target ≡ image ++ drop (length image) target
  into e = ap (λ (k : CarryAnswer). carried_into k image target) e

  -- the image in the target, and the bytes behind it
  image-in : (k : ℕ) → a ≡ Ok tt → length image ≡ k → take k (carried_into a image target) ≡ image
  image-in k e long = ap (take k) (into e) ∙ take_at image _ k long

  rest_in : (k : ℕ) → a ≡ Ok tt → length image ≡ k → drop k (carried_into a image target) ≡ drop k target
  rest_in k e long = ap (drop k) (into e) ∙ drop_at image _ k long ∙ ap (λ (m : ℕ). drop m target) long

-- ---- each undoes the other

module _ (source target : List ℕ) where
  pub forward-none : length source ≡ old_length → image_length ≤ length target → (our_forward source target).number ≡ 0
  unfolding our_forward
  forward-none measured room = ap carry_number (forward-written source target measured room)

  pub back_none : length source ≡ image_length → drop old_length source ≡ added_bytes → old_length ≤ length target → (our_back source target).number ≡ 0
  unfolding our_back
  back_none measured added room = ap carry_number (back-written source target measured added room)

  pub new_is : length source ≡ old_length → image_length ≤ length target → new_in (our_forward source target) ≡ carried_forward source
  unfolding our_forward forward_into
  new_is measured room =
      image-in (forward_answer source target) (carried_forward source) target image_length (forward-written source target measured room) (forward-length source measured)

  pub told : (our_back source target).number ≡ 0 → (length source ≡ image_length) × (drop old_length source ≡ added_bytes) × (old_length ≤ length target)
  unfolding our_back
  told none = back-told source target none

  pub old-is : (our_back source target).number ≡ 0 → old_in (our_back source target) ≡ carried_back source
  unfolding our_back back_into
  old-is none =
      image-in (back_answer source target) (carried_back source) target old_length (zero-written (back_answer source target) none)
      (back-length source (back-told source target none).0)

there_and_back : (old t u : List ℕ) → length old ≡ old_length → image_length ≤ length t → old_length ≤ length u
    → ((our_forward old t).number ≡ 0) × ((our_back (new_in (our_forward old t)) u).number ≡ 0) × (old_in (our_back (new_in (our_forward old t)) u) ≡ old)
there_and_back old t u measured room room' =
    let new = new_is old t measured room in
    let none = back_none (carried_forward old) u (forward-length old measured) (drop_at old added_bytes old_length measured) room' in
    (forward-none old t measured room, rw new none, rw new (old-is (carried_forward old) u none ∙ take_at old added_bytes old_length measured))

back-and-there : (new t u : List ℕ) → (our_back new t).number ≡ 0 → image_length ≤ length u
    → ((our_forward (old_in (our_back new t)) u).number ≡ 0) × (new_in (our_forward (old_in (our_back new t)) u) ≡ new)
back-and-there new t u none room =
    let h = told new t none in
    let old = old-is new t none in
    let measured = back-length new h.0 in
    (rw old (forward-none (carried_back new) u measured room), rw old (new_is (carried_back new) u measured room ∙ whole new h.1))

pub round-trips : RoundTrips our_forward our_back
round-trips =
    record {
      old-new-old = there_and_back;
      new-old-new = back-and-there;
      allowed = λ new t measured room. (λ none. (told new t none).1, λ added. back_none new t measured added room);
    }

-- ---- refusals

-- a refused call, by its number
kept : (a : CarryAnswer) (image target : List ℕ) → 0 < carry_number a → carried_into a image target ≡ target
kept (Ok done) image target h = absurd (omega arith)
kept (Err CarryRefusal.SourceLength) image target h = refl
kept (Err CarryRefusal.AddedBytes) image target h = refl
kept (Err CarryRefusal.TargetLength) image target h = refl

-- the bytes behind the image, refused or not
rest-kept : (a : CarryAnswer) (k : ℕ) (image target : List ℕ) → (carry_number a ≡ 0 → length image ≡ k) → drop k (carried_into a image target) ≡ drop k target
rest-kept (Ok done) k image target long = rest_in (Ok done) image target k refl (long refl)
rest-kept (Err CarryRefusal.SourceLength) k image target long = refl
rest-kept (Err CarryRefusal.AddedBytes) k image target long = refl
rest-kept (Err CarryRefusal.TargetLength) k image target long = refl

pub refused-rightly : CarryRefusedRightly our_forward our_back
unfolding our_forward our_back forward_into back_into
refused-rightly =
    record {
      forward-number = forward-first;
      back-number = back-first;
      forward-keeps = λ source target h. kept (forward_answer source target) _ target h;
      back-keeps = λ source target h. kept (back_answer source target) _ target h;
      forward-rest = λ source target.
          rest-kept (forward_answer source target) image_length (carried_forward source) target (λ none. forward-length source (forward-told source target none).0);
      back-rest = λ source target.
          rest-kept (back_answer source target) old_length (carried_back source) target (λ none. back-length source (back-told source target none).0);
    }
