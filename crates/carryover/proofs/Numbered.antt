-- Each number of carrying over is given for what spec 9.8 says, and for nothing else.
-- Assumes nothing.
use mathlib.Core.Path.{◌≡◌, refl, sym}
use mathlib.Core.Bool.{Bool, true, false, true≢false}
use mathlib.Core.Logic.{◌↔◌}
use mathlib.Core.List.{List, [], ◌∷◌}
use Prim.Native.Nat.{ℕ, ◌<◌}
use native.Mathlib.Omega.{arith}
use borrow.Author.Tests.{eqb-true, eqb-false, leb-false, eq-eqb, ne_eqb, lt-leb}
use lib.Dec.{eqb, leb}
use lib.ListN.{length, drop}
use Rattle.oldimages.specs.OldImages.{has_added}
use Rattle.carryover.specs.CarryOver.{carry_number, carry_answer, forward_answer, back_answer}
use Rattle.carryover.specs.Carries.{our_forward, our_back, CarryNumbered}
use Rattle.oldimages.proofs.Added.{added_true, true-added, added-false, false-added}
use Rattle.carryover.proofs.Carrying.{forward-told, told, forward-none, back_none}

-- ---- by the three tests

abbrev Numbered : ℕ → Bool → Bool → Bool → Type 0
Numbered n measured added room = carry_number (carry_answer measured added room) ≡ n

by-10 : (measured added room : Bool) → Numbered 10 measured added room ↔ (measured ≡ false)
by-10 true true true = (λ e. absurd (omega (arith, e)), λ e. absurd (true≢false e))
by-10 true true false = (λ e. absurd (omega (arith, e)), λ e. absurd (true≢false e))
by-10 true false room = (λ e. absurd (omega (arith, e)), λ e. absurd (true≢false e))
by-10 false added room = (λ e. refl, λ e. refl)

by-11 : (measured added room : Bool) → Numbered 11 measured added room ↔ ((measured ≡ true) × (added ≡ false))
by-11 true true true = (λ e. absurd (omega (arith, e)), λ e. absurd (true≢false e.1))
by-11 true true false = (λ e. absurd (omega (arith, e)), λ e. absurd (true≢false e.1))
by-11 true false room = (λ e. (refl, refl), λ e. refl)
by-11 false added room = (λ e. absurd (omega (arith, e)), λ e. absurd (true≢false (sym e.0)))

by-9 : (measured added room : Bool) → Numbered 9 measured added room ↔ ((measured ≡ true) × (added ≡ true) × (room ≡ false))
by-9 true true true = (λ e. absurd (omega (arith, e)), λ e. absurd (true≢false e.2))
by-9 true true false = (λ e. (refl, refl, refl), λ e. refl)
by-9 true false room = (λ e. absurd (omega (arith, e)), λ e. absurd (true≢false (sym e.1)))
by-9 false added room = (λ e. absurd (omega (arith, e)), λ e. absurd (true≢false (sym e.0)))

-- ---- by the lengths, and the bytes that are appended

module _ (source target : List ℕ) where
  forward-10 : ((our_forward source target).number ≡ 10) ↔ (¬ (length source ≡ 45))
  unfolding our_forward forward_answer
  forward-10 =
      let h = by-10 (eqb (length source) 45) true (leb 49 (length target)) in
      (λ e. eqb-false (length source) 45 (h.0 e), λ other. h.1 (ne_eqb (length source) 45 other))

  forward-9 : ((our_forward source target).number ≡ 9) ↔ ((length source ≡ 45) × (length target < 49))
  unfolding our_forward forward_answer
  forward-9 =
      let h = by-9 (eqb (length source) 45) true (leb 49 (length target)) in (
        λ e. (eqb-true (length source) 45 (h.0 e).0, leb-false 49 (length target) (h.0 e).2),
        λ p. h.1 (eq-eqb (length source) 45 p.0, refl, lt-leb 49 (length target) p.1),
      )

  back-10 : ((our_back source target).number ≡ 10) ↔ (¬ (length source ≡ 49))
  unfolding our_back back_answer
  back-10 =
      let h = by-10 (eqb (length source) 49) (has_added source) (leb 45 (length target)) in
      (λ e. eqb-false (length source) 49 (h.0 e), λ other. h.1 (ne_eqb (length source) 49 other))

  back-11 : ((our_back source target).number ≡ 11) ↔ ((length source ≡ 49) × (¬ (drop 45 source ≡ 40 ∷ 0 ∷ 0 ∷ 0 ∷ [])))
  unfolding our_back back_answer
  back-11 =
      let h = by-11 (eqb (length source) 49) (has_added source) (leb 45 (length target)) in (
        λ e. (eqb-true (length source) 49 (h.0 e).0, added-false source (h.0 e).1),
        λ p. h.1 (eq-eqb (length source) 49 p.0, false-added source p.1),
      )

  back-9 : ((our_back source target).number ≡ 9) ↔ ((length source ≡ 49) × (drop 45 source ≡ 40 ∷ 0 ∷ 0 ∷ 0 ∷ []) × (length target < 45))
  unfolding our_back back_answer
  back-9 =
      let h = by-9 (eqb (length source) 49) (has_added source) (leb 45 (length target)) in (
        λ e. (eqb-true (length source) 49 (h.0 e).0, added_true source (h.0 e).1, leb-false 45 (length target) (h.0 e).2),
        λ p. h.1 (eq-eqb (length source) 49 p.0, true-added source p.1, lt-leb 45 (length target) p.2),
      )

pub numbered : CarryNumbered our_forward our_back
unfolding our_forward
numbered =
    record {
      forward-10 = forward-10;
      forward-9 = forward-9;
      forward-0 = λ source target. (forward-told source target, λ p. forward-none source target p.0 p.1);
      back-10 = back-10;
      back-11 = back-11;
      back-9 = back-9;
      back-0 = λ source target. (told source target, λ p. back_none source target p.0 p.1 p.2);
    }
