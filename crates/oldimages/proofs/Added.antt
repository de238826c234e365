-- The test on what stands behind the bytes of an old image: it passes exactly where that is what carrying forward appends, and looks at four bytes.
-- Assumes nothing.
use mathlib.Core.Path.{◌≡◌, refl, sym, ap, ap₂, ◌∙◌}
use mathlib.Core.Bool.{Bool, true, false, true≢false, ◌&&◌, and-true}
use mathlib.Core.List.{List, [], ◌∷◌}
use Prim.Native.Nat.{ℕ, suc, ◌≤◌, ◌<◌}
use native.Mathlib.Omega.{arith}
use borrow.Author.Tests.{eqb-true, eq-eqb}
use lib.Dec.{eqb, lit<}
use lib.ListN.{length, drop, get_or, length-drop, drop_of_length-le}
use lib.Seq.{drop-cons}
use Rattle.rules.specs.Droop.{no_side}
use Rattle.rules.specs.Service.{recovery_top}
use Rattle.rules.specs.Images.{image_length}
use Rattle.oldimages.specs.OldImages.{old_length, added_bytes, same_bytes, has_added}

-- ---- as a fact about the bytes

both_true : (a b : Bool) → (a && b) ≡ true → (a ≡ true) × (b ≡ true)
both_true true b e = (refl, e)
both_true false b e = absurd (true≢false (sym e))

same_true : (l m : List ℕ) → same_bytes l m ≡ true → l ≡ m
same_true [] [] e = refl
same_true [] (c ∷ m) e = absurd (true≢false (sym e))
same_true (b ∷ l) [] e = absurd (true≢false (sym e))
same_true (b ∷ l) (c ∷ m) e =
    let h = both_true (eqb b c) (same_bytes l m) e in
    ap₂ ◌∷◌ (eqb-true b c h.0) (same_true l m h.1)

same_self : (l : List ℕ) → same_bytes l l ≡ true
same_self [] = refl
same_self (b ∷ l) = rw (eq-eqb b b refl) (same_self l)

module _ (source : List ℕ) where
  pub added_true : has_added source ≡ true → drop old_length source ≡ added_bytes
  added_true e = same_true (drop old_length source) added_bytes e

  pub true-added : drop old_length source ≡ added_bytes → has_added source ≡ true
  true-added e = rw e (same_self added_bytes)

  pub added-false : has_added source ≡ false → ¬ (drop old_length source ≡ added_bytes)
  added-false e same = true≢false (sym (true-added same) ∙ e)

  pub false-added : ¬ (drop old_length source ≡ added_bytes) → has_added source ≡ false
  false-added other = by (has_added source) refl
    where
      by : (t : Bool) → has_added source ≡ t → t ≡ false
      by true e = absurd (other (added_true e))
      by false e = refl

  -- ---- of an image: byte by byte

  last-four : length source ≡ image_length → drop old_length source ≡ get_or source 45 0 ∷ get_or source 46 0 ∷ get_or source 47 0 ∷ get_or source 48 0 ∷ []
  last-four long =
      let byte : (j : ℕ) → j < image_length → drop j source ≡ get_or source j 0 ∷ drop (suc j) source = λ j h. drop-cons source j 0 (omega (arith, h, long)) in
      let all : length source ≤ image_length = omega (arith, long) in
      rw (byte 45 (lit< tt), byte 46 (lit< tt), byte 47 (lit< tt), byte 48 (lit< tt), drop_of_length-le source all)

  pub by_bytes : length source ≡ image_length
      → has_added source
      ≡ (eqb (get_or source 45 0) recovery_top && (eqb (get_or source 46 0) no_side && (eqb (get_or source 47 0) 0 && eqb (get_or source 48 0) 0)))
  by_bytes long = rw (last-four long, and-true)

  -- another length
  pub not-added : ¬ (length source ≡ image_length) → has_added source ≡ false
  not-added other = false-added (λ same. other (omega (arith, ap length same, length-drop old_length source)))
