-- Laws of `specs/First.antt`, as a loop over the places of a slice uses them: its start (`none`), one more place (`inside`), and its end at
-- the limit or at the list's end (`ends`).
-- Assumes nothing.
use mathlib.Core.Path.{◌≡◌, refl, sym, ap, ◌∙◌}
use Prim.Native.Nat.{ℕ, zero, suc, ◌+◌, ◌*◌, ◌≤◌, ◌<◌, min, zero-le}
use native.Mathlib.Nat.{le_antisymm, lt_of_le_of_lt, mul-le-mul_right, add_assoc, add-zero, zero-add, min-zero, zero-min, suc-min-suc, le_of_suc-le-suc, not-suc-le-zero}
use native.Mathlib.Numerals.{add-one}
use native.Mathlib.Omega.{arith}
use mathlib.Core.List.{List, [], ◌∷◌}
use lib.ListN.{length, get_or, set}
use Rattle.walk.specs.First.{sum_first, map_first}

-- a place up to the limit and the list's end, where the loop ends
at-end : (i n c m : ℕ) → n ≡ min c m → i ≤ n → n ≤ i → i ≡ min c m
at-end i n c m e l g = le_antisymm l g ∙ e

module _ {A : Type 0} (g : A → ℕ) where
  pub sum-none : (us : List A) → 0 ≡ sum_first g 0 us
  unfolding sum_first
  sum-none us = refl

  sum-suc : (i : ℕ) (us : List A) (d : A) → i < length us → sum_first g i us + g (get_or us i d) ≡ sum_first g (suc i) us
  unfolding sum_first
  sum-suc i [] d l = absurd (not-suc-le-zero l)
  sum-suc zero (u ∷ us) d l = simp (add-zero, zero-add)
  sum-suc (suc i) (u ∷ us) d l = add_assoc (g u) (sum_first g i us) (g (get_or us i d)) ∙ ap (λ (n : ℕ). g u + n) (sum-suc i us d (le_of_suc-le-suc l))

  pub sum_inside : (i r : ℕ) (us : List A) (d : A) → i < length us → r ≡ g (get_or us i d) → sum_first g i us + r ≡ sum_first g (i + 1) us
  sum_inside i r us d l e = ap (λ (n : ℕ). sum_first g i us + n) e ∙ sum-suc i us d l ∙ ap (λ (n : ℕ). sum_first g n us) (sym (add-one i))

  pub sum-held : (m : ℕ) → ((u : A) → g u ≤ m) → (i : ℕ) (us : List A) → sum_first g i us ≤ i * m
  unfolding sum_first
  sum-held m h zero us = zero-le
  sum-held m h (suc i) [] = zero-le
  sum-held m h (suc i) (u ∷ us) = let p = h u in let q = sum-held m h i us in omega (arith, p, q)

  pub sum_fits : (m : ℕ) → ((u : A) → g u ≤ m) → (k b : ℕ) → k * m < b → (i : ℕ) (us : List A) → i ≤ k → sum_first g i us < b
  sum_fits m h k b small i us l = lt_of_le_of_lt (sum-held m h i us) (lt_of_le_of_lt (mul-le-mul_right m l) small)

  sum-stops : (n : ℕ) (us : List A) → sum_first g (min (length us) n) us ≡ sum_first g n us
  unfolding sum_first
  sum-stops zero us = simp (min-zero (length us))
  sum-stops (suc n) [] = simp (zero-min (suc n))
  sum-stops (suc n) (u ∷ us) = simp (suc-min-suc (length us) n, sum-stops n us)

  pub sum-ends : (m i n : ℕ) (us : List A) → n ≡ min (length us) m → i ≤ n → n ≤ i → sum_first g i us ≡ sum_first g m us
  sum-ends m i n us e l k = ap (λ (j : ℕ). sum_first g j us) (at-end i n (length us) m e l k) ∙ sum-stops m us

module _ {A : Type 0} (f : A → A) where
  pub map-none : (us : List A) → us ≡ map_first f 0 us
  unfolding map_first
  map-none us = refl

  pub map-long : (i : ℕ) (us : List A) → length (map_first f i us) ≡ length us
  unfolding map_first
  map-long zero us = refl
  map-long (suc i) [] = refl
  map-long (suc i) (u ∷ us) = ap suc (map-long i us)

  map-suc : (i : ℕ) (us : List A) (d : A) → i < length (map_first f i us) → set (map_first f i us) i (f (get_or (map_first f i us) i d)) ≡ map_first f (suc i) us
  unfolding map_first
  map-suc zero [] d l = absurd (not-suc-le-zero l)
  map-suc zero (u ∷ us) d l = refl
  map-suc (suc i) [] d l = absurd (not-suc-le-zero l)
  map-suc (suc i) (u ∷ us) d l = ap (λ (vs : List A). f u ∷ vs) (map-suc i us d (le_of_suc-le-suc l))

  pub map-inside : (us : List A) (i : ℕ) (r d : A) → i < length (map_first f i us) → r ≡ f (get_or (map_first f i us) i d) → set (map_first f i us) i r ≡ map_first f (i + 1) us
  map-inside us i r d l e = ap (λ (u : A). set (map_first f i us) i u) e ∙ map-suc i us d l ∙ ap (λ (n : ℕ). map_first f n us) (sym (add-one i))

  map-stops : (n : ℕ) (us : List A) → map_first f (min (length us) n) us ≡ map_first f n us
  unfolding map_first
  map-stops zero us = simp (min-zero (length us))
  map-stops (suc n) [] = simp (zero-min (suc n))
  map-stops (suc n) (u ∷ us) = simp (suc-min-suc (length us) n, map-stops n us)

  pub map-ends : (m i n : ℕ) (us : List A) → n ≡ min (length us) m → i ≤ n → n ≤ i → map_first f i us ≡ map_first f m us
  map-ends m i n us e l k = ap (λ (j : ℕ). map_first f j us) (at-end i n (length us) m e l k) ∙ map-stops m us
