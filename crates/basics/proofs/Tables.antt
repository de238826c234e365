-- A list is its elements, place by place; a table of a function's values.
-- Assumes nothing.
use mathlib.Core.Path.{◌≡◌, refl, ap, ap₂, ◌∙◌}
use mathlib.Core.List.{List, [], ◌∷◌, ◌++◌, map, append_assoc}
use Prim.Native.Nat.{ℕ, zero, suc, ◌+◌, ◌<◌}
use native.Mathlib.Nat.{not-suc-le-zero, le_of_suc-le-suc, add-zero, add-suc, suc-add}
use native.Mathlib.Numerals.{add-one}
use lib.ListN.{length, get_or, length-append}
use lib.Seq.{get_or-append_seam}

-- n elements of f, tabulated from i
abbrev pub tabulated : {A : Type 0} → (ℕ → A) → ℕ → ℕ → List A
tabulated f i zero = []
tabulated f i (suc n) = f i ∷ tabulated f (suc i) n

module _ {A B : Type 0} (f : A → B) (d : A) where
  tabulated-after : (before l : List A) → tabulated (λ k. f (get_or (before ++ l) k d)) (length before) (length l) ≡ map f l
  tabulated-after before [] = refl
  tabulated-after before (x ∷ l) =
      let longer : length (before ++ (x ∷ [])) ≡ suc (length before) = length-append before (x ∷ []) ∙ add-one (length before) in
      ap₂ (λ (y : B) (ys : List B). y ∷ ys) (ap f (get_or-append_seam before x l d))
      (rw (longer, append_assoc before (x ∷ []) l) at (tabulated-after (before ++ (x ∷ [])) l))

  pub tabulated-all : (n : ℕ) (l : List A) → length l ≡ n → tabulated (λ k. f (get_or l k d)) 0 n ≡ map f l
  tabulated-all n l e = rw (← e) (tabulated-after [] l)

map_same : {A : Type 0} (l : List A) → map (λ (x : A). x) l ≡ l
map_same [] = refl
map_same (x ∷ l) = ap (λ (k : List _). x ∷ k) (map_same l)

pub tabulated-same : {A : Type 0} (d : A) (n : ℕ) (l : List A) → length l ≡ n → tabulated (λ k. get_or l k d) 0 n ≡ l
tabulated-same d n l e = tabulated-all (λ x. x) d n l e ∙ map_same l

-- the element at a place, with more after the table
pub tabulated-at : {A : Type 0} (f : ℕ → A) (i n : ℕ) (rest : List A) (k : ℕ) (d : A) → k < n → get_or (tabulated f i n ++ rest) k d ≡ f (i + k)
tabulated-at f i zero rest k d h = absurd (not-suc-le-zero h)
tabulated-at f i (suc n) rest zero d h = rw add-zero
tabulated-at f i (suc n) rest (suc k) d h = rw (add-suc, ← suc-add) (tabulated-at f (suc i) n rest k d (le_of_suc-le-suc h))
