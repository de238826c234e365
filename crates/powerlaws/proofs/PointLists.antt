-- An array of points as a list: its elements, and what rising says of them.
-- Assumes nothing.
use mathlib.Core.Path.{◌≡◌, refl, sym, ◌∙◌}
use mathlib.Core.List.{List, [], ◌∷◌, map}
use Prim.Native.Nat.{ℕ, ◌≤◌}
use native.Mathlib.Omega.{arith}
use lib.IntN.{pos, nat_abs}
use lib.ListN.{length, get_or, length-map}
use Rattle.rules.specs.declared.Point.{Point}
use Rattle.powerlaws.specs.Points.{Allowed, RisesFrom, Rises, EachPower}

abbrev pub point-at : List Point → ℕ → Point
point-at l i = get_or l i (record { volts = 0; power = pos 0 })

pub two : (l : List Point) → length l ≡ 2 → l ≡ point-at l 0 ∷ point-at l 1 ∷ []
two [] e = absurd (omega arith)
two (a ∷ []) e = absurd (omega arith)
two (a ∷ b ∷ []) e = refl
two (a ∷ b ∷ c ∷ l) e = absurd (omega arith)

pub four : (l : List Point) → length l ≡ 4 → l ≡ point-at l 0 ∷ point-at l 1 ∷ point-at l 2 ∷ point-at l 3 ∷ []
four [] e = absurd (omega arith)
four (a ∷ []) e = absurd (omega arith)
four (a ∷ b ∷ []) e = absurd (omega arith)
four (a ∷ b ∷ c ∷ []) e = absurd (omega arith)
four (a ∷ b ∷ c ∷ d ∷ []) e = refl
four (a ∷ b ∷ c ∷ d ∷ f ∷ l) e = absurd (omega arith)

-- what owning an array of structs tells of its list
pub unmapped : (X : Type 0) (l : List Point) (f : Point → X) (n : ℕ) → length (map f l) ≡ n → length l ≡ n
unmapped X l f n e = sym (length-map l f) ∙ e

-- ---- rising points

head-allowed : (a : Point) (rest : List Point) → RisesFrom a rest → Allowed a
head-allowed a [] r = r
head-allowed a (b ∷ rest) r = r.0

small-from : (a : Point) (rest : List Point) → RisesFrom a rest → EachPower (λ z. nat_abs z ≤ 10000) (a ∷ rest)
small-from a [] r = (r.power-top, tt)
small-from a (b ∷ rest) r = (r.0.power-top, small-from b rest r.2)

-- powers of rising points are within the sheet's
pub powers-small : (points : List Point) → Rises points → EachPower (λ z. nat_abs z ≤ 10000) points
powers-small [] r = tt
powers-small (a ∷ rest) r = small-from a rest r

-- the first two of rising points rise
pub first_two : (a b : Point) (rest : List Point) → Rises (a ∷ b ∷ rest) → Rises (a ∷ b ∷ [])
first_two a b rest r = (r.0, r.1, head-allowed b rest r.2)
