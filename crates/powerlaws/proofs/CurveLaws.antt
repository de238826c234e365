-- Spec 7.1 and 7.2, for any list of points: a curve keeps every bound and the sign that all its powers keep, and is the curve of fewer points on either side of a point.
-- Assumes nothing.
use mathlib.Core.Path.{◌≡◌, refl}
use mathlib.Core.Bool.{Bool, true, false, cond}
use mathlib.Core.List.{List, [], ◌∷◌}
use Prim.Native.Nat.{ℕ, ◌-◌, ◌≤◌, ◌<◌, zero-le}
use native.Mathlib.Omega.{arith}
use borrow.Author.Tests.{le-leb, lt-leb, leb-true, leb-false}
use lib.Dec.{T, leb}
use lib.IntN.{ℤ, pos, nat_abs}
use lib.Signed.{non_neg}
use Rattle.rules.specs.declared.Point.{Point}
use Rattle.rules.specs.Curves.{between, curve_from, curve}
use Rattle.powerlaws.specs.Points.{EachPower, NonNegative}
use Rattle.powerlaws.proofs.Shares.{between-small, between-non_neg}

-- ---- what holds of both powers holds between them

module _ (P : ℤ → Type 0) (way : (a b : Point) (v : ℕ) → a.volts ≤ v → v < b.volts → P a.power → P b.power → P (between a b v)) where
  chosen : (t : Bool) (x y : ℤ) → (t ≡ true → P x) → (t ≡ false → P y) → P (cond t x y)
  chosen true x y f g = f refl
  chosen false x y f g = g refl

  keeps-from : (a : Point) (rest : List Point) (v : ℕ) → P a.power → EachPower P rest → P (curve_from a rest v)
  unfolding curve_from
  keeps-from a [] v p ps = p
  keeps-from a (b ∷ rest) v p ps =
      chosen (leb b.volts v) _ _ (λ past. keeps-from b rest v ps.0 ps.1)
      (λ below. chosen (leb a.volts v) _ _ (λ on. way a b v (leb-true a.volts v on) (leb-false b.volts v below) p ps.0) (λ before. p))

  keeps : (points : List Point) (v : ℕ) → P (pos 0) → EachPower P points → P (curve points v)
  unfolding curve
  keeps [] v none ps = none
  keeps (a ∷ rest) v none ps = keeps-from a rest v ps.0 ps.1

pub curve-small : (top : ℕ) (points : List Point) (v : ℕ) → EachPower (λ z. nat_abs z ≤ top) points → nat_abs (curve points v) ≤ top
curve-small top points v small =
    keeps (λ z. nat_abs z ≤ top)
    (λ a b v from to left right. between-small top a.power b.power (v - a.volts) (b.volts - a.volts) (omega arith) left right)
    points v zero-le small

pub curve-non_neg : (points : List Point) (v : ℕ) → NonNegative points → T (non_neg (curve points v))
curve-non_neg points v kept =
    keeps (λ z. T (non_neg z))
    (λ a b v from to left right. between-non_neg a.power b.power (v - a.volts) (b.volts - a.volts) (omega arith) left right)
    points v tt kept

-- ---- on either side of a point

pub left-of : (a b : Point) (rest : List Point) (v : ℕ) → v < b.volts → curve (a ∷ b ∷ []) v ≡ curve (a ∷ b ∷ rest) v
unfolding curve curve_from
left-of a b rest v h = simp (lt-leb b.volts v h)

pub right_of : (a b : Point) (rest : List Point) (v : ℕ) → b.volts ≤ v → curve (b ∷ rest) v ≡ curve (a ∷ b ∷ rest) v
unfolding curve curve_from
right_of a b rest v h = simp (le-leb b.volts v h)
