-- Spec 7.1, 7.2: the points and the two laws leave no choice, a curve that follows its points is one function.
-- Assumes nothing.
use mathlib.Core.Path.{◌≡◌, refl, sym, ap, ◌∙◌}
use mathlib.Core.Logic.{◌⊎◌, inl, inr}
use mathlib.Core.List.{List, [], ◌∷◌}
use Prim.Native.Nat.{ℕ, zero, suc, ◌+◌, ◌-◌, ◌≤◌, ◌<◌}
use native.Mathlib.Nat.{mul-le-mul_right, lt_of_not-le, not-suc-le-zero}
use native.Mathlib.Decide.{dec_le}
use native.Mathlib.Omega.{arith}
use borrow.Author.Tests.{leb-true}
use lib.IntN.{ℤ, pos, negsuc, nat_abs, ◌+ℤ◌, ◌-ℤ◌, -ℤ-+ℤ_cancel}
use lib.ListN.{length}
use lib.Signed.{le_z_yes, ◌≤ℤ◌}
use Rattle.rules.specs.Curves.{curve}
use Rattle.rules.specs.declared.Point.{Point}
use Rattle.claims.specs.Powers.{point_at, RisingPoints, CutTowardZero, OnTheLine, FollowsPoints}
use Rattle.theorems.proofs.Powers.{T_true, le-pos, curve-follows}

-- ---- a quotient without its fraction is one number

module _ (z : ℤ) (w : ℕ) where
  not-larger : (d f : ℤ) → CutTowardZero z w d → CutTowardZero z w f → nat_abs d ≤ nat_abs f
  not-larger d f p q = by (dec_le (nat_abs d) (nat_abs f))
    where
      by : Dec (nat_abs d ≤ nat_abs f) → nat_abs d ≤ nat_abs f
      by (yes h) = h
      by (no h) =
          let more : nat_abs f + 1 ≤ nat_abs d = omega (arith, lt_of_not-le h) in
          absurd (omega (arith, mul-le-mul_right w more, p.not-past, q.near))

  opposite : (n m : ℕ) → n ≡ suc m → CutTowardZero z w (pos n) → CutTowardZero z w (negsuc m) → ⊥
  opposite zero m e p q = omega (arith, e)
  opposite (suc n) m e p q = by z p.not-above q.not-below
    where
      by : (y : ℤ) → (y ≤ℤ pos 0 → pos (suc n) ≤ℤ pos 0) → (pos 0 ≤ℤ y → pos 0 ≤ℤ negsuc m) → ⊥
      by (pos k) above below = (below (le-pos 0 k (omega arith))).le
      by (negsuc k) above below = not-suc-le-zero (leb-true (suc n) 0 (T_true _ (above (le_z_yes tt)).le))

  same : (d f : ℤ) → nat_abs d ≡ nat_abs f → CutTowardZero z w d → CutTowardZero z w f → d ≡ f
  same (pos n) (pos m) e p q = ap pos e
  same (pos n) (negsuc m) e p q = absurd (opposite n m e p q)
  same (negsuc n) (pos m) e p q = absurd (opposite m n (sym e) q p)
  same (negsuc n) (negsuc m) e p q = ap negsuc (omega (arith, e))

  pub one-cut : (d f : ℤ) → CutTowardZero z w d → CutTowardZero z w f → d ≡ f
  one-cut d f p q = same d f (omega (arith, not-larger d f p q, not-larger f d q p)) p q

one_power : (a b : Point) (v : ℕ) (p q : ℤ) → OnTheLine a b v p → OnTheLine a b v q → p ≡ q
one_power a b v p q h k =
    sym (-ℤ-+ℤ_cancel p a.power)
    ∙ ap (λ (d : ℤ). d +ℤ a.power) (one-cut _ _ (p -ℤ a.power) (q -ℤ a.power) h.off k.off)
    ∙ -ℤ-+ℤ_cancel q a.power

-- ---- where a voltage lies along the points

abbrev FromLast : List Point → ℕ → Type 0
FromLast points v = (i : ℕ) × (suc i ≡ length points) × ((point_at points i).volts ≤ v)

abbrev OnALine : List Point → ℕ → Type 0
OnALine points v = (i : ℕ) × (suc i < length points) × ((point_at points i).volts ≤ v) × (v < (point_at points (suc i)).volts)

lies : (a : Point) (points : List Point) (v : ℕ) → a.volts ≤ v → FromLast (a ∷ points) v ⊎ OnALine (a ∷ points) v
lies a [] v h = inl (0, refl, h)
lies a (b ∷ points) v h = by (dec_le b.volts v) (lies b points v)
  where
    later : FromLast (b ∷ points) v ⊎ OnALine (b ∷ points) v → FromLast (a ∷ b ∷ points) v ⊎ OnALine (a ∷ b ∷ points) v
    later (inl p) = inl (suc p.0, ap suc p.1, p.2)
    later (inr p) = inr (suc p.0, omega (arith, p.1), p.2, p.3)

    by : Dec (b.volts ≤ v) → (b.volts ≤ v → FromLast (b ∷ points) v ⊎ OnALine (b ∷ points) v)
        → FromLast (a ∷ b ∷ points) v ⊎ OnALine (a ∷ b ∷ points) v
    by (yes past) rest = later (rest past)
    by (no before) rest = inr (0, omega arith, h, lt_of_not-le before)

-- ---- every function that follows the points is the curve

module _ (a : Point) (points : List Point) (rise : RisingPoints (a ∷ points)) (f : ℕ → ℤ) (follows : FollowsPoints (a ∷ points) f) (v : ℕ) where
  there : FromLast (a ∷ points) v ⊎ OnALine (a ∷ points) v → f v ≡ curve (a ∷ points) v
  there (inl p) = follows.from_last p.0 v p.1 p.2 ∙ sym ((curve-follows (a ∷ points) rise).from_last p.0 v p.1 p.2)
  there (inr p) =
      one_power (point_at (a ∷ points) p.0) (point_at (a ∷ points) (suc p.0)) v (f v) (curve (a ∷ points) v)
      (follows.on-the-line p.0 v p.1 p.2 p.3)
      ((curve-follows (a ∷ points) rise).on-the-line p.0 v p.1 p.2 p.3)

  by_place : Dec (a.volts ≤ v) → f v ≡ curve (a ∷ points) v
  by_place (yes h) = there (lies a points v h)
  by_place (no h) =
      let before : v ≤ a.volts = omega (arith, lt_of_not-le h) in
      follows.before-first v before ∙ sym ((curve-follows (a ∷ points) rise).before-first v before)

pub one-curve : (points : List Point) → 0 < length points → RisingPoints points → (f : ℕ → ℤ) → FollowsPoints points f → (v : ℕ) → f v ≡ curve points v
one-curve [] h rise f follows v = absurd (omega arith)
one-curve (a ∷ points) h rise f follows v = by_place a points rise f follows v (dec_le a.volts v)
