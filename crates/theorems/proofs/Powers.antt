-- Spec 7.1, 7.2, 7.4: the nameplate leaves the largest power that fits, and a curve follows its points.
-- Assumes nothing.
use mathlib.Core.Path.{◌≡◌, refl, sym, ap, ◌∙◌, subst}
use mathlib.Core.Bool.{Bool, true, false, cond}
use mathlib.Core.Logic.{inl, inr}
use mathlib.Core.List.{List, [], ◌∷◌}
use Prim.Native.Nat.{ℕ, zero, suc, ◌+◌, ◌-◌, ◌*◌, ◌/◌, ◌≤◌, ◌<◌}
use native.Mathlib.Nat.{mul_comm, mul-le-mul, zero-div, mul-div-le, lt-mul-div-succ, le_refl, le_of_suc-le-suc, not-suc-le-zero}
use native.Mathlib.Decide.{dec_le}
use native.Mathlib.Omega.{arith}
use borrow.Author.Tests.{le-leb, lt-leb, leb-true, ltb-true, ltb-false}
use lib.Dec.{T, leb, ltb}
use lib.IntN.{ℤ, pos, negsuc, neg_ℤ, nat_abs, ◌+ℤ◌, ◌-ℤ◌, ◌*ℤ◌, neg_ℤ-neg_ℤ, neg_ℤ-+ℤ, +ℤ_comm, +ℤ_idr, +ℤ-neg_ℤ_cancel, *ℤ-zero}
use lib.ListN.{length}
use lib.Signed.{quot_z, le_z, le_z_yes, ◌≤ℤ◌}
use Rattle.rules.specs.Curves.{between, curve_from, curve, nameplate}
use Rattle.rules.specs.declared.Point.{Point}
use Rattle.claims.specs.Powers.{LargestBeside, point_at, RisingPoints, Between, CutTowardZero, OnTheLine, FollowsPoints}
use Rattle.powerlaws.specs.Points.{Rises}
use Rattle.powerlaws.proofs.Magnitude.{abs-quot}
use Rattle.powerlaws.proofs.Shares.{right-power, share-le, quot-neg}
use Rattle.powerlaws.proofs.NameplateLaws.{used-small, nameplate-root}
use Rattle.powerlaws.proofs.CurveLaws.{right_of}

-- ---- the nameplate

pub nameplate-largest : (vars : ℤ) → nat_abs vars ≤ 10000 → LargestBeside vars (nameplate vars)
nameplate-largest vars small =
    let root = nameplate-root vars small in
    record {
      fits = omega (arith, root.low, used-small vars small);
      above = λ q h.
          let more : (nameplate vars + 1) * (nameplate vars + 1) ≤ q * q = mul-le-mul (omega (arith, h)) (omega (arith, h)) in
          omega (arith, root.high, used-small vars small, more);
    }

pub T_true : (b : Bool) → T b → b ≡ true
T_true true t = refl
T_true false t = absurd t

-- ---- a quotient

quot-cut : (z : ℤ) (w : ℕ) → 0 < w → CutTowardZero z w (quot_z z (pos w))
quot-cut z w some =
    record {
      not-past = rw (abs-quot z w) (rw (mul_comm (nat_abs z / w) w) (mul-div-le (nat_abs z) w));
      near = rw (abs-quot z w) (rw (mul_comm (nat_abs z / w + 1) w) (lt-mul-div-succ (nat_abs z) some));
      not-below = below z;
      not-above = above z;
    }
  where
    below : (y : ℤ) → pos 0 ≤ℤ y → pos 0 ≤ℤ quot_z y (pos w)
    below (pos n) h = le_z_yes (rw (le-leb 0 (n / w) (omega arith)) tt)
    below (negsuc n) h = absurd h.le

    not-positive : (n : ℕ) → neg_ℤ (pos n) ≤ℤ pos 0
    not-positive zero = le_z_yes tt
    not-positive (suc n) = le_z_yes tt

    above : (y : ℤ) → y ≤ℤ pos 0 → quot_z y (pos w) ≤ℤ pos 0
    above (pos zero) h = le_z_yes (rw (zero-div w) tt)
    above (pos (suc n)) h = absurd (not-suc-le-zero (leb-true (suc n) 0 (T_true _ h.le)))
    above (negsuc n) h = not-positive (suc n / w)

-- ---- more or less is added to a power

pub le-pos : (a b : ℕ) → a ≤ b → pos a ≤ℤ pos b
le-pos a b h = le_z_yes (rw (le-leb a b h) tt)

le_yes : (a b : ℕ) → a ≤ b → negsuc b ≤ℤ negsuc a
le_yes a b h = le_z_yes (rw (le-leb a b h) tt)

le-add : (a : ℤ) (j k : ℕ) → j ≤ k → (a +ℤ pos j) ≤ℤ (a +ℤ pos k)
le-add (pos m) j k h = le-pos (m + j) (m + k) (omega arith)
le-add (negsuc m) j k h = le_z_yes (by (ltb j (suc m)) refl (ltb k (suc m)) refl)
  where
    by : (s : Bool) → ltb j (suc m) ≡ s → (t : Bool) → ltb k (suc m) ≡ t
        → T (le_z (cond s (negsuc (suc m - suc j)) (pos (j - suc m))) (cond t (negsuc (suc m - suc k)) (pos (k - suc m))))
    by true p true q = rw (le-leb (suc m - suc k) (suc m - suc j) (omega arith)) tt
    by true p false q = tt
    by false p true q = absurd (omega (arith, ltb-false j (suc m) p, ltb-true k (suc m) q))
    by false p false q = rw (le-leb (j - suc m) (k - suc m) (omega arith)) tt

le-neg : (x y : ℤ) → x ≤ℤ y → neg_ℤ y ≤ℤ neg_ℤ x
le-neg (pos zero) (pos zero) h = le_z_yes tt
le-neg (pos zero) (pos (suc b)) h = le_z_yes tt
le-neg (pos (suc a)) (pos zero) h = absurd (not-suc-le-zero (leb-true (suc a) 0 (T_true _ h.le)))
le-neg (pos (suc a)) (pos (suc b)) h = le_yes a b (le_of_suc-le-suc (leb-true (suc a) (suc b) (T_true _ h.le)))
le-neg (pos a) (negsuc b) h = absurd h.le
le-neg (negsuc a) (pos zero) h = le-pos 0 (suc a) (omega arith)
le-neg (negsuc a) (pos (suc b)) h = le_z_yes tt
le-neg (negsuc a) (negsuc b) h = le-pos (suc b) (suc a) (omega (arith, leb-true b a (T_true _ h.le)))

-- less is taken from a power
le-less : (a : ℤ) (j k : ℕ) → j ≤ k → (a +ℤ neg_ℤ (pos k)) ≤ℤ (a +ℤ neg_ℤ (pos j))
le-less a j k h =
    let turned : (n : ℕ) → neg_ℤ (neg_ℤ a +ℤ pos n) ≡ a +ℤ neg_ℤ (pos n)
    = λ n. neg_ℤ-+ℤ (neg_ℤ a) (pos n) ∙ ap (λ (z : ℤ). z +ℤ neg_ℤ (pos n)) (neg_ℤ-neg_ℤ a) in
    rw (turned k, turned j) at (le-neg (neg_ℤ a +ℤ pos j) (neg_ℤ a +ℤ pos k) (le-add (neg_ℤ a) j k h))

-- ---- the line between two points

-- a share of a difference d, added to a, lies within a and a + d
share-within : (a d : ℤ) (x g : ℕ) → x ≤ g → Between a (a +ℤ d) (a +ℤ quot_z (d *ℤ pos x) (pos g))
share-within a (pos n) x g h =
    inl (rw +ℤ_idr at (le-add a 0 (n * x / g) (omega arith)), le-add a (n * x / g) n (share-le n x g h))
share-within a (negsuc n) x g h =
    rw quot-neg (inr (le-less a (suc n * x / g) (suc n) (share-le (suc n) x g h), rw +ℤ_idr at (le-less a 0 (suc n * x / g) (omega arith))))

line : (a b : Point) (v : ℕ) → a.volts ≤ v → v < b.volts → OnTheLine a b v (between a b v)
line a b v from to =
    let d = b.power -ℤ a.power in
    let x = v - a.volts in
    let g = b.volts - a.volts in
    let q = quot_z (d *ℤ pos x) (pos g) in
    let share : q ≡ (a.power +ℤ q) -ℤ a.power = sym (ap (λ (z : ℤ). z -ℤ a.power) (+ℤ_comm a.power q) ∙ +ℤ-neg_ℤ_cancel q a.power) in
    record {
      within = subst (λ (z : ℤ). Between a.power z (a.power +ℤ q)) (right-power a.power b.power) (share-within a.power d x g (omega arith));
      off = subst (λ (z : ℤ). CutTowardZero (d *ℤ pos x) g z) share (quot-cut (d *ℤ pos x) g (omega arith));
    }

-- at the left point, and before it
at_left : (a b : Point) (v : ℕ) → v ≤ a.volts → between a b v ≡ a.power
at_left a b v h =
    let none : v - a.volts ≡ 0 = omega arith in
    rw (none, *ℤ-zero, zero-div, +ℤ_idr)

-- ---- along the points

rising-rest : (a : Point) (points : List Point) → RisingPoints (a ∷ points) → RisingPoints points
rising-rest a points rise i h = rise (suc i) (omega arith)

first-lowest : (points : List Point) → RisingPoints points → (i : ℕ) → i < length points → (point_at points 0).volts ≤ (point_at points i).volts
first-lowest [] rise i h = absurd (not-suc-le-zero h)
first-lowest (a ∷ points) rise zero h = le_refl a.volts
first-lowest (a ∷ []) rise (suc i) h = absurd (not-suc-le-zero (le_of_suc-le-suc h))
first-lowest (a ∷ b ∷ points) rise (suc i) h =
    omega (arith, rise 0 (omega arith), first-lowest (b ∷ points) (rising-rest a (b ∷ points) rise) i (le_of_suc-le-suc h))

on-segment : (points : List Point) → RisingPoints points → (i v : ℕ) → suc i < length points → (point_at points i).volts ≤ v → v < (point_at points (suc i)).volts
    → curve points v ≡ between (point_at points i) (point_at points (suc i)) v
unfolding curve curve_from
on-segment [] rise i v h from to = absurd (not-suc-le-zero h)
on-segment (a ∷ []) rise i v h from to = absurd (not-suc-le-zero (le_of_suc-le-suc h))
on-segment (a ∷ b ∷ points) rise zero v h from to = simp (lt-leb b.volts v to, le-leb a.volts v from)
on-segment (a ∷ b ∷ points) rise (suc i) v h from to =
    let rest = rising-rest a (b ∷ points) rise in
    let past : b.volts ≤ v = omega (arith, first-lowest (b ∷ points) rest i (omega arith), from) in
    sym (right_of a b points v past) ∙ on-segment (b ∷ points) rest i v (le_of_suc-le-suc h) from to

past-last : (points : List Point) → RisingPoints points → (i v : ℕ) → suc i ≡ length points → (point_at points i).volts ≤ v
    → curve points v ≡ (point_at points i).power
unfolding curve curve_from
past-last [] rise i v h from = absurd (omega (arith, h))
past-last (a ∷ []) rise zero v h from = refl
past-last (a ∷ []) rise (suc i) v h from = absurd (omega (arith, h))
past-last (a ∷ b ∷ points) rise zero v h from = absurd (omega (arith, h))
past-last (a ∷ b ∷ points) rise (suc i) v h from =
    let rest = rising-rest a (b ∷ points) rise in
    let past : b.volts ≤ v = omega (arith, first-lowest (b ∷ points) rest i (omega (arith, h)), from) in
    sym (right_of a b points v past) ∙ past-last (b ∷ points) rest i v (omega (arith, h)) from

flat-before : (points : List Point) → RisingPoints points → (v : ℕ) → v ≤ (point_at points 0).volts → curve points v ≡ (point_at points 0).power
unfolding curve curve_from
flat-before [] rise v h = refl
flat-before (a ∷ []) rise v h = refl
flat-before (a ∷ b ∷ points) rise v h = rw (lt-leb b.volts v (omega (arith, rise 0 (omega arith)))) (by (leb a.volts v))
  where
    by : (t : Bool) → cond t (between a b v) a.power ≡ a.power
    by true = at_left a b v h
    by false = refl

module _ (points : List Point) (rise : RisingPoints points) where
  at_each : (i : ℕ) → i < length points → curve points (point_at points i).volts ≡ (point_at points i).power
  at_each i h = by (dec_le (suc (suc i)) (length points))
    where
      by : Dec (suc (suc i) ≤ length points) → curve points (point_at points i).volts ≡ (point_at points i).power
      by (yes more) =
          on-segment points rise i (point_at points i).volts more (le_refl _) (rise i more)
          ∙ at_left (point_at points i) (point_at points (suc i)) (point_at points i).volts (le_refl _)
      by (no last) = past-last points rise i (point_at points i).volts (omega (arith, h, last)) (le_refl _)

  pub curve-follows : FollowsPoints points (curve points)
  curve-follows =
      record {
        at-point = at_each;
        before-first = flat-before points rise;
        from_last = past-last points rise;
        on-the-line = λ i v h from to.
            subst (λ (p : ℤ). OnTheLine (point_at points i) (point_at points (suc i)) v p) (sym (on-segment points rise i v h from to))
            (line (point_at points i) (point_at points (suc i)) v from to);
      }

-- ---- the points of an accepted sheet rise

pub rising-points : (points : List Point) → Rises points → RisingPoints points
rising-points [] r i h = absurd (not-suc-le-zero h)
rising-points (a ∷ []) r i h = absurd (not-suc-le-zero (le_of_suc-le-suc h))
rising-points (a ∷ b ∷ points) r zero h = r.1
rising-points (a ∷ b ∷ points) r (suc i) h = rising-points (b ∷ points) r.2 i (le_of_suc-le-suc h)
