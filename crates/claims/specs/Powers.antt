-- Spec 7.1, 7.2, 7.4: what the nameplate leaves and what a curve gives, said of any number and any function of the voltage, without a search and
-- without a run along the points.
-- Assumes nothing.
use Rattle.std.specs.Prelude.{◌≡◌, ◌⊎◌, List, ℕ, suc, ◌+◌, ◌-◌, ◌*◌, ◌≤◌, ◌<◌, ℤ, pos, nat_abs, ◌-ℤ◌, ◌*ℤ◌, length, get_or, ◌≤ℤ◌}
use Rattle.rules.specs.declared.Point.{Point}

-- spec 7.4: beside these vars p fits the rating, and nothing above p does
pub record LargestBeside (vars : ℤ) (p : ℕ) : Type 0 where
  pub fits : p * p + nat_abs vars * nat_abs vars ≤ 100000000
  pub above : (q : ℕ) → p < q → 100000000 < q * q + nat_abs vars * nat_abs vars

-- point i of a curve, from 0
abbrev pub point_at : List Point → ℕ → Point
point_at points i = get_or points i (record { volts = 0; power = pos 0 })

-- spec 3.6: each point's voltage is greater than the one before
abbrev pub RisingPoints : List Point → Type 0
RisingPoints points = (i : ℕ) → suc i < length points → (point_at points i).volts < (point_at points (suc i)).volts

-- from one power to another, whichever is greater
abbrev pub Between : ℤ → ℤ → ℤ → Type 0
Between left right z = ((left ≤ℤ z) × (z ≤ℤ right)) ⊎ ((right ≤ℤ z) × (z ≤ℤ left))

-- d is z ÷ w without its fraction: d × w reaches z but for less than w, from the side of 0
pub record CutTowardZero (z : ℤ) (w : ℕ) (d : ℤ) : Type 0 where
  pub not-past : nat_abs d * w ≤ nat_abs z
  pub near : nat_abs z < (nat_abs d + 1) * w
  pub not-below : pos 0 ≤ℤ z → pos 0 ≤ℤ d
  pub not-above : z ≤ℤ pos 0 → d ≤ℤ pos 0

-- spec 7.2: at v, on or after a and before b, the power p lies within the two powers; and p less a's power is the exact line's without its
-- fraction, so that p is off the line by less than one, toward a's power
pub record OnTheLine (a b : Point) (v : ℕ) (p : ℤ) : Type 0 where
  pub within : Between a.power b.power p
  pub off : CutTowardZero ((b.power -ℤ a.power) *ℤ pos (v - a.volts)) (b.volts - a.volts) (p -ℤ a.power)

-- spec 7.1, 7.2: the power at each voltage, by the points
pub record FollowsPoints (points : List Point) (power : ℕ → ℤ) : Type 0 where
  pub at-point : (i : ℕ) → i < length points → power (point_at points i).volts ≡ (point_at points i).power
  pub before-first : (v : ℕ) → v ≤ (point_at points 0).volts → power v ≡ (point_at points 0).power
  pub from_last : (i v : ℕ) → suc i ≡ length points → (point_at points i).volts ≤ v → power v ≡ (point_at points i).power
  pub on-the-line : (i v : ℕ) → suc i < length points → (point_at points i).volts ≤ v → v < (point_at points (suc i)).volts
      → OnTheLine (point_at points i) (point_at points (suc i)) v (power v)
