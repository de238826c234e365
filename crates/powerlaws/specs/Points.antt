-- Spec 3.5, 3.6: points of a curve that a sheet can hold.
-- Assumes nothing.
use Rattle.std.specs.Prelude.{List, [], ◌∷◌, ℕ, ◌≤◌, ◌<◌, T, ℤ, nat_abs}
use Rattle.std.specs.Int.Signed.{non_neg}
use Rattle.rules.specs.declared.Point.{Point}

-- a point whose voltage is at most 13000 and whose power lies from -10000 to 10000, as in every accepted sheet
pub record Allowed (p : Point) : Type 0 where
  pub volts-top : p.volts ≤ 13000
  pub power-top : nat_abs p.power ≤ 10000

-- allowed points from a on, their voltages rising strictly
abbrev pub RisesFrom : Point → List Point → Type 0
RisesFrom a [] = Allowed a
RisesFrom a (b ∷ rest) = Allowed a × (a.volts < b.volts) × RisesFrom b rest

-- the same of a whole curve
abbrev pub Rises : List Point → Type 0
Rises [] = Unit {0}
Rises (a ∷ rest) = RisesFrom a rest

-- P holds of every power
abbrev pub EachPower : (ℤ → Type 0) → List Point → Type 0
EachPower P [] = Unit {0}
EachPower P (a ∷ rest) = P a.power × EachPower P rest

-- no power is negative
abbrev pub NonNegative : List Point → Type 0
NonNegative points = EachPower (λ z. T (non_neg z)) points

-- two powers of a sheet's size, a gap between their voltages that is not 0, and a distance inside it
pub record Inside (left right : ℤ) (distance gap : ℕ) : Type 0 where
  pub left-top : nat_abs left ≤ 10000
  pub right-top : nat_abs right ≤ 10000
  pub gap-some : 0 < gap
  pub gap-top : gap ≤ 13000
  pub inside : distance ≤ gap
