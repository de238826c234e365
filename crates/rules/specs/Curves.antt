-- Spec 7.1, 7.2, 7.4: the volt-var and volt-watt curves, and the nameplate's apparent power.
-- Assumes nothing.
use Rattle.std.specs.Prelude.{cond, List, [], ◌∷◌, ℕ, ◌+◌, ◌-◌, ◌*◌, leb, ℤ, pos, nat_abs, ◌+ℤ◌, ◌-ℤ◌, ◌*ℤ◌}
use Rattle.std.specs.Int.Signed.{quot_z}
use Rattle.rules.specs.Sensing.{largest}
use Rattle.rules.specs.declared.Point.{Point}

-- spec 7.2: between two points, with `quot_z` the quotient that loses its fraction toward zero
abbrev pub between : Point → Point → ℕ → ℤ
between a b v = a.power +ℤ quot_z ((b.power -ℤ a.power) *ℤ pos (v - a.volts)) (pos (b.volts - a.volts))

-- spec 7.1: along the points from a: from the next point on the rest of the curve, before a flat, and past the last point flat
unfoldable pub curve_from : Point → List Point → ℕ → ℤ
curve_from a [] v = a.power
curve_from a (b ∷ rest) v = cond (leb b.volts v) (curve_from b rest v) (cond (leb a.volts v) (between a b v) a.power)

-- the volt-var or volt-watt curve at a voltage
unfoldable pub curve : List Point → ℕ → ℤ
curve [] v = pos 0
curve (a ∷ rest) v = curve_from a rest v

-- spec 7.4: the active power that the nameplate leaves beside vars
unfoldable pub nameplate : ℤ → ℕ
nameplate vars = largest (λ p. leb (p * p + nat_abs vars * nat_abs vars) 100000000) 10000
