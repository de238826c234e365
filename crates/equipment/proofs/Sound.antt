-- Our sensing table and the Category III voltage regions have the facts that the demands rest on.
-- Assumes nothing.
use Prim.Native.Nat.{◌≤◌, ◌<◌, zero-le}
use native.Mathlib.Omega.{arith}
use lib.Dec.{lit≤, lit<}
use Rattle.rules.specs.Sensing.{voltage, largest}
use Rattle.rules.specs.Regions.{our_equipment}
use Rattle.claims.specs.Sound.{Sound}
use Rattle.roots.proofs.Voltages.{voltage-rises}
use Rattle.laws.proofs.InRange.{continuous-voltage}

high-voltage : 12000 < voltage 4095
unfolding voltage largest
high-voltage = lit< tt

nominal-low : 9500 ≤ voltage 1000
unfolding voltage largest
nominal-low = lit≤ tt

nominal-high : voltage 1000 ≤ 10500
unfolding voltage largest
nominal-high = lit≤ tt

pub our-equipment-sound : Sound our_equipment
our-equipment-sound =
    record {
      least = λ c h. voltage-rises 0 c zero-le (omega arith);
      above = high-voltage;
      nominal = 1000;
      nominal-code = omega arith;
      nominal-low = nominal-low;
      nominal-high = nominal-high;
      continuous = continuous-voltage;
    }
