-- Under accepted settings a reading in the enter-service range is in the continuous region, which that range lies in.
-- Assumes nothing.
use mathlib.Core.Path.{◌≡◌}
use mathlib.Core.Bool.{true}
use Rattle.rules.specs.Settings.{settings_accepted}
use Rattle.rules.specs.Regions.{voltage_region}
use Rattle.rules.specs.declared.Region.TheVariants.{Continuous}
use Rattle.rules.specs.declared.Settings.{Settings}
use Rattle.laws.proofs.InRange.{continuous-in, continuous-voltage}
use Rattle.readings.specs.declared.reading.Reading.{Reading}
use Rattle.counting.specs.Counting.{enters}
use Rattle.ridethrough.specs.Regions.{region_at}

pub continuous : (r : Reading) (s : Settings) → settings_accepted s ≡ true → enters r s ≡ true → region_at r ≡ Continuous
unfolding enters
continuous r s ok e = continuous-in s ok r.permit r.low r.high r.frequency e voltage_region continuous-voltage
