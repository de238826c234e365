-- Spec 6.9: the operating region of a reading.
-- Assumes nothing.
use Rattle.rules.specs.Regions.{voltage_region, frequency_region, worse}
use Rattle.rules.specs.declared.Region.{Region}
use Rattle.readings.specs.declared.reading.Reading.{Reading}

-- by the Category III voltage regions
abbrev pub region_at : Reading → Region
region_at r = worse (voltage_region r.low) (worse (voltage_region r.high) (frequency_region r.frequency))
