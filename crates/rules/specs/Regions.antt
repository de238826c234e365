-- Spec 6.7 to 6.9: the operating regions of ride-through.
-- Assumes nothing.
use Rattle.std.specs.Prelude.{Bool, true, false, cond, List, ℕ, leb, ltb, get_or}
use Rattle.rules.specs.Tests.{within}
use Rattle.rules.specs.Sensing.{voltage}
use Rattle.rules.specs.Samples.{Slice, Equipment, frequency, lowest, highest}
use Rattle.rules.specs.declared.Settings.{Settings}
use Rattle.rules.specs.declared.Region.{Region}
use Rattle.rules.specs.declared.Region.TheVariants.{Continuous, Mandatory, Momentary, Cease}

-- spec 6.7: of a voltage (Category III)
unfoldable pub voltage_region : ℕ → Region
voltage_region v =
    cond (ltb 12000 v) Cease
    (cond (ltb 11000 v) Momentary
    (cond (leb 8800 v) Continuous
    (cond (leb 5000 v) Mandatory
    Momentary)))

-- spec 6.8: of a frequency; no ride-through is asked for below 57.0 Hz or above 62.0 Hz
unfoldable pub frequency_region : ℕ → Region
frequency_region f =
    cond (within 58800 61200 f) Continuous
    (cond (within 57000 62000 f) Mandatory
    Cease)

-- spec 6.9: from good to bad
abbrev pub rank : Region → ℕ
rank Continuous = 0
rank Mandatory = 1
rank Momentary = 2
rank Cease = 3

abbrev pub worse : Region → Region → Region
worse a b = cond (leb (rank b) (rank a)) a b

-- the region of a voltage for a board under these settings; today the settings have no say in it
abbrev pub region_in : Equipment → Settings → ℕ → Region
region_in e st v = e.region v

-- spec 6.9: the worst of the three
unfoldable pub region_of : Equipment → Settings → Slice → Region
region_of e st x = worse (region_in e st (lowest e x)) (worse (region_in e st (highest e x)) (frequency_region (frequency x)))

abbrev pub is_continuous : Region → Bool
is_continuous Continuous = true
is_continuous Mandatory = false
is_continuous Momentary = false
is_continuous Cease = false

-- spec 6.15: momentary cessation or cease to energize: the regions in which a board in service gives no power
abbrev pub ceases : Region → Bool
ceases Continuous = false
ceases Mandatory = false
ceases Momentary = true
ceases Cease = true

-- our board: the sensing of spec 2.2 and the voltage regions of spec 6.7
abbrev pub our_equipment : Equipment
our_equipment = record { sensing = voltage; region = voltage_region }

-- spec 2.3: a board with a lent sensing table, the voltage of each code, and the Category III voltage regions
abbrev pub equipped_with : List ℕ → Equipment
equipped_with table = record { sensing = λ code. get_or table code 0; region = voltage_region }
