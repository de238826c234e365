-- Spec 14.1: edge values, as rows of one table.
-- Assumes nothing.
use Rattle.std.specs.Prelude.{◌≡◌, Bool, true, false, List, [], ◌∷◌, ℕ, ℤ, pos, neg_ℤ, Ok}
use Rattle.rules.specs.Settings.{settings_check}
use Rattle.rules.specs.Samples.{Slice, Equipment}
use Rattle.rules.specs.Counters.{undervoltage, overvoltage, broken}
use Rattle.rules.specs.Regions.{region_of}
use Rattle.rules.specs.Curves.{curve, nameplate}
use Rattle.rules.specs.Droop.{side_of, drooped}
use Rattle.rules.specs.Defaults.{default_settings}
use Rattle.rules.specs.declared.Settings.{Settings}
use Rattle.rules.specs.declared.Refusal.TheVariants.{Range}
use Rattle.rules.specs.Answers.{settings_refused}
use Rattle.rules.specs.declared.Region.{Region}
use Rattle.rules.specs.declared.Region.TheVariants.{Continuous, Mandatory, Momentary, Cease}

-- all three phases at one code
abbrev sample_of : ℕ → ℕ → Slice
sample_of code hertz = code ∷ code ∷ code ∷ hertz ∷ 1 ∷ 10000 ∷ 10000 ∷ []

-- frequency 60000
abbrev pub flat : ℕ → Slice
flat code = sample_of code 60000

-- code 1000, voltage 10000
abbrev pub nominal_at : ℕ → Slice
nominal_at hertz = sample_of 1000 hertz

-- the default sheet's settings with another ramp length
abbrev pub ramp_of : ℕ → Settings
ramp_of ramp =
    let d = default_settings in
    record { trip = d.trip; volts = d.volts; hertz = d.hertz; wait = d.wait; ramp = ramp; var = d.var; watt = d.watt }

-- what a row says
pub data Edge : Type 0 where
  gives : (code volts : ℕ) → Edge
  ramp_taken : (ramp : ℕ) → Edge
  ramp_refused : (ramp : ℕ) → Edge
  uv1_broken : (code : ℕ) → Bool → Edge
  ov2_broken : (code : ℕ) → Bool → Edge
  is_in : (code : ℕ) → Region → Edge
  is_in_at : (hertz : ℕ) → Region → Edge
  vars_at : (volts : ℕ) → ℤ → Edge
  watts_at : (volts : ℕ) → ℤ → Edge
  nameplate_leaves : (vars : ℤ) → (watts : ℕ) → Edge
  side_at : (hertz side : ℕ) → Edge
  droops_to : (held hertz watts : ℕ) → Edge

-- a row holds of an equipment, by the definitions
abbrev pub Holds : Equipment → Edge → Type 0
Holds e (gives code volts) = e.sensing code ≡ volts
Holds e (ramp_taken ramp) = settings_check (ramp_of ramp) ≡ Ok tt
Holds e (ramp_refused ramp) = settings_check (ramp_of ramp) ≡ settings_refused Range 11
Holds e (uv1_broken code b) = broken e undervoltage 8800 (flat code) ≡ b
Holds e (ov2_broken code b) = broken e overvoltage 12000 (flat code) ≡ b
Holds e (is_in code region) = region_of e default_settings (flat code) ≡ region
Holds e (is_in_at hertz region) = region_of e default_settings (nominal_at hertz) ≡ region
Holds e (vars_at volts vars) = curve default_settings.var volts ≡ vars
Holds e (watts_at volts watts) = curve default_settings.watt volts ≡ watts
Holds e (nameplate_leaves vars watts) = nameplate vars ≡ watts
Holds e (side_at hertz side) = side_of hertz ≡ side
Holds e (droops_to held hertz watts) = drooped hertz held ≡ watts

unfoldable pub edges : List Edge
edges =
    gives 0 0
    ∷ gives 1 316
    ∷ gives 774 8797
    ∷ uv1_broken 774 true
    ∷ gives 775 8803
    ∷ uv1_broken 775 false
    ∷ gives 1440 12000
    ∷ is_in 1440 Momentary
    ∷ ov2_broken 1440 false
    ∷ gives 1441 12004
    ∷ is_in 1441 Cease
    ∷ gives 4095 20236
    ∷ ramp_refused 99
    ∷ ramp_taken 100
    ∷ ramp_taken 60000
    ∷ ramp_refused 60001
    ∷ is_in_at 56999 Cease
    ∷ is_in_at 57000 Mandatory
    ∷ is_in_at 58799 Mandatory
    ∷ is_in_at 58800 Continuous
    ∷ is_in_at 61200 Continuous
    ∷ is_in_at 61201 Mandatory
    ∷ is_in_at 62000 Mandatory
    ∷ is_in_at 62001 Cease
    ∷ vars_at 9500 (pos 2200)
    ∷ vars_at 9201 (pos 4393)
    ∷ vars_at 10201 (neg_ℤ (pos 7))
    ∷ watts_at 10800 (pos 6000)
    ∷ nameplate_leaves (pos 4400) 8979
    ∷ nameplate_leaves (pos 10000) 0
    ∷ nameplate_leaves (neg_ℤ (pos 10000)) 0
    ∷ side_at 59963 2
    ∷ side_at 59964 0
    ∷ side_at 60036 0
    ∷ side_at 60037 1
    ∷ droops_to 5000 60037 4997
    ∷ droops_to 5000 60038 4994
    ∷ droops_to 5000 61536 0
    ∷ droops_to 5000 61537 0
    ∷ droops_to 5000 59963 5003
    ∷ droops_to 5000 59962 5006
    ∷ droops_to 5000 58464 10000
    ∷ []

abbrev pub AllHold : Equipment → List Edge → Type 0
AllHold e [] = Unit {0}
AllHold e (r ∷ rs) = Holds e r × AllHold e rs

-- the one statement that covers the rows
unfoldable pub EdgesHold : Equipment → Type 0
EdgesHold e = AllHold e edges
