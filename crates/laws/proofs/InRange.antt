-- Under accepted settings, voltages and a frequency in the enter-service range break no limit and are in continuous operation: the
-- sheet's ranges put every limit outside that range.
-- Assumes nothing.
use mathlib.Core.Path.{◌≡◌}
use mathlib.Core.Bool.{Bool, true, false}
use mathlib.Core.List.{[], ◌∷◌}
use Prim.Native.Nat.{ℕ, ◌≤◌}
use native.Mathlib.Omega.{arith}
use lib.Dec.{ltb}
use borrow.Author.Tests.{le-ltb, le-leb}
use Rattle.rules.specs.Tests.{all, within}
use Rattle.rules.specs.Settings.{rows, settings_accepted}
use Rattle.rules.specs.Counters.{Kind, undervoltage, overvoltage, underfrequency, overfrequency}
use Rattle.rules.specs.Regions.{voltage_region, frequency_region, worse}
use Rattle.rules.specs.declared.Region.{Region}
use Rattle.rules.specs.declared.Region.TheVariants.{Continuous}
use Rattle.rules.specs.declared.Settings.{Settings}
use Rattle.basics.proofs.Bools.{at_all, within-true, true-within}
use Rattle.laws.proofs.Accepted.{sheet-rows}
use Rattle.laws.proofs.Limits.{LevelIn}

pub continuous-voltage : (v : ℕ) → 8800 ≤ v → v ≤ 11000 → voltage_region v ≡ Continuous
unfolding voltage_region
continuous-voltage v low high = rw (le-ltb 12000 v (omega arith), le-ltb 11000 v high, le-leb 8800 v low)

-- a limit of this kind and level is broken by these voltages and this frequency
abbrev pub breaks : Kind → ℕ → ℕ → ℕ → ℕ → Bool
breaks undervoltage level low high frequency = ltb low level
breaks overvoltage level low high frequency = ltb level high
breaks underfrequency level low high frequency = ltb frequency level
breaks overfrequency level low high frequency = ltb level frequency

-- the enter-service criteria
abbrev pub Enters : Settings → Bool → ℕ → ℕ → ℕ → Type 0
Enters s permit low high frequency =
    all (permit
    ∷ within s.volts.low s.volts.high low
    ∷ within s.volts.low s.volts.high high
    ∷ within s.hertz.low s.hertz.high frequency
    ∷ [])
    ≡ true

module _ (s : Settings) (ok : settings_accepted s ≡ true) (permit : Bool) (low high frequency : ℕ) (enters : Enters s permit low high frequency) where
  lowest-in : (s.volts.low ≤ low) × (low ≤ s.volts.high)
  lowest-in = within-true (at_all _ enters 1)

  highest-in : (s.volts.low ≤ high) × (high ≤ s.volts.high)
  highest-in = within-true (at_all _ enters 2)

  frequency-in : (s.hertz.low ≤ frequency) × (frequency ≤ s.hertz.high)
  frequency-in = within-true (at_all _ enters 3)

  pub breaks-none : (k : Kind) (level : ℕ) → LevelIn k level → breaks k level low high frequency ≡ false
  unfolding rows
  breaks-none undervoltage level i = le-ltb low level (omega (arith, (sheet-rows s ok).volts, lowest-in))
  breaks-none overvoltage level i = le-ltb level high (omega (arith, (sheet-rows s ok).volts, highest-in))
  breaks-none underfrequency level i = le-ltb frequency level (omega (arith, (sheet-rows s ok).hertz, frequency-in))
  breaks-none overfrequency level i = le-ltb level frequency (omega (arith, (sheet-rows s ok).hertz, frequency-in))

  -- whatever the voltage regions, if 8800 to 11000 is the continuous operation region
  pub continuous-in : (region : ℕ → Region) → ((v : ℕ) → 8800 ≤ v → v ≤ 11000 → region v ≡ Continuous)
      → worse (region low) (worse (region high) (frequency_region frequency)) ≡ Continuous
  unfolding rows frequency_region
  continuous-in region continues =
      let volts = (sheet-rows s ok).volts in
      let hertz = (sheet-rows s ok).hertz in
      rw (
        continues low (omega (arith, volts, lowest-in)) (omega (arith, volts, lowest-in)),
        continues high (omega (arith, volts, highest-in)) (omega (arith, volts, highest-in)),
        true-within 58800 61200 frequency (omega (arith, hertz, frequency-in)) (omega (arith, hertz, frequency-in)),
      )
