-- Spec 2.1, 2.2, 2.4: a mean-square code and its voltage.
-- Assumes nothing.
use Rattle.std.specs.Prelude.{Bool, cond, ℕ, zero, suc, ◌*◌, leb, Ok, Err}
use Rattle.rules.specs.declared.Refusal.TheVariants.{Code}
use Rattle.rules.specs.Answers.{Sensed}

-- the largest whole number up to `bound` that passes the test, 0 where none does
unfoldable pub largest : (ℕ → Bool) → ℕ → ℕ
largest test zero = 0
largest test (suc bound) = cond (test (suc bound)) (suc bound) (largest test bound)

-- spec 2.1: the largest code
abbrev pub last_code : ℕ
last_code = 4095

-- spec 2.2, for codes 0 to 4095: `SensingRule` of the crate `demands` says it without the search. Above 4095 it is not used: such a code is
-- refused.
unfoldable pub voltage : ℕ → ℕ
voltage code = largest (λ v. leb (v * v) (code * 100000)) 20236

-- spec 2.4: what a code gives by a table, the voltage of each code; a code above the table is refused
unfoldable pub sensed_by : (ℕ → ℕ) → ℕ → Sensed
sensed_by volts code = cond (leb code last_code) (Ok (volts code)) (Err Code)

-- by ours
abbrev pub sensed : ℕ → Sensed
sensed = sensed_by voltage
