-- Every refusal has a number of one or two digits, and it is not 0; so a check whose number is 0 has accepted.
-- Assumes nothing.
use Rattle.std.specs.Prelude.{Ok, Err}
use mathlib.Core.Path.{◌≡◌, refl, ap}
use Prim.Native.Nat.{ℕ, ◌<◌}
use native.Mathlib.Omega.{arith}
use lib.Dec.{lit<}
use Rattle.rules.specs.Refusals.{refusal_number, settings_number, line_of}
use Rattle.rules.specs.declared.Refusal.{Refusal}
use Rattle.rules.specs.Answers.{SettingsCheck, settings_refused}
use Rattle.rules.specs.declared.Refusal.TheVariants.{Form, Range, Rise, Code, Frequency, Permission, Power, Sample, Buffer}

pub number-bounds : (cause : Refusal) → (0 < refusal_number cause) × (refusal_number cause < 100)
number-bounds Form = (lit< tt, lit< tt)
number-bounds Range = (lit< tt, lit< tt)
number-bounds Rise = (lit< tt, lit< tt)
number-bounds Code = (lit< tt, lit< tt)
number-bounds Frequency = (lit< tt, lit< tt)
number-bounds Permission = (lit< tt, lit< tt)
number-bounds Power = (lit< tt, lit< tt)
number-bounds Sample = (lit< tt, lit< tt)
number-bounds Buffer = (lit< tt, lit< tt)

pub none-refused : (c : SettingsCheck) → settings_number c ≡ 0 → c ≡ Ok tt
none-refused (Ok ok) e = refl
none-refused (Err away) e = absurd (omega (arith, e, (number-bounds away.cause).0))

-- a refusal of settings is its cause and its line
pub same-refusal : (a b : Refusal) (m n : ℕ) → settings_refused a m ≡ settings_refused b n → (a ≡ b) × (m ≡ n)
same-refusal a b m n e = (ap why e, ap line_of e)
  where
    why : SettingsCheck → Refusal
    why (Ok ok) = a
    why (Err away) = away.cause
