-- Spec 11.1: the number of each cause.
-- Assumes nothing.
use Rattle.std.specs.Prelude.{ℕ, Ok, Err}
use Rattle.rules.specs.declared.Refusal.{Refusal}
use Rattle.rules.specs.Answers.{SettingsCheck, SampleCheck, Sensed, Answer, Saved}
use Rattle.rules.specs.declared.Refusal.TheVariants.{Form, Range, Rise, Code, Frequency, Permission, Power, Sample, Buffer}

abbrev pub refusal_number : Refusal → ℕ
refusal_number Form = 1
refusal_number Range = 2
refusal_number Rise = 3
refusal_number Code = 4
refusal_number Frequency = 5
refusal_number Permission = 6
refusal_number Power = 7
refusal_number Sample = 8
refusal_number Buffer = 9

-- the number that an answer gives, 0 where nothing is refused

abbrev pub settings_number : SettingsCheck → ℕ
settings_number (Ok ok) = 0
settings_number (Err away) = refusal_number away.cause

-- the sheet line of a refusal, from 1; 0 where the settings are accepted
abbrev pub line_of : SettingsCheck → ℕ
line_of (Ok ok) = 0
line_of (Err away) = away.line

abbrev pub sample_number : SampleCheck → ℕ
sample_number (Ok ok) = 0
sample_number (Err cause) = refusal_number cause

abbrev pub sensed_number : Sensed → ℕ
sensed_number (Ok volts) = 0
sensed_number (Err cause) = refusal_number cause

abbrev pub answer_number : Answer → ℕ
answer_number (Ok report) = 0
answer_number (Err cause) = refusal_number cause

abbrev pub saved_number : Saved → ℕ
saved_number (Ok ok) = 0
saved_number (Err cause) = refusal_number cause
