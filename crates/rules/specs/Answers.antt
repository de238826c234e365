-- Spec 4.3, 9.4, 11.1: what each check and each call answers: a value, or why there is none.
-- Assumes nothing.
use Rattle.std.specs.Prelude.{ℕ, Result, Err, ⊤}
use Rattle.rules.specs.declared.Refusal.{Refusal}
use Rattle.rules.specs.declared.SheetRefusal.{SheetRefusal}
use Rattle.rules.specs.declared.Report.{Report}

-- of settings: nothing, or the first cause and its sheet line
abbrev pub SettingsCheck : Type 0
SettingsCheck = Result ⊤ SheetRefusal

-- of a sample: nothing, or the first cause
abbrev pub SampleCheck : Type 0
SampleCheck = Result ⊤ Refusal

-- of a mean-square code: its voltage
abbrev pub Sensed : Type 0
Sensed = Result ℕ Refusal

-- of a step: its report
abbrev pub Answer : Type 0
Answer = Result Report Refusal

-- of a saving: nothing
abbrev pub Saved : Type 0
Saved = Result ⊤ Refusal

-- settings refused for a cause, at a sheet line from 1
abbrev pub settings_refused : Refusal → ℕ → SettingsCheck
settings_refused cause line = Err (record { cause = cause; line = line })
