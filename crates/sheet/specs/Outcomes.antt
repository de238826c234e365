-- Spec 3.7, 11.3: the outcome of reading a sheet, against the rules' reading.
-- Assumes nothing.
use Rattle.std.specs.Prelude.{◌≡◌, List, ◌↔◌, ℕ, ◌+◌, ◌<◌}
use Rattle.rules.specs.Settings.{sheet_lines}
use Rattle.rules.specs.Refusals.{settings_number, line_of}
use Rattle.rules.specs.Sheets.{SheetReading, read_sheet}
use Rattle.rules.specs.Answers.{SettingsCheck}
use Rattle.causes.specs.SheetCauses.{FirstCauseAt, line_cause}
use Rattle.sheet.specs.declared.SheetOutcome.{SheetOutcome}

pub record Gives (r : SheetOutcome) (reading : SheetReading) : Type 0 where
  pub check : r.check ≡ reading.check
  pub settings : r.settings ≡ reading.settings
  pub start : r.start ≡ reading.start

-- the number and the line of a check are those of the first line of the text that has a cause (lines counted from 1) and of its first cause;
-- its number is 0 exactly where no line has a cause
pub record Numbered (s : List ℕ) (check : SettingsCheck) : Type 0 where
  pub refused : (i n : ℕ) → 0 < n → ((settings_number check ≡ n) × (line_of check ≡ i + 1)) ↔ FirstCauseAt s i n
  pub accepted : (settings_number check ≡ 0) ↔ ((i : ℕ) → i < sheet_lines → line_cause i s ≡ 0)

-- what is promised of reading a text
pub record SheetGiven (s : List ℕ) (r : SheetOutcome) : Type 0 where
  pub gives : Gives r (read_sheet s)
  pub numbered : Numbered s r.check
