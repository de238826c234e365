-- What reading a sheet answers, from what the reading below it says.
-- Assumes nothing.
use Rattle.std.specs.Prelude.{Ok, Err}
use mathlib.Core.Path.{◌≡◌, sym, ap, ap₂, ◌∙◌}
use mathlib.Core.List.{List}
use Prim.Native.Nat.{ℕ}
use lib.ListN.{length}
use Rattle.rules.specs.Refusals.{refusal_number, settings_number, line_of}
use Rattle.rules.specs.Sheets.{read_sheet, handed_back}
use Rattle.rules.specs.Answers.{SettingsCheck}
use Rattle.rules.specs.declared.SheetRefusal.{SheetRefusal}
use Rattle.sheet.specs.Outcomes.{Gives}
use Rattle.sheet.specs.declared.SheetOutcome.{SheetOutcome}
use Rattle.sheetcalls.specs.declared.SheetAnswer.{SheetAnswer}
use Rattle.sheetcalls.specs.SheetAnswers.{sheet_answer}

abbrev made : SettingsCheck → ℕ → List ℕ → SheetAnswer
made check start part = record { number = settings_number check; line = line_of check; start = start; length = length part }

module _ (s : List ℕ) (d : SheetOutcome) (e : Gives d (read_sheet s)) (part : List ℕ) (h : part ≡ handed_back s) where
  found : (check : SettingsCheck) → d.check ≡ check → made check d.start part ≡ sheet_answer s
  unfolding sheet_answer
  found check told =
      let checked : check ≡ (read_sheet s).check = sym told ∙ e.check in
      ap (λ (k : SettingsCheck). made k d.start part) checked ∙ ap₂ (made (read_sheet s).check) e.start h

  pub accepted : d.check ≡ Ok tt → record { number = 0; line = 0; start = d.start; length = length part } ≡ sheet_answer s
  accepted told = found (Ok tt) told

  pub turned-away : (why : SheetRefusal) (n : ℕ) → d.check ≡ Err why → n ≡ refusal_number why.cause
      → record { number = n; line = why.line; start = d.start; length = length part } ≡ sheet_answer s
  turned-away why n told numbered = rw numbered (found (Err why) told)
