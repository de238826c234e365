-- Demand 1 of reading a sheet: it is refused with the first cause, and a refused one leaves the lent settings as they were.
-- Assumes nothing.
use Rattle.std.specs.Prelude.{Ok, Err}
use mathlib.Core.Path.{◌≡◌, refl, ap}
use mathlib.Core.List.{List}
use mathlib.Core.Logic.{◌↔◌}
use Prim.Native.Nat.{ℕ, ◌+◌, ◌<◌}
use native.Mathlib.Omega.{arith}
use Rattle.rules.specs.Settings.{sheet_lines}
use Rattle.rules.specs.Refusals.{settings_number}
use Rattle.rules.specs.Sheets.{read_sheet}
use Rattle.rules.specs.declared.Settings.{Settings}
use Rattle.rules.specs.Answers.{SettingsCheck}
use Rattle.causes.specs.SheetCauses.{FirstCauseAt, line_cause}
use Rattle.basics.proofs.Refusals.{number-bounds, none-refused}
use Rattle.laws.proofs.SheetCauses.{sheets-refused-rightly}
use Rattle.sheetcalls.specs.SheetAnswers.{sheet_answer, settings_after, settings_or}
use Rattle.sheetcalls.specs.Refuses.{SheetRefuses}
use Rattle.sheetcalls.proofs.InPlace.{part-in-place}

module _ (s : List ℕ) where
  pub sheet-cause : (i n : ℕ) → 0 < n → (((sheet_answer s).number ≡ n) × ((sheet_answer s).line ≡ i + 1)) ↔ FirstCauseAt s i n
  unfolding sheet_answer
  sheet-cause i n h = sheets-refused-rightly.refuses s i n h

  pub settings-kept : (before : Settings) → 0 < (sheet_answer s).number → settings_after before s ≡ before
  unfolding sheet_answer settings_after
  settings-kept before h = by (read_sheet s).check h
    where
      by : (c : SettingsCheck) → 0 < settings_number c → settings_or before c (read_sheet s).settings ≡ before
      by (Ok ok) k = absurd (omega (arith, k))
      by (Err away) k = refl

  sheet-accepted : ((sheet_answer s).number ≡ 0) ↔ ((i : ℕ) → i < sheet_lines → line_cause i s ≡ 0)
  unfolding sheet_answer
  sheet-accepted =
      let accepts = sheets-refused-rightly.accepts s in
      (λ zero. accepts.0 (none-refused (read_sheet s).check zero), λ clear. ap settings_number (accepts.1 clear))

  pub settings-stored : (before : Settings) → (sheet_answer s).number ≡ 0 → settings_after before s ≡ (read_sheet s).settings
  unfolding sheet_answer settings_after
  settings-stored before = by (read_sheet s).check
    where
      by : (c : SettingsCheck) → settings_number c ≡ 0 → settings_or before c (read_sheet s).settings ≡ (read_sheet s).settings
      by (Ok ok) h = refl
      by (Err away) h = absurd (omega (arith, h, (number-bounds away.cause).0))

pub sheet-refuses : SheetRefuses
sheet-refuses =
    record {
      refused = sheet-cause;
      accepted = sheet-accepted;
      settings-kept = settings-kept;
      settings-stored = settings-stored;
      part = part-in-place;
    }
