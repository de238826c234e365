-- What the exported reading of a sheet stores, from what the reading by value gives: its settings where it is accepted, and nothing else.
-- Assumes nothing.
use Rattle.std.specs.Prelude.{Ok, Err, is_ok}
use mathlib.Core.Path.{◌≡◌, refl, sym, ap₂, ◌∙◌}
use mathlib.Core.Bool.{true, false, false≢true}
use mathlib.Core.List.{List}
use Prim.Native.Nat.{ℕ}
use Rattle.rules.specs.Sheets.{read_sheet}
use Rattle.rules.specs.declared.Settings.{Settings}
use Rattle.rules.specs.Answers.{SettingsCheck}
use Rattle.sheet.specs.Outcomes.{Gives}
use Rattle.sheet.specs.declared.SheetOutcome.{SheetOutcome}
use Rattle.sheetcalls.specs.SheetAnswers.{settings_after, settings_or}

sheet-leaves : (s : List ℕ) (d : SheetOutcome) → Gives d (read_sheet s) → (before : Settings) (c : SettingsCheck) → d.check ≡ c
    → settings_or before c d.settings ≡ settings_after before s
unfolding settings_after
sheet-leaves s d e before c told = ap₂ (settings_or before) (sym told ∙ e.check) e.settings

pub sheet-stored : (s : List ℕ) (d : SheetOutcome) → Gives d (read_sheet s) → (before : Settings) → is_ok d.check ≡ true → d.settings ≡ settings_after before s
sheet-stored s d e before = by d.check refl
  where
    by : (c : SettingsCheck) → d.check ≡ c → is_ok c ≡ true → d.settings ≡ settings_after before s
    by (Ok ok) told h = sheet-leaves s d e before (Ok ok) told
    by (Err away) told h = absurd (false≢true h)

pub sheet-kept : (s : List ℕ) (d : SheetOutcome) → Gives d (read_sheet s) → (before : Settings) → is_ok d.check ≡ false → before ≡ settings_after before s
sheet-kept s d e before = by d.check refl
  where
    by : (c : SettingsCheck) → d.check ≡ c → is_ok c ≡ false → before ≡ settings_after before s
    by (Ok ok) told h = absurd (false≢true (sym h))
    by (Err away) told h = sheet-leaves s d e before (Err away) told
