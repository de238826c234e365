-- Spec 3.9, 5.6, 11.3, 11.4: what reading a sheet over the C boundary answers and leaves in lent memory, from the rules' reading.
-- Assumes nothing.
use Rattle.std.specs.Prelude.{◌≡◌, List, ℕ, Ok, Err}
use Rattle.std.proofs.Math.ListN as L
use Rattle.rules.specs.Refusals.{settings_number, line_of}
use Rattle.rules.specs.Sheets.{read_sheet, handed_back}
use Rattle.rules.specs.declared.Settings.{Settings}
use Rattle.rules.specs.Answers.{SettingsCheck}
use Rattle.sheetcalls.specs.declared.SheetAnswer.{SheetAnswer}

-- number and line, and the part handed back as its place and length in the caller's own bytes
unfoldable pub sheet_answer : List ℕ → SheetAnswer
sheet_answer s =
    record {
      number = settings_number (read_sheet s).check;
      line = line_of (read_sheet s).check;
      start = (read_sheet s).start;
      length = L.length (handed_back s);
    }

-- accepted settings are stored (spec 5.6)
abbrev pub settings_or : Settings → SettingsCheck → Settings → Settings
settings_or before (Ok ok) read = read
settings_or before (Err away) read = before

unfoldable pub settings_after : Settings → List ℕ → Settings
settings_after before s = settings_or before (read_sheet s).check (read_sheet s).settings

-- what `saltdelta_read_sheet` promises: of the settings that are lent, `before` as they were, and of its answer
abbrev pub SheetLeaves : List ℕ → Settings → Settings → SheetAnswer → Type 0
SheetLeaves s before settings answer = (settings ≡ settings_after before s) × (answer ≡ sheet_answer s)
