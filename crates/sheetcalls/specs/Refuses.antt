-- Demand 1 (spec 11, 13.1) of reading a sheet, in the words of its contract: it is refused by the number of its first cause, and a refused one leaves
-- the lent settings as they were (spec 11.4).
-- Assumes nothing.
use Rattle.std.specs.Prelude.{◌≡◌, List, ◌↔◌, ℕ, ◌+◌, ◌<◌, take, drop}
use Rattle.rules.specs.Settings.{sheet_lines}
use Rattle.rules.specs.Sheets.{read_sheet, handed_back}
use Rattle.rules.specs.declared.Settings.{Settings}
use Rattle.causes.specs.SheetCauses.{FirstCauseAt, line_cause}
use Rattle.sheetcalls.specs.SheetAnswers.{sheet_answer, settings_after}

-- `saltdelta_read_sheet`: the first line with a cause, by the first of 1, 2, 3
pub record SheetRefuses : Type 0 where
  pub refused : (s : List ℕ) (i n : ℕ) → 0 < n → (((sheet_answer s).number ≡ n) × ((sheet_answer s).line ≡ i + 1)) ↔ FirstCauseAt s i n
  pub accepted : (s : List ℕ) → ((sheet_answer s).number ≡ 0) ↔ ((i : ℕ) → i < sheet_lines → line_cause i s ≡ 0)
  pub settings-kept : (s : List ℕ) (before : Settings) → 0 < (sheet_answer s).number → settings_after before s ≡ before
  pub settings-stored : (s : List ℕ) (before : Settings) → (sheet_answer s).number ≡ 0 → settings_after before s ≡ (read_sheet s).settings
  -- spec 3.9: the part handed back, in the caller's own bytes
  pub part : (s : List ℕ) → take (sheet_answer s).length (drop (sheet_answer s).start s) ≡ handed_back s
