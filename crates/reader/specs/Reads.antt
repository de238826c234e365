-- Spec 3.7, 3.9: what reading a sheet gives the host, against the rules' reading.
-- Assumes nothing.
use Rattle.std.specs.Prelude.{◌≡◌, List, ℕ}
use Rattle.std.specs.Borrow.{Bor}
use Rattle.rules.specs.Sheets.{read_sheet}
use Rattle.sheet.specs.Outcomes.{Numbered}
use Rattle.sheet.specs.Parts.{IsPart}
use Rattle.reader.specs.declared.SheetRead.{SheetRead}

-- spec 3.9; `IsPart` says which bytes, and at which place
pub record Reads (s : Bor (List ℕ)) (r : SheetRead) : Type 0 where
  pub check : r.check ≡ (read_sheet s.now).check
  pub numbered : Numbered s.now r.check
  pub settings : r.settings ≡ (read_sheet s.now).settings
  pub line : IsPart s r.line
