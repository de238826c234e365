-- Spec 3.9: the part that reading a sheet hands back: the caller's own bytes, not a copy.
-- Assumes nothing.
use Rattle.std.specs.Prelude.{◌≡◌, List, ℕ, ◌+◌, min, length, drop}
use Rattle.std.specs.Borrow.{Bor}
use Rattle.rules.specs.Sheets.{read_sheet, part_of, handed_back}
use Rattle.rules.specs.Answers.{SettingsCheck}

-- r is what the rules hand back of s, at its place in the memory of s
pub record IsPart (s r : Bor (List ℕ)) : Type 0 where
  pub bytes : r.now ≡ handed_back s.now
  pub block : r.ref_ptr.0 ≡ s.ref_ptr.0
  pub place : r.ref_ptr.1 ≡ s.ref_ptr.1 + (read_sheet s.now).start

-- r is what the rules hand back of s for a check and a start, which stands for the end where it is past it
pub record IsPartFrom (check : SettingsCheck) (start : ℕ) (s r : Bor (List ℕ)) : Type 0 where
  pub bytes : r.now ≡ part_of check (drop start s.now)
  pub block : r.ref_ptr.0 ≡ s.ref_ptr.0
  pub place : r.ref_ptr.1 ≡ s.ref_ptr.1 + min start (length s.now)
