-- The part that reading a sheet hands back, in the caller's own bytes: `length` of them, from `start` on.
-- Assumes nothing.
use Rattle.std.specs.Prelude.{Ok, Err}
use mathlib.Core.Path.{◌≡◌}
use mathlib.Core.List.{List}
use Prim.Native.Nat.{ℕ}
use lib.ListN.{length, take, drop}
use lib.Seq.{take-length}
use Rattle.rules.specs.Sheets.{read_sheet, part_of, handed_back}
use Rattle.rules.specs.Answers.{SettingsCheck}
use Rattle.text.proofs.Lines.{line-take}
use Rattle.sheetcalls.specs.SheetAnswers.{sheet_answer}

part-first : (check : SettingsCheck) (rest : List ℕ) → take (length (part_of check rest)) rest ≡ part_of check rest
part-first (Ok ok) rest = take-length rest
part-first (Err away) rest = line-take rest

pub part-in-place : (s : List ℕ) → take (sheet_answer s).length (drop (sheet_answer s).start s) ≡ handed_back s
unfolding sheet_answer handed_back
part-in-place s = part-first (read_sheet s).check (drop (read_sheet s).start s)
