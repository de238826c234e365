-- What is read of a sheet and the part that is handed back, put together.
-- Assumes nothing.
use mathlib.Core.List.{List}
use Prim.Native.Nat.{ℕ, ◌≤◌}
use lib.ListN.{length}
use denote.Ref.{Bor}
use Rattle.sheet.specs.Outcomes.{SheetGiven}
use Rattle.sheet.specs.Parts.{IsPartFrom}
use Rattle.sheet.specs.declared.SheetOutcome.{SheetOutcome}
use Rattle.sheet.proofs.HandedBack.{handed-back}
use Rattle.reader.specs.Reads.{Reads}

pub reads : (s part : Bor (List ℕ)) (d : SheetOutcome) → SheetGiven s.now d → d.start ≤ length s.now → IsPartFrom d.check d.start s part
    → Reads s record { check = d.check; settings = d.settings; line = part }
reads s part d given inside from =
    record {
      check = given.gives.check;
      numbered = given.numbered;
      settings = given.gives.settings;
      line = handed-back s part d.check d.start given.gives.check given.gives.start inside from;
    }
