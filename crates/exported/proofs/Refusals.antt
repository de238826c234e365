-- Demand 1 for the exported functions: what each kind of call promises.
-- Assumes nothing.
use Rattle.rules.specs.Samples.{Equipment}
use Rattle.carryover.proofs.Carrying.{refused-rightly}
use Rattle.stepcalls.proofs.Refusals.{step-refuses}
use Rattle.sheetcalls.proofs.Refusals.{sheet-refuses}
use Rattle.calls.proofs.Refusals.{save-refuses, replay-refuses}
use Rattle.exported.specs.Refuses.{ExportedRefuse}

pub exported-refuse : (e : Equipment) → ExportedRefuse e
exported-refuse e =
    record { step = step-refuses e; sheet = sheet-refuses; save = save-refuses; carry = refused-rightly; replay = replay-refuses e }
