-- Demand 1 (spec 11, 13.1) of the exported functions, all together.
-- Assumes nothing.
use Rattle.rules.specs.Samples.{Equipment}
use Rattle.carryover.specs.Carries.{our_forward, our_back, CarryRefusedRightly}
use Rattle.stepcalls.specs.Refuses.{StepRefuses}
use Rattle.sheetcalls.specs.Refuses.{SheetRefuses}
use Rattle.calls.specs.Refuses.{SaveRefuses, ReplayRefuses}

-- steps and replay with this equipment; `carry` is of `saltdelta_carry_forward` and `saltdelta_carry_back`: the source by 10 and 11, then the target by 9
pub record ExportedRefuse (e : Equipment) : Type 0 where
  pub step : StepRefuses e
  pub sheet : SheetRefuses
  pub save : SaveRefuses
  pub carry : CarryRefusedRightly our_forward our_back
  pub replay : ReplayRefuses e
