-- `fastfields::headed` meets its contract.
-- Assumes nothing.
use Rattle.fastfields.proofs.Fields.{head-taken}
use Rattle.fastfields.proofs.headed.Goals as goal

pub returns : goal.returns
returns c = head-taken c.args.s.now c.args.at c.starts_with.result c.starts_with.ensures.value
