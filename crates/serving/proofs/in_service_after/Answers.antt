-- `serving::in_service_after` meets its contract: the bits tell whether some limit's is 1, and whether ready is (`Bits.antt`).
-- Assumes nothing.
use Rattle.serving.proofs.Bits.{no-trip, is-ready}
use Rattle.serving.proofs.in_service_after.Goals as goal

pub returns-then-permit : goal.returns-then-permit
returns-then-permit c = λ trips ready e. rw (c.if-was.true, c.if-permit.true) (no-trip c.args.bits trips ready e)

pub returns-else-was : goal.returns-else-was
returns-else-was c = λ trips ready e. rw c.if-was.false (is-ready c.args.bits trips ready e)
