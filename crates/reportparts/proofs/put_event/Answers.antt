-- `reportparts::put_event` meets its contract: what is written where there is no event is what the numbers make.
-- Assumes nothing.
use native.Mathlib.Omega.{arith}
use Rattle.buffers.proofs.Writing.{and_then}
use Rattle.reportparts.specs.Parts.{event_numbers}
use Rattle.reportparts.proofs.Parts.{calm-event}
use Rattle.reportparts.proofs.put_event.Goals as goal

pub returns-then-held-eq0-clause-wrote : goal.returns-then-held-eq0-clause-wrote
returns-then-held-eq0-clause-wrote c =
    rw (calm-event c.args.side c.args.held (omega arith) (omega arith)) c.put.ensures

pub returns-clause-wrote : goal.returns-clause-wrote
unfolding event_numbers
returns-clause-wrote c =
    and_then (rw c.from.ensures at c.put_number-a.ensures.wrote) c.put_number.ensures.wrote
