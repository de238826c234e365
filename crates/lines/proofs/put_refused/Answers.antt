-- `lines::put_refused` meets its contract: its four writes are the line.
-- Assumes nothing.
use Rattle.buffers.proofs.Writing.{and_then}
use Rattle.lines.proofs.Whole.{refused-pieces}
use Rattle.lines.proofs.put_refused.Goals as goal

pub returns : goal.returns
returns c =
    rw (refused-pieces c.args.number c.args.line)
    (and_then c.put-a.ensures (and_then (rw c.from.ensures at c.put_long_number-b.ensures.wrote) (and_then c.put_long_number-c.ensures.wrote c.put.ensures)))
