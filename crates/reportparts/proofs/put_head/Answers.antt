-- `reportparts::put_head` meets its contract: its four writes are the line's begin.
-- Assumes nothing.
use native.Mathlib.Omega.{arith}
use Rattle.buffers.proofs.Writing.{and_then}
use Rattle.reportparts.specs.Parts.{report_head}
use Rattle.reportparts.proofs.put_head.Goals as goal

pub returns : goal.returns
unfolding report_head
returns c =
    record { wrote = and_then c.put-a.ensures (and_then c.put_word-b.ensures.wrote (and_then c.put_byte-c.ensures c.put_bits.ensures.wrote)); upper_bound = omega arith }
