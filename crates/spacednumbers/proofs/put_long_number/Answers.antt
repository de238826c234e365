-- `spacednumbers::put_long_number` meets its contract: a space, and the number.
-- Assumes nothing.
use native.Mathlib.Omega.{arith}
use Rattle.buffers.proofs.Writing.{and_then}
use Rattle.rules.specs.Text.{signed_decimal}
use Rattle.rules.specs.Transcripts.{spaced}
use Rattle.spacednumbers.proofs.put_long_number.Goals as goal

pub returns : goal.returns
unfolding spaced signed_decimal
returns c =
    record { wrote = and_then c.put_byte-a.ensures c.put_decimal.ensures.wrote; upper_bound = omega arith }
