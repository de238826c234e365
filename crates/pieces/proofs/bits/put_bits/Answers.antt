-- `pieces::bits::put_bits` meets its contract: bits are digits in base 2.
-- Assumes nothing.
use native.Mathlib.Omega.{arith}
use Rattle.pieces.proofs.Lengths.{bits-written}
use Rattle.pieces.proofs.bits.put_bits.Goals as goal

pub returns-clause-wrote : goal.returns-clause-wrote
returns-clause-wrote c = bits-written _ _ _ _ _ c.args.bits c.put_digits.ensures.wrote (omega (arith, c.from.ensures))
