-- `spacednumbers::put_number` meets its contract: a space, and the number.
-- Assumes nothing.
use lib.IntN.{pos}
use native.Mathlib.Omega.{arith}
use Rattle.spacednumbers.proofs.Lengths.{spaced-length}
use Rattle.spacednumbers.proofs.put_number.Goals as goal

pub returns : goal.returns
returns c =
    let n = c.args.n in
    let wrote = rw c.from.ensures at c.put_long_number.ensures.wrote in
    record { wrote = wrote; upper_bound = omega (arith, wrote.after, spaced-length 4 (pos n) (omega arith)) }
