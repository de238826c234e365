-- `spacednumbers::put_signed_number` meets its contract: a space, and the signed number.
-- Assumes nothing.
use Prim.Native.Nat.{◌^◌, ◌<◌}
use native.Mathlib.Omega.{arith}
use lib.IntN.{ℤ, nat_abs}
use mir.Syntax.{w16}
use mir.Val.{SFits}
use mir.Facts.{to_z-of_z, Fits-nat_abs}
use Rattle.buffers.proofs.Writing.{and_then}
use Rattle.rules.specs.Transcripts.{spaced}
use Rattle.spacednumbers.proofs.Lengths.{spaced-length}
use Rattle.spacednumbers.proofs.put_signed_number.Goals as goal

small : (v : ℤ) → SFits w16 v → nat_abs v < 10 ^ 5
small v f = omega (arith, (Fits-nat_abs {w' = w16} tt f).fits)

pub returns : goal.returns
unfolding spaced
returns c =
    let wrote = and_then c.put_byte-a.ensures (rw (to_z-of_z c.ranges.v) at c.put_signed.ensures) in
    record { wrote = wrote; upper_bound = omega (arith, wrote.after, spaced-length 4 c.args.v (small c.args.v c.ranges.v)) }
