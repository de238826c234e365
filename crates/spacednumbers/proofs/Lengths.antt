-- How long the numbers of a line are at the most.
-- Assumes nothing.
use Prim.Native.Nat.{ℕ, suc, ◌+◌, ◌^◌, ◌≤◌, ◌<◌}
use native.Mathlib.Omega.{arith}
use lib.IntN.{ℤ, pos, negsuc, nat_abs}
use lib.ListN.{length}
use Rattle.rules.specs.Text.{signed_decimal}
use Rattle.rules.specs.Transcripts.{spaced}
use Rattle.decimals.proofs.Decimals.{decimal-length}

signed-length : (k : ℕ) (z : ℤ) → nat_abs z < 10 ^ suc k → length (signed_decimal z) ≤ k + 2
unfolding signed_decimal
signed-length k (pos n) h = omega (arith, decimal-length k n h)
signed-length k (negsuc n) h = omega (arith, decimal-length k (suc n) h)

pub spaced-length : (k : ℕ) (z : ℤ) → nat_abs z < 10 ^ suc k → length (spaced z) ≤ k + 3
unfolding spaced
spaced-length k z h = omega (arith, signed-length k z h)
