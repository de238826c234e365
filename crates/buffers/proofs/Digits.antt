-- The digits of a number in a base, stored from the last to the first.
-- Assumes nothing.
use mathlib.Core.Path.{◌≡◌, refl}
use mathlib.Core.List.{List}
use Prim.Native.Nat.{ℕ, zero, suc, ◌+◌, ◌-◌, ◌/◌, ◌%◌, ◌≤◌, ◌<◌}
use native.Mathlib.Numerals.{sub-one}
use native.Mathlib.Omega.{arith}
use lib.ListN.{length, set, length-append}
use Rattle.buffers.specs.Digits.{digits_in}
use Rattle.buffers.specs.Written.{written}
use Rattle.buffers.proofs.Writing.{written_none, last-first}

module _ (base none : ℕ) where
  pub digits-length : (k n : ℕ) → length (digits_in base none k n) ≡ k
  unfolding digits_in
  digits-length zero n = refl
  digits-length (suc k) n = rw length-append (omega (arith, digits-length k (n / base)))

  pub digit-stored : (d : List ℕ) (at k n : ℕ) → 0 < k → at + k ≤ length d
      → written (set d (at + (k - 1)) (none + n % base)) at (digits_in base none (k - 1) (n / base)) ≡ written d at (digits_in base none k n)
  unfolding digits_in
  digit-stored d at zero n some h = absurd (omega arith)
  digit-stored d at (suc k) n some h = rw sub-one (last-first d at (digits_in base none k (n / base)) _ (rw digits-length) (omega arith))

  pub none-left : (d : List ℕ) (at k n : ℕ) → k ≡ 0 → written d at (digits_in base none k n) ≡ d
  unfolding digits_in
  none-left d at zero n e = written_none d at
  none-left d at (suc k) n e = absurd (omega arith)
