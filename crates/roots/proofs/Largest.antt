-- What makes a number the largest that passes a test, and the largest beside a square.
-- Assumes nothing.
use mathlib.Core.Path.{◌≡◌, sym}
use mathlib.Core.Bool.{Bool, true, false}
use mathlib.Core.Logic.{⊎_elim}
use Prim.Native.Nat.{ℕ, zero, suc, ◌+◌, ◌*◌, ◌≤◌, ◌<◌}
use native.Mathlib.Nat.{mul-le-mul, eq-or-lt_of_le, le_of_suc-le-suc}
use native.Mathlib.Omega.{arith}
use borrow.Author.Tests.{le-leb, lt-leb}
use lib.Dec.{leb}
use Rattle.rules.specs.Sensing.{largest}

-- r passes and nothing above it does
pub largest-is : (test : ℕ → Bool) (r bound : ℕ) → r ≤ bound → test r ≡ true → ((k : ℕ) → r < k → test k ≡ false) → largest test bound ≡ r
unfolding largest
largest-is test r zero h passes fails = omega arith
largest-is test r (suc bound) h passes fails =
    ⊎_elim (λ e. let here : test (suc bound) ≡ true = rw (← e) passes in simp here (sym e))
    (λ lt. simp (fails (suc bound) lt) (largest-is test r bound (le_of_suc-le-suc lt) passes fails))
    (eq-or-lt_of_le h)

-- a number above r has a square that is at least that of r + 1
pub square_above : (r k : ℕ) → r < k → (r + 1) * (r + 1) ≤ k * k
square_above r k h = mul-le-mul {n₁ = r + 1} {n₂ = k} (omega arith) (omega arith)

-- the largest p with p² + a at most n
pub largest-square : (a n r bound : ℕ) → r ≤ bound → r * r + a ≤ n → n < (r + 1) * (r + 1) + a → largest (λ p. leb (p * p + a) n) bound ≡ r
largest-square a n r bound h low high =
    largest-is (λ p. leb (p * p + a) n) r bound h (le-leb (r * r + a) n low)
    (λ k lt. lt-leb (k * k + a) n (omega (arith, square_above r k lt)))
