-- Whole roots: a number has one, a larger number no smaller one, and `largest` finds it below a bound.
-- Assumes nothing.
use mathlib.Core.Path.{◌≡◌, refl}
use mathlib.Core.Bool.{Bool, true, false, cond}
use Prim.Native.Nat.{ℕ, zero, suc, ◌+◌, ◌*◌, ◌≤◌, ◌<◌, zero-le}
use native.Mathlib.Nat.{le_antisymm, le_of_suc-le-suc, lt_of_not-le}
use native.Mathlib.Numerals.{add-one}
use native.Mathlib.Omega.{arith}
use borrow.Author.Tests.{leb-true, leb-false}
use lib.Dec.{leb}
use Rattle.rules.specs.Sensing.{largest}
use Rattle.roots.specs.Root.{IsRoot}
use Rattle.roots.proofs.Largest.{square_above}

-- a number whose square is below that of y + 1 is at most y
pub root_below : (x y n : ℕ) → x * x ≤ n → n < (y + 1) * (y + 1) → x ≤ y
root_below x y n low high = le_of_suc-le-suc (lt_of_not-le (λ (above : y < x). omega (arith, square_above y x above)))

-- the roots of two numbers stand as the numbers do
pub root-rises : {m n r s : ℕ} → m ≤ n → IsRoot m r → IsRoot n s → r ≤ s
root-rises {m} {n} {r} {s} h p q = root_below r s n (omega (arith, p.low)) q.high

-- a number has one root
pub root-one : {n r s : ℕ} → IsRoot n r → IsRoot n s → r ≡ s
root-one p q = le_antisymm (root-rises (omega arith) p q) (root-rises (omega arith) q p)

step : (t : Bool) (n b r : ℕ) → leb (suc b * suc b) n ≡ t → n < (suc b + 1) * (suc b + 1) → (n < (b + 1) * (b + 1) → IsRoot n r) → IsRoot n (cond t (suc b) r)
step true n b r e h below = record { low = leb-true (suc b * suc b) n e; high = h }
step false n b r e h below = below (rw add-one (leb-false (suc b * suc b) n e))

-- the largest number up to b whose square is at most n is the root, where the bound is not below it
pub largest-root : (b n : ℕ) → n < (b + 1) * (b + 1) → IsRoot n (largest (λ r. leb (r * r) n) b)
unfolding largest
largest-root zero n h = record { low = zero-le; high = h }
largest-root (suc b) n h = step (leb (suc b * suc b) n) n b (largest (λ r. leb (r * r) n) b) refl h (largest-root b n)
