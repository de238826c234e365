-- Newton's step for a whole root: from any x it comes to the root or above it, and from above the root it goes down.
-- Assumes nothing.
use mathlib.Core.Path.{◌≡◌}
use Prim.Native.Nat.{ℕ, zero, suc, ◌+◌, ◌-◌, ◌*◌, ◌/◌, ◌≤◌, ◌<◌}
use native.Mathlib.Decide.{dec_le}
use native.Mathlib.Nat.{mul_comm, mul-add, add-mul, mul-le-mul_left, lt-mul-div-succ, mul-div-le, lt_of_not-le}
use native.Mathlib.Omega.{arith}

abbrev pub next : ℕ → ℕ → ℕ
next n x = (x + n / x) / 2

-- ---- a product is at most the square of half the sum

uneven : (a e b : ℕ) → b ≤ a + e + e → a * b ≤ (a + e) * (a + e)
uneven a e b h =
    omega (arith, mul-le-mul_left a h, mul-add a (a + e) e, mul-add a a e, mul-add (a + e) a e, add-mul a e a, add-mul a e e, mul_comm a e)

smaller-first : (a b s : ℕ) → a ≤ s → a + b ≤ s + s → a * b ≤ s * s
smaller-first a b s le h =
    let whole : a + (s - a) ≡ s = omega arith in rw whole at (uneven a (s - a) b (omega arith))

half-square : (a b s : ℕ) → a + b ≤ s + s → a * b ≤ s * s
half-square a b s h = by (dec_le a s)
  where
    by : Dec (a ≤ s) → a * b ≤ s * s
    by (yes le) = smaller-first a b s le h
    by (no gt) = rw (mul_comm a b) (smaller-first b a s (omega (arith, lt_of_not-le gt)) (omega arith))

-- ---- the step

pub divisor : (n x : ℕ) → n < x * x → 0 < x
divisor n zero h = omega arith
divisor n (suc x) h = omega arith

pub next-above : (n x : ℕ) → 0 < x → n < (next n x + 1) * (next n x + 1)
next-above n x h = omega (arith, lt-mul-div-succ n h, half-square x (n / x + 1) (next n x + 1) (omega arith))

pub next-below : (n x : ℕ) → n < x * x → next n x < x
next-below n x h =
    let less : n / x < x = lt_of_not-le (λ (above : x ≤ n / x). omega (arith, mul-div-le n x, mul-le-mul_left x above)) in omega arith
