-- The decimal of a number, by its last digit and those before it, and how many digits it has.
-- Assumes nothing.
use mathlib.Core.Path.{◌≡◌, refl, sym, ap, ◌∙◌}
use mathlib.Core.List.{List, [], ◌∷◌, ◌++◌, append_assoc}
use Prim.Native.Nat.{ℕ, zero, suc, ◌+◌, ◌/◌, ◌%◌, ◌^◌, ◌≤◌, ◌<◌}
use native.Mathlib.Decide.{dec_le}
use native.Mathlib.Nat.{pow-suc, lt_of_not-le}
use native.Mathlib.Omega.{arith}
use borrow.Author.Tests.{lt-ltb, le-ltb}
use lib.ListN.{length, length-append}
use mir.Syntax.{w64}
use mir.Val.{Fits}
use Rattle.basics.proofs.Digits.{last-only}
use Rattle.rules.specs.Text.{digits_before, decimal}
use Rattle.buffers.specs.Written.{Wrote}
use Rattle.buffers.specs.Digits.{digits_in}

-- 20 digits write every number of 64 bits
pub below : {n : ℕ} → Fits w64 n → n < 10 ^ 20
below f = omega (arith, f.fits)

-- a number has one digit, or more
either : {A : Type 0} (n : ℕ) → (n < 10 → A) → (10 ≤ n → A) → A
either {A} n one more = by (dec_le 10 n)
  where
    by : Dec (10 ≤ n) → A
    by (yes le) = more le
    by (no gt) = one (lt_of_not-le gt)

-- the last digit, with those of the quotient before it
last_then : (k n : ℕ) (after : List ℕ) → 10 ≤ n → digits_before (suc k) n after ≡ digits_before k (n / 10) ((48 + n % 10) ∷ after)
unfolding digits_before
last_then k n after h = rw (le-ltb n 10 h)

tenth-below : (k n : ℕ) → n < 10 ^ suc k → n / 10 < 10 ^ k
tenth-below k n h = omega (arith, pow-suc 10 k)

digits-then : (k n : ℕ) (after : List ℕ) → digits_before k n after ≡ digits_before k n [] ++ after
unfolding digits_before
digits-then zero n after = refl
digits-then (suc k) n after =
    either n (λ h. rw (lt-ltb n 10 h))
    (λ h. rw (le-ltb n 10 h, digits-then k (n / 10) ((48 + n % 10) ∷ []), append_assoc) (digits-then k (n / 10) ((48 + n % 10) ∷ after)))

-- a number is written by as many digits as it has, and by any more
enough : (k n : ℕ) (after : List ℕ) → n < 10 ^ suc k → digits_before (suc (suc k)) n after ≡ digits_before (suc k) n after
enough zero n after h = last-only 1 n after h ∙ sym (last-only 0 n after h)
enough (suc k) n after h =
    either n (λ one. last-only (suc (suc k)) n after one ∙ sym (last-only (suc k) n after one))
    (λ more. last_then (suc (suc k)) n after more ∙ enough k (n / 10) ((48 + n % 10) ∷ after) (tenth-below (suc k) n h) ∙ sym (last_then (suc k) n after more))

pub one-digit : (n : ℕ) → n < 10 → decimal n ≡ (48 + n) ∷ []
unfolding decimal
one-digit n h = last-only 19 n [] h

pub more-digits : (n : ℕ) → 10 ≤ n → n < 10 ^ 20 → decimal n ≡ decimal (n / 10) ++ ((48 + n % 10) ∷ [])
unfolding decimal
more-digits n h below =
    last_then 19 n [] h ∙ digits-then 19 (n / 10) ((48 + n % 10) ∷ [])
    ∙ ap (λ (l : List ℕ). l ++ ((48 + n % 10) ∷ [])) (sym (enough 18 (n / 10) [] (tenth-below 19 n below)))

pub one-length : (n : ℕ) → n < 10 → length (decimal n) ≡ 1
one-length n h = ap length (one-digit n h)

pub more-length : (n : ℕ) → 10 ≤ n → n < 10 ^ 20 → length (decimal n) ≡ length (decimal (n / 10)) + 1
more-length n h below = ap length (more-digits n h below) ∙ length-append (decimal (n / 10)) ((48 + n % 10) ∷ [])

digits-length : (j k n : ℕ) (after : List ℕ) → n < 10 ^ suc k → length (digits_before j n after) ≤ suc k + length after
unfolding digits_before
digits-length zero k n after h = omega arith
digits-length (suc j) zero n after h = rw (last-only j n after h) (omega arith)
digits-length (suc j) (suc k) n after h =
    either n (λ one. rw (last-only j n after one) (omega arith))
    (λ more. rw (last_then j n after more) (omega (arith, digits-length j k (n / 10) ((48 + n % 10) ∷ after) (tenth-below (suc k) n h))))

-- a number below a power of ten has at most its digits
pub decimal-length : (k n : ℕ) → n < 10 ^ suc k → length (decimal n) ≤ suc k
unfolding decimal
decimal-length k n h = omega (arith, digits-length 20 k n [] h)

pub decimal-some : (n : ℕ) → n < 10 ^ 20 → 1 ≤ length (decimal n)
decimal-some n below = either n (λ h. omega (arith, one-length n h)) (λ h. omega (arith, more-length n h below))

-- a number between two powers of ten has so many digits
pub digit-count : (k n : ℕ) → n < 10 ^ 20 → 10 ^ k ≤ n → n < 10 ^ suc k → length (decimal n) ≡ suc k
digit-count zero n small lo hi = one-length n (omega (arith, hi))
digit-count (suc k) n small lo hi =
    let tenth : 10 ^ k ≤ n / 10 = omega (arith, pow-suc 10 k, lo) in
    let more : 10 ≤ n = omega (arith, pow-suc 10 k, pow-suc 10 (suc k), lo, tenth) in
    omega (arith, more-length n more small, digit-count k (n / 10) (omega arith) tenth (tenth-below (suc k) n hi))

-- a decimal is digits digits in base 10
pub decimal-is : (k n : ℕ) → n < 10 ^ 20 → length (decimal n) ≡ k → decimal n ≡ digits_in 10 48 k n
unfolding digits_in
decimal-is zero n small e = absurd (omega (arith, decimal-some n small))
decimal-is (suc k) n small e =
    either n (λ one. let none : k ≡ 0 = omega (arith, one-length n one) in let last : n % 10 ≡ n = omega arith in rw (none, one-digit n one, last) refl)
    (λ more. more-digits n more small ∙ rw (decimal-is k (n / 10) (omega arith) (omega (arith, more-length n more small))) refl)

-- a number between two powers of ten is so many digits
pub digits-are : (k n : ℕ) → n < 10 ^ 20 → 10 ^ k ≤ n → n < 10 ^ suc k → decimal n ≡ digits_in 10 48 (suc k) n
digits-are k n small lo hi = decimal-is (suc k) n small (digit-count k n small lo hi)

pub digit-is : (n : ℕ) → n < 10 → decimal n ≡ digits_in 10 48 1 n
digit-is n h = decimal-is 1 n (omega arith) (one-length n h)

-- two digits of a number that is n, between 10 and 100: whether it is n is asked by itself, so that another number is refused as another number
pub two-written : (d d' : List ℕ) (at r m n : ℕ) → Wrote d at d' r (digits_in 10 48 2 m) → m ≡ n → n < 10 ^ 20 → 10 ≤ n → n < 100
    → Wrote d at d' r (decimal n)
two-written d d' at r m n wrote same small lo hi = rw (digits-are 1 n small lo hi, ← same) wrote
