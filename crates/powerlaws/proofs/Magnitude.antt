-- Integers by their magnitudes, which `omega` reads: of sums, products and quotients, and what an i32 gives back.
-- Assumes nothing.
use mathlib.Core.Path.{◌≡◌, refl}
use mathlib.Core.Bool.{Bool, true, false, cond}
use Prim.Native.Nat.{ℕ, suc, ◌+◌, ◌-◌, ◌*◌, ◌/◌, ◌≤◌, ◌<◌}
use native.Mathlib.Omega.{arith}
use borrow.Author.Tests.{ltb-true, ltb-false}
use lib.Dec.{ltb}
use lib.IntN.{ℤ, pos, negsuc, nat_abs, sub_ℕ, ◌+ℤ◌, ◌*ℤ◌}
use lib.Signed.{quot_z}
use Rattle.basics.proofs.Signs.{abs_neg}
use mir.Syntax.{w32}
use mir.Val.{SFits, to_z, of_z}
use mir.Facts.{to_z-of_z}

pub abs-sub : (m n : ℕ) → nat_abs (sub_ℕ m n) ≡ (m - n) + (n - m)
abs-sub m n = by (ltb m n) refl
  where
    by : (t : Bool) → ltb m n ≡ t → nat_abs (cond t (negsuc (n - suc m)) (pos (m - n))) ≡ (m - n) + (n - m)
    by true e = omega (arith, ltb-true m n e)
    by false e = omega (arith, ltb-false m n e)

pub abs-add : (a b : ℤ) → nat_abs (a +ℤ b) ≤ nat_abs a + nat_abs b
abs-add (pos m) (pos n) = omega arith
abs-add (pos m) (negsuc n) = omega (arith, abs-sub m (suc n))
abs-add (negsuc m) (pos n) = omega (arith, abs-sub n (suc m))
abs-add (negsuc m) (negsuc n) = omega arith

pub abs-mul : (d : ℤ) (x : ℕ) → nat_abs (d *ℤ pos x) ≡ nat_abs d * x
abs-mul (pos n) x = refl
abs-mul (negsuc n) x = abs_neg (pos (suc n * x))

pub abs-quot : (z : ℤ) (g : ℕ) → nat_abs (quot_z z (pos g)) ≡ nat_abs z / g
abs-quot (pos n) g = refl
abs-quot (negsuc n) g = abs_neg (pos (suc n / g))

-- the square of a number is that of its magnitude
pub square-is : (z : ℤ) → z *ℤ z ≡ pos (nat_abs z * nat_abs z)
square-is (pos n) = refl
square-is (negsuc n) = refl

-- ---- numbers of 32 bits

pub fits : (z : ℤ) → nat_abs z < 2147483648 → SFits w32 z
fits (pos n) h = record { sfits = h }
fits (negsuc n) h = record { sfits = omega arith }

-- a number that fits is read back from its bits
pub kept : (z : ℤ) → nat_abs z < 2147483648 → to_z w32 (of_z w32 z) ≡ z
kept z h = to_z-of_z (fits z h)

-- and so is a power of a sheet's size
pub power-kept : (z y : ℤ) → z ≡ y → nat_abs y ≤ 10000 → to_z w32 (of_z w32 z) ≡ y
power-kept z y e small = rw e (kept y (omega arith))
