-- Spec 7.2: the left power plus a share of the difference, cut toward zero, keeps every bound and the sign that both powers keep.
-- Assumes nothing.
use mathlib.Core.Path.{◌≡◌, refl, sym, ap, ◌∙◌}
use mathlib.Core.Bool.{Bool, true, false, cond}
use Prim.Native.Nat.{ℕ, zero, suc, ◌-◌, ◌*◌, ◌/◌, ◌≤◌}
use native.Mathlib.Nat.{mul_comm, mul-le-mul_left, zero-mul, zero-div, div-le_of_le-mul, le_trans}
use native.Mathlib.Omega.{arith}
use borrow.Author.Tests.{ltb-false, le-ltb}
use lib.Dec.{T, ltb}
use lib.IntN.{ℤ, pos, negsuc, neg_ℤ, nat_abs, sub_ℕ, ◌+ℤ◌, ◌-ℤ◌, ◌*ℤ◌, neg_ℤ-neg_ℤ, neg_ℤ-+ℤ, +ℤ_comm, +ℤ_idr, +ℤ_invr, -ℤ-+ℤ_cancel}
use lib.Signed.{quot_z, non_neg}
use Rattle.basics.proofs.Signs.{abs_neg}
use Rattle.powerlaws.proofs.Magnitude.{abs-sub}

-- a power difference added to the left power is the right power
pub right-power : (a b : ℤ) → a +ℤ (b -ℤ a) ≡ b
right-power a b = +ℤ_comm a (b -ℤ a) ∙ -ℤ-+ℤ_cancel b a

-- a share is at most the whole
pub share-le : (n x g : ℕ) → x ≤ g → n * x / g ≤ n
share-le n x g h = div-le_of_le-mul g (rw (mul_comm g n) (mul-le-mul_left n h))

-- a negative number's quotient is its magnitude's, with the sign put back
pub quot-neg : (m g : ℕ) → quot_z (neg_ℤ (pos m)) (pos g) ≡ neg_ℤ (pos (m / g))
quot-neg zero g = rw zero-div
quot-neg (suc m) g = refl

-- of no difference there is no share
pub no-share : (a : ℤ) (x g : ℕ) → a +ℤ quot_z ((a -ℤ a) *ℤ pos x) (pos g) ≡ a
no-share a x g = rw (+ℤ_invr, zero-mul, zero-div, +ℤ_idr)

-- ---- bounds

up : (top : ℕ) (a : ℤ) (n k : ℕ) → k ≤ n → nat_abs a ≤ top → nat_abs (a +ℤ pos n) ≤ top → nat_abs (a +ℤ pos k) ≤ top
up top (pos m) n k h left right = omega arith
up top (negsuc m) n k h left right = omega (arith, abs-sub k (suc m), abs-sub n (suc m))

-- going down from a is going up from its negative
mirror : (a : ℤ) (n : ℕ) → nat_abs (a +ℤ neg_ℤ (pos n)) ≡ nat_abs (neg_ℤ a +ℤ pos n)
mirror a n =
    sym (abs_neg (a +ℤ neg_ℤ (pos n)))
    ∙ ap nat_abs (neg_ℤ-+ℤ a (neg_ℤ (pos n)) ∙ ap (λ (z : ℤ). neg_ℤ a +ℤ z) (neg_ℤ-neg_ℤ (pos n)))

share-small : (top : ℕ) (a d : ℤ) (x g : ℕ) → x ≤ g → nat_abs a ≤ top → nat_abs (a +ℤ d) ≤ top → nat_abs (a +ℤ quot_z (d *ℤ pos x) (pos g)) ≤ top
share-small top a (pos n) x g h left right = up top a n (n * x / g) (share-le n x g h) left right
share-small top a (negsuc n) x g h left right =
    rw (quot-neg, mirror)
    (up top (neg_ℤ a) (suc n) (suc n * x / g) (share-le (suc n) x g h) (rw abs_neg left) (rw (mirror a (suc n)) at right))

-- ---- the sign

down-non_neg : (m k : ℕ) → k ≤ m → T (non_neg (pos m +ℤ neg_ℤ (pos k)))
down-non_neg m zero h = tt
down-non_neg m (suc k) h = rw (le-ltb m (suc k) h) tt

non_neg-down : (m n : ℕ) → T (non_neg (sub_ℕ m n)) → n ≤ m
non_neg-down m n t = by (ltb m n) refl t
  where
    by : (s : Bool) → ltb m n ≡ s → T (non_neg (cond s (negsuc (n - suc m)) (pos (m - n)))) → n ≤ m
    by true e t = absurd t
    by false e t = ltb-false m n e

share-non_neg : (a d : ℤ) (x g : ℕ) → x ≤ g → T (non_neg a) → T (non_neg (a +ℤ d)) → T (non_neg (a +ℤ quot_z (d *ℤ pos x) (pos g)))
share-non_neg (pos m) (pos n) x g h left right = tt
share-non_neg (pos m) (negsuc n) x g h left right =
    rw quot-neg (down-non_neg m (suc n * x / g) (le_trans (share-le (suc n) x g h) (non_neg-down m (suc n) right)))
share-non_neg (negsuc m) d x g h left right = absurd left

-- ---- between two powers

pub between-small : (top : ℕ) (a b : ℤ) (x g : ℕ) → x ≤ g → nat_abs a ≤ top → nat_abs b ≤ top → nat_abs (a +ℤ quot_z ((b -ℤ a) *ℤ pos x) (pos g)) ≤ top
between-small top a b x g h left right = share-small top a (b -ℤ a) x g h left (rw right-power right)

pub between-non_neg : (a b : ℤ) (x g : ℕ) → x ≤ g → T (non_neg a) → T (non_neg b) → T (non_neg (a +ℤ quot_z ((b -ℤ a) *ℤ pos x) (pos g)))
between-non_neg a b x g h left right = share-non_neg a (b -ℤ a) x g h left (rw right-power right)
