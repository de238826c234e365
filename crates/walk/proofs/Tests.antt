-- How a walk's test of a number against 0 comes out, as in `if next.number != 0 { return .. }`.
-- Assumes nothing.
use mathlib.Core.Path.{◌≡◌, refl}
use mathlib.Core.Bool.{not}
use Prim.Native.Nat.{ℕ, zero, suc, ◌<◌}
use native.Mathlib.Omega.{arith}
use lib.Dec.{T, T_not, not_T, eqb, eqb_refl, eqb→eq}

pub above_zero : (n : ℕ) → T (not (eqb n 0)) → 0 < n
above_zero zero t = absurd (T_not (eqb 0 0) t (eqb_refl 0))
above_zero (suc n) t = omega arith

pub is_zero : (n : ℕ) → T (not (not (eqb n 0))) → n ≡ 0
is_zero zero t = refl
is_zero (suc n) t = absurd (T_not (not (eqb (suc n) 0)) t (not_T (eqb (suc n) 0) (λ h. omega (arith, eqb→eq (suc n) 0 h))))
