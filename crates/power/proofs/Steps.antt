-- The machine's numbers in `between`, each read back from its bits: each fits an i32, so each is the number that spec 7.2 has.
-- Assumes nothing.
use mathlib.Core.Path.{◌≡◌, sym, ap, ◌∙◌}
use Prim.Native.Nat.{ℕ, ◌≤◌}
use native.Mathlib.Nat.{mul-le-mul, div-le_self}
use native.Mathlib.Omega.{arith}
use lib.IntN.{ℤ, pos, neg_ℤ, nat_abs, ◌+ℤ◌, ◌-ℤ◌, ◌*ℤ◌}
use lib.Signed.{quot_z}
use mir.Syntax.{w32}
use mir.Val.{SFits, to_z, of_z}
use mir.Facts.{to_z-of_z, to_z_pos}
use Rattle.powerlaws.specs.Points.{Inside}
use Rattle.basics.proofs.Signs.{abs_neg}
use Rattle.powerlaws.proofs.Magnitude.{fits, kept, abs-add, abs-mul, abs-quot}
use Rattle.powerlaws.proofs.Shares.{no-share, between-small}

abbrev back : ℤ → ℤ
back z = to_z w32 (of_z w32 z)

abbrev difference : ℤ → ℤ → ℤ
difference a b = back b -ℤ back a

abbrev product : ℤ → ℤ → ℕ → ℤ
product a b x = back (difference a b) *ℤ to_z w32 x

abbrev quotient : ℤ → ℤ → ℕ → ℕ → ℤ
quotient a b x g = quot_z (back (product a b x)) (to_z w32 g)

abbrev sum : ℤ → ℤ → ℕ → ℕ → ℤ
sum a b x g = back a +ℤ back (quotient a b x g)

module _ (a b : ℤ) (x g : ℕ) (ok : Inside a b x g) where
  -- the number of spec 7.2
  abbrev ruled : ℤ
  ruled = a +ℤ quot_z ((b -ℤ a) *ℤ pos x) (pos g)

  -- ---- the magnitudes of the rule's numbers

  abs-difference : nat_abs (b -ℤ a) ≤ 20000
  abs-difference = omega (arith, abs-add b (neg_ℤ a), abs_neg a)

  abs-product : nat_abs ((b -ℤ a) *ℤ pos x) ≤ 260000000
  abs-product = let near : x ≤ 13000 = omega arith in rw abs-mul (omega (arith, mul-le-mul abs-difference near))

  abs-quotient : nat_abs (quot_z ((b -ℤ a) *ℤ pos x) (pos g)) ≤ 260000000
  abs-quotient = rw abs-quot (omega (arith, abs-product, div-le_self (nat_abs ((b -ℤ a) *ℤ pos x)) g))

  pub abs-between : nat_abs ruled ≤ 10000
  abs-between = between-small 10000 a b x g (omega arith) ok.left-top ok.right-top

  -- ---- the machine's numbers are the rule's

  difference-is : difference a b ≡ b -ℤ a
  difference-is = rw (kept a (omega arith), kept b (omega arith))

  product_is : product a b x ≡ (b -ℤ a) *ℤ pos x
  product_is = rw (difference-is, kept (b -ℤ a) (omega (arith, abs-difference)), to_z_pos w32 {n = x} (omega arith))

  quotient_is : quotient a b x g ≡ quot_z ((b -ℤ a) *ℤ pos x) (pos g)
  quotient_is = rw (product_is, kept ((b -ℤ a) *ℤ pos x) (omega (arith, abs-product)), to_z_pos w32 {n = g} (omega arith))

  sum_is : sum a b x g ≡ ruled
  sum_is = rw (quotient_is, kept a (omega arith), kept (quot_z ((b -ℤ a) *ℤ pos x) (pos g)) (omega (arith, abs-quotient)))

  -- ---- and fit

  pub difference-fits : SFits w32 (difference a b)
  difference-fits = rw difference-is (fits (b -ℤ a) (omega (arith, abs-difference)))

  pub product-fits : SFits w32 (product a b x)
  product-fits = rw product_is (fits ((b -ℤ a) *ℤ pos x) (omega (arith, abs-product)))

  pub quotient_fits : SFits w32 (quotient a b x g)
  quotient_fits = rw quotient_is (fits (quot_z ((b -ℤ a) *ℤ pos x) (pos g)) (omega (arith, abs-quotient)))

  pub sum_fits : SFits w32 (sum a b x g)
  sum_fits = rw sum_is (fits (ruled) (omega (arith, abs-between)))

  pub result-is : back (sum a b x g) ≡ ruled
  result-is = to_z-of_z sum_fits ∙ sum_is

  -- ---- powers with the same bits are the same, and then the number of spec 7.2 is that power

  same-powers : of_z w32 a ≡ of_z w32 b → a ≡ b
  same-powers e = sym (kept a (omega arith)) ∙ ap (to_z w32) e ∙ kept b (omega arith)

  pub flat-is : of_z w32 a ≡ of_z w32 b → back a ≡ ruled
  flat-is e = kept a (omega arith) ∙ sym (rw (← same-powers e) (no-share a x g))
