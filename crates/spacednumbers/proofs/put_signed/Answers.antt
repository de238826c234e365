-- `spacednumbers::put_signed` meets its contract: a minus where negative, and the magnitude.
-- Assumes nothing.
use mathlib.Core.Path.{◌≡◌, refl, ◌∙◌}
use mathlib.Core.Bool.{true, false}
use mathlib.Core.List.{[], ◌∷◌, ◌++◌}
use Prim.Native.Nat.{ℕ}
use native.Mathlib.Omega.{arith}
use borrow.Author.Tests.{ltb-true}
use lib.IntN.{ℤ, pos, negsuc, nat_abs}
use lib.Signed.{lt_z}
use mir.Syntax.{w16}
use mir.Val.{SFits, to_z, of_z}
use mir.Facts.{to_z-of_z}
use Rattle.rules.specs.Text.{decimal, signed_decimal}
use Rattle.buffers.proofs.Writing.{and_then}
use Rattle.spacednumbers.proofs.put_signed.Goals as goal

below-zero : (v : ℤ) → lt_z v (pos 0) ≡ true → signed_decimal v ≡ (45 ∷ []) ++ decimal (nat_abs v)
unfolding signed_decimal
below-zero (pos n) t = let h = ltb-true n 0 t in absurd (omega arith)
below-zero (negsuc n) t = refl

not-below : (v : ℤ) → lt_z v (pos 0) ≡ false → signed_decimal v ≡ decimal (nat_abs v)
unfolding signed_decimal
not-below (pos n) t = refl
not-below (negsuc n) t = let z : ◌≡◌ {A = ℕ} 0 1 = cc in absurd (omega arith)

module _ (v : ℤ) (f : SFits w16 v) (n : ℕ) (e : n ≡ nat_abs (to_z w16 (of_z w16 v))) where
  negative : lt_z (to_z w16 (of_z w16 v)) (pos 0) ≡ true → signed_decimal v ≡ (45 ∷ []) ++ decimal n
  negative t = below-zero v (rw (to_z-of_z f) at t) ∙ rw (e, to_z-of_z f)

  positive : lt_z (to_z w16 (of_z w16 v)) (pos 0) ≡ false → signed_decimal v ≡ decimal n
  positive t = not-below v (rw (to_z-of_z f) at t) ∙ rw (e, to_z-of_z f)

pub returns-then-v-lt0 : goal.returns-then-v-lt0
returns-then-v-lt0 c =
    rw (negative c.args.v c.ranges.v c.from-n.result (c.from-n.ensures ∙ c.unsigned_abs.ensures.value) c.if-v-lt0.true)
    (and_then c.put_byte-a.ensures c.put_decimal.ensures.wrote)

pub returns : goal.returns
returns c =
    rw (positive c.args.v c.ranges.v c.from-n.result (c.from-n.ensures ∙ c.unsigned_abs.ensures.value) c.if-v-lt0.false)
    c.put_decimal-2.ensures.wrote
