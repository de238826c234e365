-- Vars fit the report's field, and the nameplate's.
-- Assumes nothing.
use mathlib.Core.Path.{◌≡◌, ap, ◌∙◌}
use Prim.Native.Nat.{◌≤◌}
use lib.IntN.{ℤ, nat_abs}
use mir.Syntax.{w16, w32}
use mir.Val.{SFits, to_z, of_z}
use mir.Facts.{to_z-of_z}
use Rattle.laws.proofs.Curves.{fits16}
use Rattle.output.proofs.OnReading.{fits32, kept32}

module _ (z : ℤ) (small : nat_abs z ≤ 10000) where
  kept : to_z w16 (of_z w16 z) ≡ z
  kept = to_z-of_z (fits16 z small)

  pub widened-fits : SFits w32 (to_z w16 (of_z w16 z))
  widened-fits = rw kept (fits32 z small)

  pub widened : to_z w32 (of_z w32 (to_z w16 (of_z w16 z))) ≡ z
  widened = ap (λ (y : ℤ). to_z w32 (of_z w32 y)) kept ∙ kept32 z small
