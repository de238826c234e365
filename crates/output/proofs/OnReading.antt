-- Watts and vars on a reading: a power fits the record's fields, and the limits, taken in turn, leave their least.
-- Assumes nothing.
use mathlib.Core.Path.{◌≡◌, sym, ap, ◌∙◌}
use mathlib.Core.Bool.{true}
use mathlib.Core.List.{[], ◌∷◌}
use Prim.Native.Nat.{ℕ, ◌/◌, ◌≤◌}
use native.Mathlib.Omega.{arith}
use lib.IntN.{ℤ, pos, negsuc, nat_abs}
use mir.Syntax.{w16, w32}
use mir.Val.{SFits, to_z, of_z}
use mir.Facts.{to_z-of_z}
use Rattle.rules.specs.Samples.{Slice, Equipment, mean}
use Rattle.rules.specs.Curves.{curve, nameplate}
use Rattle.rules.specs.Service.{exports, recovery_limit, vars_of, watt_curve, first_limits, left_by, watts_of}
use Rattle.rules.specs.declared.Settings.{Settings}
use Rattle.laws.proofs.Curves.{fits16}
use Rattle.laws.proofs.Least.{in_turn, in-turn}
use Rattle.laws.proofs.Events.{all_then}
use Rattle.readings.specs.declared.reading.Reading.{Reading}
use Rattle.readings.specs.Readings.{reading_of}

-- ---- a power fits the record's fields

pub fits32 : (z : ℤ) → nat_abs z ≤ 10000 → SFits w32 z
fits32 (pos n) h = record { sfits = omega arith }
fits32 (negsuc n) h = record { sfits = omega arith }

pub kept32 : (z : ℤ) → nat_abs z ≤ 10000 → to_z w32 (of_z w32 z) ≡ z
kept32 z h = to_z-of_z (fits32 z h)

pub kept16 : (z : ℤ) → nat_abs z ≤ 10000 → to_z w16 (of_z w16 (to_z w32 (of_z w32 z))) ≡ z
kept16 z h = ap (λ (y : ℤ). to_z w16 (of_z w16 y)) (kept32 z h) ∙ to_z-of_z (fits16 z h)

-- ---- watts and vars, on a reading

module _ (e : Equipment) (s : Settings) (x : Slice) (r : Reading) (q : reading_of e x ≡ r) (status : ℕ) (on : exports status ≡ true) where
  mean-is : r.sum / 3 ≡ mean e x
  mean-is = ap (λ (y : Reading). y.sum / 3) (sym q)

  pub vars-on : (z : ℤ) → z ≡ curve s.var (r.sum / 3) → z ≡ vars_of e s x status
  unfolding vars_of
  vars-on z p = rw on (p ∙ ap (curve s.var) mean-is)

  -- the least that the first limits leave, and then the others in their standing order, one taken after the other
  pub watts-on : (share recovery held first : ℕ) (z : ℤ) (c w : ℕ) → first ≡ left_by (first_limits x share held)
      → z ≡ curve s.var (r.sum / 3) → c ≡ nat_abs (curve s.watt (r.sum / 3))
      → w ≡ in_turn first (c ∷ nameplate z ∷ recovery_limit recovery ∷ [])
      → w ≡ watts_of e s x status share recovery held
  unfolding watts_of
  watts-on share recovery held first z c w l p k m =
      let v : nameplate z ≡ nameplate (vars_of e s x status) = ap nameplate (vars-on z p) in
      let d : c ≡ watt_curve e s x = k ∙ ap (λ (n : ℕ). nat_abs (curve s.watt n)) mean-is in
      rw on (m ∙ in-turn first (c ∷ nameplate z ∷ recovery_limit recovery ∷ []) ∙ rw (l, d, v)
      (sym (all_then e s x share recovery held (vars_of e s x status))))
