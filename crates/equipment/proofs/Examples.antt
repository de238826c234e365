-- Our equipment with the voltages of the examples' codes at hand. A voltage is a search from 20236 downward (spec 2.2); these are known
-- without one, as roots. What is computed with this equipment is computed quickly, and holds of ours, since the two are equal.
-- Assumes nothing.
use mathlib.Core.Path.{◌≡◌, refl, ap, subst⁻¹, fun_ext}
use mathlib.Core.Bool.{Bool, true, false, cond}
use mathlib.Core.List.{List, [], ◌∷◌}
use Prim.Native.Nat.{ℕ, ◌+◌, ◌*◌, ◌≤◌, ◌<◌}
use lib.Dec.{eqb, lit<, lit≤}
use borrow.Author.Tests.{eqb-true}
use Rattle.rules.specs.Sensing.{voltage}
use Rattle.rules.specs.Samples.{Equipment}
use Rattle.rules.specs.Regions.{voltage_region, our_equipment}
use Rattle.roots.proofs.Roots.{root-one}
use Rattle.roots.proofs.Voltages.{voltage-root}
use Rattle.claims.specs.Sound.{Sound}
use Rattle.equipment.proofs.Sound.{our-equipment-sound}

-- a code and its voltage
pub record Known : Type 0 where
  pub code : ℕ
  pub volts : ℕ
  pub is : voltage code ≡ volts

-- by the square rule
abbrev pub known : (code volts : ℕ) → code < 4096 → volts * volts ≤ code * 100000 → code * 100000 < (volts + 1) * (volts + 1) → Known
known code volts h low high =
    record { code = code; volts = volts; is = root-one (voltage-root code h) (record { low = low; high = high }) }

-- those of the examples, the most used first
abbrev pub examples : List Known
examples =
    known 1000 10000 (lit< tt) (lit≤ tt) (lit< tt)
    ∷ known 1441 12004 (lit< tt) (lit≤ tt) (lit< tt)
    ∷ known 700 8366 (lit< tt) (lit≤ tt) (lit< tt)
    ∷ known 0 0 (lit< tt) (lit≤ tt) (lit< tt)
    ∷ known 1 316 (lit< tt) (lit≤ tt) (lit< tt)
    ∷ known 774 8797 (lit< tt) (lit≤ tt) (lit< tt)
    ∷ known 775 8803 (lit< tt) (lit≤ tt) (lit< tt)
    ∷ known 1440 12000 (lit< tt) (lit≤ tt) (lit< tt)
    ∷ known 4095 20236 (lit< tt) (lit≤ tt) (lit< tt)
    ∷ []

-- looked up among them, and by the search where it is none of them
abbrev pub looked_up : List Known → ℕ → ℕ
looked_up [] code = voltage code
looked_up (k ∷ ks) code = cond (eqb code k.code) k.volts (looked_up ks code)

looked-up : (ks : List Known) (code : ℕ) → looked_up ks code ≡ voltage code
looked-up [] code = refl
looked-up (k ∷ ks) code = by (eqb code k.code) refl (looked-up ks code)
  where
    by : (b : Bool) → eqb code k.code ≡ b → looked_up ks code ≡ voltage code → cond b k.volts (looked_up ks code) ≡ voltage code
    by true e rest = rw (eqb-true code k.code e) (rw k.is refl)
    by false e rest = rest

abbrev pub tabled : Equipment
tabled = record { sensing = looked_up examples; region = voltage_region }

pub tabled-is-ours : tabled ≡ our_equipment
tabled-is-ours = ap (λ (sensing : ℕ → ℕ). record { sensing = sensing; region = voltage_region }) (fun_ext (looked-up examples))

pub tabled-sound : Sound tabled
tabled-sound = subst⁻¹ Sound tabled-is-ours our-equipment-sound
