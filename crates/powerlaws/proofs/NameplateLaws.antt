-- Spec 7.4: the nameplate is the root of what vars leave, and one test tells whether a power is above it.
-- Assumes nothing.
use mathlib.Core.Path.{◌≡◌, sym, subst}
use Prim.Native.Nat.{ℕ, ◌+◌, ◌-◌, ◌*◌, ◌≤◌, ◌<◌, min}
use native.Mathlib.Nat.{mul-le-mul}
use native.Mathlib.Omega.{arith}
use lib.Dec.{leb}
use lib.IntN.{ℤ, nat_abs}
use mir.Syntax.{w32}
use mir.Val.{to_z, of_z}
use Rattle.rules.specs.Sensing.{largest}
use Rattle.rules.specs.Curves.{nameplate}
use Rattle.roots.specs.Root.{IsRoot}
use Rattle.roots.proofs.Largest.{largest-square}
use Rattle.roots.proofs.Roots.{root_below, largest-root}
use Rattle.powerlaws.proofs.Magnitude.{kept}

module _ (vars : ℤ) (small : nat_abs vars ≤ 10000) where
  abbrev used : ℕ
  used = nat_abs vars * nat_abs vars

  pub used-small : used ≤ 100000000
  used-small = mul-le-mul small small

  -- the square that a call was given back, its argument read from its bits
  pub square-read : {r : ℕ} → r ≡ nat_abs (to_z w32 (of_z w32 vars)) * nat_abs (to_z w32 (of_z w32 vars)) → r ≡ used
  square-read e = rw (kept vars (omega arith)) at e

  pub nameplate-is : (r : ℕ) → IsRoot (100000000 - used) r → r ≡ nameplate vars
  unfolding nameplate
  nameplate-is r root =
      let top : r ≤ 10000 = root_below r 10000 (100000000 - used) root.low (omega arith) in
      sym (largest-square used 100000000 r 10000 top (omega (arith, root.low, used-small)) (omega (arith, root.high)))

  pub nameplate-root : IsRoot (100000000 - used) (nameplate vars)
  nameplate-root =
      let root = largest-root 10000 (100000000 - used) (omega arith) in
      subst (λ (r : ℕ). IsRoot (100000000 - used) r) (nameplate-is (largest (λ r. leb (r * r) (100000000 - used)) 10000) root) root

  -- a power that fits beside vars is not above the nameplate
  pub power-fits : (p : ℕ) → p * p + used ≤ 100000000 → p ≡ min p (nameplate vars)
  power-fits p h = omega (arith, root_below p (nameplate vars) (100000000 - used) (omega arith) nameplate-root.high)

  -- and one that does not fit is not below it
  pub power-over : (p : ℕ) → 100000000 < p * p + used → nameplate vars ≡ min p (nameplate vars)
  power-over p h =
      let less : 100000000 - used < (p + 1) * (p + 1)
      = omega (arith, used-small, mul-le-mul {n₁ = p} {m₁ = p} {n₂ = p + 1} {m₂ = p + 1} (omega arith) (omega arith)) in
      omega (arith, root_below (nameplate vars) p (100000000 - used) nameplate-root.low less)
