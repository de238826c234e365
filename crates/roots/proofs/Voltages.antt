-- Spec 2.2: the square rule of the voltages, and that they rise with the code.
-- Assumes nothing.
use Prim.Native.Nat.{ℕ, ◌*◌, ◌≤◌, ◌<◌}
use native.Mathlib.Omega.{arith}
use Rattle.rules.specs.Sensing.{voltage}
use Rattle.roots.specs.Root.{IsRoot}
use Rattle.roots.proofs.Roots.{root-rises, largest-root}

-- the voltage of a code is the root of code × 100,000
pub voltage-root : (k : ℕ) → k < 4096 → IsRoot (k * 100000) (voltage k)
unfolding voltage
voltage-root k h = largest-root 20236 (k * 100000) (omega arith)

pub voltage-rises : (j k : ℕ) → j ≤ k → k < 4096 → voltage j ≤ voltage k
voltage-rises j k h top = root-rises (omega arith) (voltage-root j (omega arith)) (voltage-root k top)
