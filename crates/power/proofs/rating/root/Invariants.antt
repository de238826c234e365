-- `power::rating::root` meets its contract. The loop's invariant: x is at most 10000 and not below the root. The measure is x.
-- Assumes nothing.
use Prim.Native.Nat.{◌+◌, ◌*◌, ◌≤◌, ◌<◌}
use native.Mathlib.Nat.{mul-le-mul, div-le_self}
use native.Mathlib.Omega.{arith}
use Rattle.power.proofs.Newton.{divisor, next-above, next-below}
use Rattle.power.proofs.rating.root.Given as goal

abbrev pub invariant-loop-x : goal.invariant-loop-x
invariant-loop-x l = (l.x ≤ 10000) × (l.room < (l.x + 1) * (l.x + 1))

abbrev pub decreases-loop-x : goal.decreases-loop-x
decreases-loop-x l = l.x
