-- `power::curves::segment` meets its contract: each arm is a piece of the curve, of a sheet's size and so read back from its bits.
-- Assumes nothing.
use mathlib.Core.Path.{◌≡◌, refl}
use Prim.Native.Nat.{◌-◌}
use native.Mathlib.Omega.{arith}
use borrow.Author.Rules.{rules}
use borrow.Author.Tests.{le-leb, lt-leb}
use Rattle.rules.specs.Curves.{between, curve, curve_from}
use Rattle.powerlaws.proofs.Magnitude.{kept, power-kept}
use Rattle.power.proofs.Steps.{abs-between}
use Rattle.power.proofs.curves.segment.Goals as goal

pub returns-then-v-start : goal.returns-then-v-start
unfolding curve curve_from
returns-then-v-start c =
    let z = c.args in
    simp (lt-leb z.b.volts z.v (omega arith), lt-leb z.a.volts z.v (omega arith))
    (power-kept z.a.power _ refl (omega arith))

pub returns-then-v-end : goal.returns-then-v-end
unfolding curve curve_from
returns-then-v-end c =
    let z = c.args in
    let is : c.between.result ≡ between z.a z.b z.v = rw (kept z.a.power (omega arith), kept z.b.power (omega arith)) at c.between.ensures in
    simp (lt-leb z.b.volts z.v (omega arith), le-leb z.a.volts z.v (omega arith))
    (power-kept _ _ is (abs-between z.a.power z.b.power (z.v - z.a.volts) (z.b.volts - z.a.volts) (search rules)))

pub returns-else-v-end : goal.returns-else-v-end
unfolding curve curve_from
returns-else-v-end c =
    let z = c.args in
    simp (le-leb z.b.volts z.v (omega arith)) (power-kept z.b.power _ refl (omega arith))
