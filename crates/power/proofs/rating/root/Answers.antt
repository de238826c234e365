-- `power::rating::root` meets its contract: a step of Newton's rule from above stays above the root.
-- Assumes nothing.
use native.Mathlib.Omega.{arith}
use Rattle.power.proofs.Newton.{divisor, next-above, next-below}
use Rattle.power.proofs.rating.root.Goals as goal

pub loop-x-preserved : goal.loop-x-preserved
loop-x-preserved c =
    (omega (arith, next-below _ _ c.loop-x-test.true), next-above _ _ (divisor _ _ c.loop-x-test.true))
