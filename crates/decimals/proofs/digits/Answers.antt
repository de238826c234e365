-- `decimals::digits` meets its contract: a logarithm to base 10 counts the digits.
-- Assumes nothing.
use mathlib.Core.Path.{sym}
use native.Mathlib.Nat.{pow-suc}
use native.Mathlib.Omega.{arith}
use Rattle.decimals.proofs.Decimals.{below, one-length, digit-count}
use Rattle.decimals.proofs.digits.Goals as goal

pub returns-then-n-lt10-clause-value : goal.returns-then-n-lt10-clause-value
returns-then-n-lt10-clause-value c = sym (one-length c.args.n c.if-n-lt10.true)

pub returns-clause-value : goal.returns-clause-value
returns-clause-value c =
    let k = c.ilog10.result in
    let log = c.ilog10.ensures in
    omega (arith, digit-count k c.args.n (below c.ranges.n) log.power_le (omega (arith, pow-suc 10 k, log.next_power_gt)))
