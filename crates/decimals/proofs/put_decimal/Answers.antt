-- `decimals::put_decimal` meets its contract: a decimal is digits in base 10.
-- Assumes nothing.
use mathlib.Core.Path.{sym}
use native.Mathlib.Omega.{arith}
use Rattle.decimals.proofs.Decimals.{below, decimal-is, digit-is, digits-are, two-written}
use Rattle.decimals.proofs.put_decimal.Goals as goal

pub returns-then-n-lt10-clause-wrote : goal.returns-then-n-lt10-clause-wrote
returns-then-n-lt10-clause-wrote c =
    rw (digit-is c.args.n c.if-n-lt10.true) c.put_digits.ensures.wrote

pub returns-then-n-lt100-clause-wrote : goal.returns-then-n-lt100-clause-wrote
returns-then-n-lt100-clause-wrote c =
    two-written _ _ _ _ _ c.args.n c.put_digits-then-n-lt100.ensures.wrote (omega arith) (below c.ranges.n) (omega arith) (omega arith)

pub returns-then-n-lt1000-clause-wrote : goal.returns-then-n-lt1000-clause-wrote
returns-then-n-lt1000-clause-wrote c =
    rw (digits-are 2 c.args.n (below c.ranges.n) (omega arith) (omega arith)) c.put_digits-then-n-lt1000.ensures.wrote

pub returns-then-n-lt10000-clause-wrote : goal.returns-then-n-lt10000-clause-wrote
returns-then-n-lt10000-clause-wrote c =
    rw (digits-are 3 c.args.n (below c.ranges.n) (omega arith) (omega arith)) c.put_digits-then-n-lt10000.ensures.wrote

pub returns-clause-wrote : goal.returns-clause-wrote
returns-clause-wrote c =
    rw (decimal-is c.digits.result c.args.n (below c.ranges.n) (sym c.digits.ensures.value)) c.put_digits-2.ensures.wrote
