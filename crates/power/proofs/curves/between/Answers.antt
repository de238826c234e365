-- `power::curves::between` meets its contract: each step fits, and is the number of spec 7.2 (`Steps.antt`).
-- Assumes nothing.
use native.Mathlib.Omega.{arith}
use borrow.Author.Rules.{rules}
use Rattle.power.proofs.Steps.{difference-fits, product-fits, quotient_fits, sum_fits, result-is, flat-is}
use Rattle.power.proofs.curves.between.Goals as goal

pub overflow_mul-result : goal.overflow_mul-result
overflow_mul-result c = product-fits c.args.left c.args.right c.args.distance c.args.gap c.requires

pub nonzero_div-result : goal.nonzero_div-result
nonzero_div-result c = (omega arith, quotient_fits c.args.left c.args.right c.args.distance c.args.gap c.requires)

pub overflow_add-result : goal.overflow_add-result
overflow_add-result c = sum_fits c.args.left c.args.right c.args.distance c.args.gap c.requires

pub returns : goal.returns
returns c = result-is c.args.left c.args.right c.args.distance c.args.gap c.requires
