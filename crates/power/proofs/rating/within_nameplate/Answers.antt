-- `power::rating::within_nameplate` meets its contract: the test tells which of the two is the least.
-- Assumes nothing.
use mathlib.Core.Path.{◌∙◌}
use native.Mathlib.Nat.{mul-le-mul}
use native.Mathlib.Omega.{arith}
use borrow.Author.Rules.{rules}
use Rattle.powerlaws.proofs.Magnitude.{kept}
use Rattle.powerlaws.proofs.NameplateLaws.{used-small, square-read, power-fits, power-over}
use Rattle.power.proofs.rating.within_nameplate.Goals as goal

pub returns-then-p-square-le100000000 : goal.returns-then-p-square-le100000000
returns-then-p-square-le100000000 c =
    power-fits c.args.vars c.requires.1 c.args.p (omega (arith, square-read c.args.vars c.requires.1 c.square.ensures))

pub returns-else-p-square-le100000000 : goal.returns-else-p-square-le100000000
returns-else-p-square-le100000000 c =
    (rw (kept c.args.vars (omega arith)) at c.nameplate.ensures)
    ∙ power-over c.args.vars c.requires.1 c.args.p (omega (arith, square-read c.args.vars c.requires.1 c.square.ensures))
