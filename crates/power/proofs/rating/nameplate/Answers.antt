-- `power::rating::nameplate` meets its contract: the root of what vars leave is the nameplate.
-- Assumes nothing.
use native.Mathlib.Omega.{arith}
use borrow.Author.Rules.{rules}
use Rattle.powerlaws.proofs.NameplateLaws.{used-small, square-read, nameplate-is}
use Rattle.power.proofs.rating.nameplate.Goals as goal

pub returns : goal.returns
returns c =
    nameplate-is c.args.vars c.requires c.root.result
    (rw (square-read c.args.vars c.requires c.square.ensures) at c.root.ensures)
