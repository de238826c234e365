-- `statusrules::first_place` meets its contract: the zeros that lead the bits tell the place (`Places.antt`).
-- Assumes nothing.
use Rattle.std.proofs.Common.{sym, arith}
use Rattle.statusrules.proofs.Places.{leads-packed}
use Rattle.statusrules.proofs.first_place.Goals as goal

pub returns-in-7-to-14 : goal.returns-in-7-to-14
returns-in-7-to-14 c =
    λ trips ready eight e.
    let l = leads-packed c.args.bits trips ready eight e in
    omega (arith, l.some (omega arith))

pub returns-in_default : goal.returns-in_default
returns-in_default c =
    λ trips ready eight e.
    let l = leads-packed c.args.bits trips ready eight e in
    absurd (omega (arith, l.from))

pub returns-in_default-2 : goal.returns-in_default-2
returns-in_default-2 c =
    λ trips ready eight e.
    let l = leads-packed c.args.bits trips ready eight e in
    sym (l.none (omega arith))
