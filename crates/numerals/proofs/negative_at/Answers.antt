-- `numerals::negative_at` meets its contract: a number after a minus is none where it is 0, and is negated where it is not.
-- Assumes nothing.
use Rattle.std.proofs.Common.{drop, ap, w32, of_z}
use lib.IntN.{+ℤ_idl}
use mir.Facts.{to_z-of_z}
use Rattle.numerals.proofs.Taking.{negated-some, small-fits, small-negated}
use Rattle.numerals.proofs.negative_at.Goals as goal

pub returns : goal.returns
returns c =
    let a = c.args in
    let x = c.in_ok-x in
    let small = x.ensures.small in
    rw (to_z-of_z (small-fits x.x.value small), +ℤ_idl, to_z-of_z (small-fits _ (small-negated x.x.value small)))
    (negated-some (drop a.at a.s.now) a.s.now x.x x.ensures (λ z. c.if-x-eq0.false (ap (of_z w32) z)))
