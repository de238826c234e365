-- `pairs::pair_at` meets its contract: a line below 8 is a limit's, and each other line has an arm.
-- Assumes nothing.
use mathlib.Core.Path.{◌≡◌, sym}
use native.Mathlib.Omega.{arith}
use lib.IntN.{pos}
use lib.ListN.{get_or-map}
use Rattle.rules.specs.Settings.{lines_of, point_pair}
use Rattle.pairs.proofs.Sheet.{trip-at, first-pair}
use borrow.Author.Rules.{rules}
use Rattle.pairs.proofs.pair_at.Goals as goal

pub returns-in-0-to-7 : goal.returns-in-0-to-7
returns-in-0-to-7 c =
    let one = first-pair c.args.line c.args.k (omega arith) c.requires.1 in
    rw (c.unsigned_pair-in-0-to-7.ensures, trip-at c.args.s c.args.line (omega arith), one)

pub returns-in-8 : goal.returns-in-8
unfolding lines_of
returns-in-8 c =
    let one = first-pair c.args.line c.args.k (omega arith) c.requires.1 in
    let at : c.args.line ≡ 8 = omega arith in
    rw (c.unsigned_pair.ensures, at, one)

pub returns-in-9 : goal.returns-in-9
unfolding lines_of
returns-in-9 c =
    let one = first-pair c.args.line c.args.k (omega arith) c.requires.1 in
    let at : c.args.line ≡ 9 = omega arith in
    rw (c.unsigned_pair-in-9.ensures, at, one)

pub returns-in-10 : goal.returns-in-10
unfolding lines_of
returns-in-10 c =
    let one = first-pair c.args.line c.args.k (omega arith) c.requires.1 in
    let at : c.args.line ≡ 10 = omega arith in
    rw (c.unsigned_pair-in-10.ensures, at, one)

pub returns-in-11 : goal.returns-in-11
unfolding lines_of
returns-in-11 c =
    let at : c.args.line ≡ 11 = omega arith in
    rw (c.point_pair.ensures, at) (sym (get_or-map point_pair c.args.s.var c.args.k (record { volts = 0; power = pos 0 })))

pub returns-in_default : goal.returns-in_default
unfolding lines_of
returns-in_default c =
    let at : c.args.line ≡ 12 = omega arith in
    rw (c.point_pair-in_default.ensures, at) (sym (get_or-map point_pair c.args.s.watt c.args.k (record { volts = 0; power = pos 0 })))
