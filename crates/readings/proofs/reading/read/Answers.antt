-- `readings::reading::read` meets its contract: an accepted slice has seven numbers, and codes of the table.
-- Assumes nothing.
use native.Mathlib.Omega.{arith}
use Rattle.laws.proofs.Accepted.{sample-right}
use borrow.Author.Rules.{rules}
use Rattle.readings.proofs.reading.read.Goals as goal

pub bounds-x-0 : goal.bounds-x-0
bounds-x-0 c =
    let seven = (sample-right c.args.x.now c.requires.1).seven in
    search rules

pub bounds-x-1 : goal.bounds-x-1
bounds-x-1 c =
    let seven = (sample-right c.args.x.now c.requires.1).seven in
    search rules

pub bounds-x-2 : goal.bounds-x-2
bounds-x-2 c =
    let seven = (sample-right c.args.x.now c.requires.1).seven in
    search rules

pub bounds-x-3 : goal.bounds-x-3
bounds-x-3 c =
    let seven = (sample-right c.args.x.now c.requires.1).seven in
    search rules

pub bounds-x-4 : goal.bounds-x-4
bounds-x-4 c =
    let seven = (sample-right c.args.x.now c.requires.1).seven in
    search rules

pub bounds-x-5 : goal.bounds-x-5
bounds-x-5 c =
    let seven = (sample-right c.args.x.now c.requires.1).seven in
    search rules

pub bounds-x-6 : goal.bounds-x-6
bounds-x-6 c =
    let seven = (sample-right c.args.x.now c.requires.1).seven in
    search rules

pub volts-requires : goal.volts-requires
volts-requires c =
    (c.requires.0, omega (arith, sample-right c.args.x.now c.requires.1))

pub volts-requires-2 : goal.volts-requires-2
volts-requires-2 c =
    (c.requires.0, omega (arith, sample-right c.args.x.now c.requires.1))

pub volts-requires-3 : goal.volts-requires-3
volts-requires-3 c =
    (c.requires.0, omega (arith, sample-right c.args.x.now c.requires.1))
