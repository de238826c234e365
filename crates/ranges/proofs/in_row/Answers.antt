-- `ranges::in_row` meets its contract, at an arbitrary row: each of the two tests is half of the row's.
-- Assumes nothing.
use native.Mathlib.Omega.{arith}
use mir.Syntax.{w64}
use Rattle.ranges.proofs.Words.{word}
use Rattle.ranges.proofs.Rows.{halves}
use borrow.Author.Rules.{rules}
use Rattle.ranges.proofs.in_row.Goals as goal

pub returns-then-within : goal.returns-then-within
returns-then-within c =
    let row = c.args.row in
    let p = c.args.p in
    let first = rw (word w64 {z = row.0} (omega arith), word w64 {z = row.1} (omega arith), word w64 {z = p.first} (omega arith)) at
    c.within.ensures in
    let second = rw (word w64 {z = row.2} (omega arith), word w64 {z = row.3} (omega arith), word w64 {z = p.second} (omega arith)) at c.within-then-within.ensures in
    rw (halves, ← first, ← second, c.if-within.true)

pub returns-else-within : goal.returns-else-within
returns-else-within c =
    let row = c.args.row in
    let p = c.args.p in
    let first = rw (word w64 {z = row.0} (omega arith), word w64 {z = row.1} (omega arith), word w64 {z = p.first} (omega arith)) at
    c.within.ensures in
    rw (halves, ← first, c.if-within.false)
