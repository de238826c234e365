-- `settings::line_in_row` meets its contract: what is found of the pairs from k on is what is found of the line.
-- Assumes nothing.
use mathlib.Core.Path.{◌≡◌, ◌∙◌}
use native.Mathlib.Omega.{arith}
use lib.ListN.{length}
use borrow.Author.Rules.{rules}
use Rattle.rules.specs.Settings.{in_row}
use Rattle.ranges.specs.Rows.{row_of}
use Rattle.pairs.specs.Pairs.{settings_line, pairs_in}
use Rattle.pairs.proofs.Sheet.{pairs-at, unmapped}
use Rattle.settings.proofs.Steps.{range-more, range-end}
use Rattle.settings.proofs.line_in_row.Goals as goal

pub returns-then-not-in_row : goal.returns-then-not-in_row
returns-then-not-in_row c =
    let l = settings_line c.args.s c.args.line in
    let long : length l ≡ pairs_in c.args.line = pairs-at c.args.s (search (rules, unmapped)) (search (rules, unmapped)) c.args.line c.requires in
    let more = range-more l c.loop-k.k (in_row (row_of c.args.row)) (omega (arith, long, c.pairs_in-k-end.ensures)) in
    rw (c.loop-k.invariant, more, ← c.pair_at.ensures, ← c.in_row.ensures, c.if-not-in_row.true)

pub loop-k-preserved : goal.loop-k-preserved
loop-k-preserved c =
    let l = settings_line c.args.s c.args.line in
    let long : length l ≡ pairs_in c.args.line = pairs-at c.args.s (search (rules, unmapped)) (search (rules, unmapped)) c.args.line c.requires in
    let more = range-more l c.loop-k.k (in_row (row_of c.args.row)) (omega (arith, long, c.pairs_in-k-end.ensures)) in
    c.loop-k.invariant ∙ rw (more, ← c.pair_at.ensures, ← c.in_row.ensures, c.if-not-in_row.false)

pub returns : goal.returns
returns c =
    let l = settings_line c.args.s c.args.line in
    let long : length l ≡ pairs_in c.args.line = pairs-at c.args.s (search (rules, unmapped)) (search (rules, unmapped)) c.args.line c.requires in
    rw (c.loop-k.invariant, range-end l c.loop-k.k (in_row (row_of c.args.row)) (omega (arith, long, c.pairs_in-k-end.ensures)))
