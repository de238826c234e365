-- `settings::rises` meets its contract: the pairs from k - 1 on rise where the line does.
-- Assumes nothing.
use mathlib.Core.Path.{◌≡◌, ◌∙◌}
use native.Mathlib.Omega.{arith}
use lib.ListN.{length}
use mir.Syntax.{w64}
use borrow.Author.Rules.{rules}
use Rattle.pairs.specs.Pairs.{settings_line, pairs_in}
use Rattle.ranges.proofs.Words.{word}
use Rattle.pairs.proofs.Sheet.{pairs-at, unmapped}
use Rattle.settings.proofs.Steps.{rise-more, rise-end, at-least}
use Rattle.settings.proofs.rises.Goals as goal

pub returns-then-pair_at : goal.returns-then-pair_at
returns-then-pair_at c =
    let l = settings_line c.args.s c.args.line in
    let long : length l ≡ pairs_in c.args.line = pairs-at c.args.s (search (rules, unmapped)) (search (rules, unmapped)) c.args.line c.requires in
    let left = c.pair_at in
    let right = c.pair_at-in-loop-k in
    let more = rise-more l c.loop-k.k (omega arith) (omega (arith, long, c.pairs_in-k-end.ensures)) in
    let test = rw (word w64 {z = left.result.first} (omega arith), word w64 {z = right.result.first} (omega arith)) at c.if-pair_at.true in
    rw (c.loop-k.invariant, more, ← left.ensures, ← right.ensures, at-least left.result.first right.result.first, test)

pub loop-k-preserved : goal.loop-k-preserved
loop-k-preserved c =
    let l = settings_line c.args.s c.args.line in
    let long : length l ≡ pairs_in c.args.line = pairs-at c.args.s (search (rules, unmapped)) (search (rules, unmapped)) c.args.line c.requires in
    let left = c.pair_at in
    let right = c.pair_at-in-loop-k in
    let more = rise-more l c.loop-k.k (omega arith) (omega (arith, long, c.pairs_in-k-end.ensures)) in
    let test = rw (word w64 {z = left.result.first} (omega arith), word w64 {z = right.result.first} (omega arith)) at c.if-pair_at.false in
    c.loop-k.invariant ∙ rw (more, ← left.ensures, ← right.ensures, at-least left.result.first right.result.first, test)

pub returns : goal.returns
returns c =
    let l = settings_line c.args.s c.args.line in
    let long : length l ≡ pairs_in c.args.line = pairs-at c.args.s (search (rules, unmapped)) (search (rules, unmapped)) c.args.line c.requires in
    rw (c.loop-k.invariant, rise-end l c.loop-k.k (omega (arith, long, c.pairs_in-k-end.ensures)))
