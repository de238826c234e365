-- `oldimages::has_added` meets its contract: a source of another length has not these four bytes; of an image each is looked at.
-- Assumes nothing.
use borrow.Author.Rules.{rules}
use borrow.Author.Tests.{eq-eqb, ne_eqb}
use mathlib.Core.Path.{◌≡◌, sym}
use native.Mathlib.Omega.{arith}
use lib.ListN.{get_or}
use Rattle.oldimages.proofs.Added.{by_bytes, not-added}
use Rattle.oldimages.proofs.has_added.Goals as goal

pub returns-then-source-ne-IMAGE_LENGTH : goal.returns-then-source-ne-IMAGE_LENGTH
returns-then-source-ne-IMAGE_LENGTH c = sym (not-added c.args.source.now c.if-source-ne-IMAGE_LENGTH.true)

pub returns : goal.returns
returns c =
    let source = c.args.source.now in
    let full : get_or source 45 0 ≡ 40 = omega arith in
    let none : get_or source 46 0 ≡ 0 = omega arith in
    let high : get_or source 47 0 ≡ 0 = omega arith in
    rw (by_bytes source (omega arith), eq-eqb _ _ full, eq-eqb _ _ none, eq-eqb _ _ high)
