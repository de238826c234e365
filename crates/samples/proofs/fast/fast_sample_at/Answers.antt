-- `samples::fast::fast_sample_at` meets its contract: each turn takes one number of the sample form with the byte that closes it.
-- Assumes nothing.
use Rattle.std.proofs.Common.{◌≡◌, arith, slice_index_or}
use Rattle.samples.proofs.FastSamples.{next-number, next-spaced, fast-ends}
use Rattle.samples.proofs.fast.fast_sample_at.Goals as goal
use Rattle.samples.proofs.fast.fast_sample_at.Goals.{else-k-eq2, then-k-eq2+else-s-at-ne32}

pub loop-k-preserved : goal.loop-k-preserved
loop-k-preserved c =
    let a = c.args in
    let l = c.loop-k in
    let x = c.in_ok-x in
    let e = rw c.closing.ensures at x.ensures in
    elim c.if-k-eq2.branch [
      | then-k-eq2+else-s-at-ne32 w ↦ rw w.at-is (next-spaced a.s.now a.start l.slice l.k l.at l.invariant
          c.loop-k-test.true x.x e w.if-k-eq2.true c.requires w.if-s-at-ne32.false)
      | else-k-eq2 w ↦ rw w.at-is (next-number a.s.now a.start l.slice l.k l.at l.invariant c.loop-k-test.true x.x e w.if-k-eq2.false)
    ]

pub returns : goal.returns
returns c =
    let l = c.loop-k in
    let feed : slice_index_or c.args.s.now l.at 0 ≡ 10 = omega arith in
    fast-ends c.args.s.now c.args.start l.slice l.k l.at l.invariant c.loop-k-test.false c.requires feed
