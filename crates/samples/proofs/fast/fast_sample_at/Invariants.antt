-- `samples::fast::fast_sample_at` meets its contract: each turn takes one number of the sample form with the byte that closes it.
-- Assumes nothing.
use Rattle.samples.proofs.FastSamples.{SoFar}
use Rattle.samples.proofs.fast.fast_sample_at.Given as goal

abbrev pub invariant-loop-k : goal.invariant-loop-k
invariant-loop-k l = SoFar l.s l.start l.slice l.k l.at
