-- `answer` ends: a turn that goes on has taken some bytes of the block.
use Rattle.std.proofs.Common.{◌≡◌, ◌+◌, ◌-◌, cond, length}
use Rattle.rules.specs.Regions.{our_equipment}
use Rattle.blocks.proofs.Answering.{Going}
use Rattle.blocks.proofs.answer.Given as goal

abbrev pub invariant-loop-more : goal.invariant-loop-more
invariant-loop-more g l =
    (Going our_equipment l.fn.q l.fn.block l.fn.last l.fn.before (g.W.Write.contents l.initial.to) (g.W.Write.contents l.to) l.state l.at l.handed
    l.going l.more)
    × (length l.out ≡ length l.initial.out)

abbrev pub decreases-loop-more : goal.decreases-loop-more
decreases-loop-more g l = cond l.more (length l.fn.block - l.at + 1) 0
