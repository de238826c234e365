-- `run` ends: a turn that goes on has read some of the 10^12 bytes that may be read.
use Rattle.std.proofs.Common.{◌≡◌, ◌+◌, cond, length}
use Rattle.rules.specs.Regions.{our_equipment}
use Rattle.console.proofs.Running.{Turning}
use Rattle.console.proofs.run.Given as goal

abbrev pub invariant-loop-going : goal.invariant-loop-going
invariant-loop-going g l =
    (Turning our_equipment (g.R.Read.remaining l.initial.from) (g.W.Write.contents l.initial.to) l.buf l.state l.have (g.R.Read.remaining l.from)
    (g.W.Write.contents l.to) l.input l.handed l.going)
    × (length l.buf ≡ length l.initial.buf)
    × (length l.out ≡ length l.initial.out)

abbrev pub decreases-loop-going : goal.decreases-loop-going
decreases-loop-going g l = cond l.going (l.input.budget + 1) 0
