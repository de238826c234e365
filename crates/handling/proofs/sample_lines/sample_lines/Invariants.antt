-- `handling::sample_lines::sample_lines` meets its contract. The loop's invariant: what is said from here on is what was to be said from h on
-- (`SampleLines.antt`).
-- Assumes nothing.
use Rattle.std.proofs.Common.{◌-◌, length}
use Rattle.rules.specs.Regions.{equipped_with}
use Rattle.states.specs.Carrying.{Carried}
use Rattle.handling.proofs.SampleLines.{here}
use Rattle.handling.proofs.sample_lines.sample_lines.Given as goal

abbrev pub invariant-loop-out : goal.invariant-loop-out
invariant-loop-out l = Carried (equipped_with l.table) l.s l.initial.out l.h l.out (here l.h l.board l.line l.overlong l.at l.w)

abbrev pub decreases-loop-out : goal.decreases-loop-out
decreases-loop-out l = length l.s - l.at
