-- `recording::step_all` meets its contract. The loop's invariant: the samples that are left end as all do from a fresh board (`Stepping.antt`).
-- Assumes nothing.
use Rattle.std.proofs.Common.{◌≡◌}
use Rattle.rules.specs.Regions.{equipped_with}
use Rattle.recording.specs.Recordings.{group_length}
use Rattle.recording.proofs.Stepping.{Going}
use Rattle.recording.proofs.step_all.Given as goal

abbrev pub invariant-loop-sample : goal.invariant-loop-sample
invariant-loop-sample l =
    (l.sample-iterator.size ≡ group_length)
    × Going (equipped_with l.table) l.settings.settings l.samples l.sample-iterator.rest.now l.ran.board l.ran.report l.ran.accepted
