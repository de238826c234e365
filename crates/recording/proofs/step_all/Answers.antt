-- `recording::step_all` meets its contract: each chunk is a sample, and is stepped (`Stepping.antt`).
-- Assumes nothing.
use Rattle.std.proofs.Common.{◌≡◌, ℕ, length, min, ap, ◌∙◌, arith}
use Rattle.rules.specs.Regions.{equipped_with}
use Rattle.recording.specs.Recordings.{group_length}
use Rattle.recording.proofs.Stepping.{Going, beginning, reported, refused, ended}
use borrow.Author.Rules.{rules}
use Rattle.recording.proofs.step_all.Goals as goal

pub loop-sample-init : goal.loop-sample-init
loop-sample-init c =
    let a = c.args in
    rw c.into_iter-sample-iterator.ensures.into_iter_gives
    (c.chunks-sample-items.ensures.size, beginning (equipped_with a.table.now) a.settings.settings a.samples.now _ _ _ c.chunks-sample-items.ensures.rest c.fresh.ensures c.fresh_report.ensures)

pub overflow_add-ran : goal.overflow_add-ran
overflow_add-ran c = omega (arith, c.loop-sample.invariant.1.few, c.in-Some.ensures.steps)

pub loop-sample-preserved-in-Ok : goal.loop-sample-preserved-in-Ok
loop-sample-preserved-in-Ok c =
    let w = c.loop-sample in
    let a = c.args in
    let step = c.in-Some.ensures.steps in
    let long : length c.in-Some.sample.now ≡ min group_length (length w.sample-iterator.rest.now)
    = step.1.1 ∙ ap (λ (n : ℕ). min n (length w.sample-iterator.rest.now)) w.invariant.0 in (
      step.0 ∙ w.invariant.0,
      reported (equipped_with a.table.now) a.settings.settings a.samples.now _ w.ran.board w.ran.report w.ran.accepted w.invariant.1 _ _ step.1.0 long step.1.2
          c.step_accepted-next.result c.step_accepted-next.ensures _ c.in-Ok.is,
    )

pub loop-sample-preserved : goal.loop-sample-preserved
loop-sample-preserved c =
    let w = c.loop-sample in
    let a = c.args in
    let step = c.in-Some.ensures.steps in
    let long : length c.in-Some.sample.now ≡ min group_length (length w.sample-iterator.rest.now)
    = step.1.1 ∙ ap (λ (n : ℕ). min n (length w.sample-iterator.rest.now)) w.invariant.0 in (
      step.0 ∙ w.invariant.0,
      refused (equipped_with a.table.now) a.settings.settings a.samples.now _ w.ran.board w.ran.report w.ran.accepted w.invariant.1 _ _ step.1.0 long step.1.2
          c.step_accepted-next.result c.step_accepted-next.ensures _ c.in_default.is,
    )

pub returns : goal.returns
returns c =
    let w = c.loop-sample in
    let a = c.args in
    ended (equipped_with a.table.now) a.settings.settings a.samples.now _ w.ran.board w.ran.report w.ran.accepted w.invariant.1 c.in-None.ensures.steps.1.0
