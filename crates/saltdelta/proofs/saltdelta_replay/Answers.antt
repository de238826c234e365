-- `saltdelta::saltdelta_replay` meets its contract: where the replay is refused its report is not stored, else it is.
-- Assumes nothing.
use native.Mathlib.Omega.{arith}
use Rattle.calls.proofs.Storing.{replay-stored, replay-kept}
use borrow.Author.Rules.{rules}
use Rattle.saltdelta.proofs.saltdelta_replay.Goals as goal

pub returns-then-done-eq0 : goal.returns-then-done-eq0
returns-then-done-eq0 c =
    let a = c.args in
    let done = c.replay-done in
    replay-stored a.settings.now a.samples.now a.buffer.now done.result done.ensures.value.0 done.new.buffer done.ensures.value.1 a.report.now
    (omega (arith, c.if-done-eq0.true))

pub returns-else-done-eq0 : goal.returns-else-done-eq0
returns-else-done-eq0 c =
    let a = c.args in
    let done = c.replay-done in
    replay-kept a.settings.now a.samples.now a.buffer.now done.result done.ensures.value.0 done.new.buffer done.ensures.value.1 a.report.now
    (omega (arith, c.if-done-eq0.false))
