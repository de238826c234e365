-- `saltdelta::saltdelta_step` meets its contract: where the call is refused nothing is stored, else its record and its report are.
-- Assumes nothing.
use Rattle.stepcalls.proofs.Storing.{step-stored, step-kept}
use borrow.Author.Rules.{rules}
use Rattle.saltdelta.proofs.saltdelta_step.Goals as goal

pub returns-in-Ok : goal.returns-in-Ok
returns-in-Ok c =
    let a = c.args in
    step-stored a.board.now a.settings.now a.sample.now c.step-next.result c.step-next.ensures.value a.report.now c.in-Ok.given c.in-Ok.is

pub returns-in-Err : goal.returns-in-Err
returns-in-Err c =
    let a = c.args in
    rw c.from.ensures (step-kept a.board.now a.settings.now a.sample.now c.step-next.result c.step-next.ensures.value a.report.now c.in-Err.cause c.in-Err.is)
