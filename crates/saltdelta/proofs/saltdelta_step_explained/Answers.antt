-- `saltdelta::saltdelta_step_explained` meets its contract: where the call is refused nothing is stored, else its record, its report and the
-- rules are.
-- Assumes nothing.
use Rattle.stepcalls.proofs.Storing.{explained-stored, explained-kept}
use borrow.Author.Rules.{rules}
use Rattle.saltdelta.proofs.saltdelta_step_explained.Goals as goal

pub returns-in-Ok : goal.returns-in-Ok
returns-in-Ok c =
    let a = c.args in
    rw c.in_numbers.ensures
    (explained-stored a.board.now a.settings.now a.sample.now c.step-next.result c.step-next.ensures.value a.explained.now c.in-Ok.given c.in-Ok.is)

pub returns-in-Err : goal.returns-in-Err
returns-in-Err c =
    let a = c.args in
    rw c.from.ensures
    (explained-kept a.board.now a.settings.now a.sample.now c.step-next.result c.step-next.ensures.value a.explained.now c.in-Err.cause c.in-Err.is)
