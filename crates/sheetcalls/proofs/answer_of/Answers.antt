-- `sheetcalls::answer_of` meets its contract: number, line and part are those of the rules' reading (`Answering.antt`).
-- Assumes nothing.
use Rattle.sheet.proofs.HandedBack.{handed-back}
use Rattle.sheetcalls.proofs.Answering.{accepted, turned-away}
use borrow.Author.Rules.{rules}
use Rattle.sheetcalls.proofs.answer_of.Goals as goal

pub returns-in-Ok : goal.returns-in-Ok
returns-in-Ok c =
    let a = c.args in
    let d = a.outcome in
    let g = c.requires.0 in
    let p = c.part_from-part in
    let part = handed-back a.bytes p.result d.check d.start g.check g.start c.requires.1 p.ensures in
    accepted _ d g _ part.bytes c.in-Ok.is

pub returns-in-Err : goal.returns-in-Err
returns-in-Err c =
    let a = c.args in
    let d = a.outcome in
    let g = c.requires.0 in
    let p = c.part_from-part in
    let part = handed-back a.bytes p.result d.check d.start g.check g.start c.requires.1 p.ensures in
    rw c.from-in-Err.ensures (turned-away _ d g _ part.bytes c.in-Err.why _ c.in-Err.is c.from.ensures)
