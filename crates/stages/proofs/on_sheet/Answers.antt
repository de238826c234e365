-- `stages::on_sheet` meets its contract.
-- Assumes nothing.
use Rattle.std.proofs.Common.{arith}
use Rattle.states.proofs.Buffers.{wrote_none}
use Rattle.stages.proofs.Parts.{sheet-carried}
use Rattle.stages.proofs.on_sheet.Goals as goal

pub returns-in-Ok : goal.returns-in-Ok
returns-in-Ok c =
    let s = c.args.s.now in
    let d = c.args.out.now in
    let r = c.sheet_lines-r in
    record { carried = λ e. sheet-carried e c.args.q s d d r.result 0 r.ensures c.requires.1 (rw c.in-Ok.is (wrote_none d 0 (omega arith))); s_value = r.ensures.stuck }

pub returns-in-Err : goal.returns-in-Err
returns-in-Err c =
    let s = c.args.s.now in
    let d = c.args.out.now in
    let r = c.sheet_lines-r in
    let number = c.refusal_number.ensures in
    let put = c.put_refused-written.ensures in
    record { carried = λ e. sheet-carried e c.args.q s d _ r.result _ r.ensures c.requires.1 (rw (c.in-Err.is, ← number, ← c.from.ensures) put); s_value = r.ensures.stuck }
