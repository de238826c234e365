-- `sheetlines::sheet_lines` meets its contract. The loop's invariant: nothing is written yet, and what is said from here on is what was
-- to be said (`Turns.antt`).
-- Assumes nothing.
use mathlib.Core.Path.{sym, ◌∙◌}
use native.Mathlib.Omega.{arith}
use Prim.Native.Nat.{◌-◌}
use lib.ListN.{length}
use Rattle.sheetlines.proofs.Turns.{Going, beginning, waits, fit_line, not-err, refused, goes_on, past}
use borrow.Author.Rules.{rules}
use Rattle.sheetlines.proofs.sheet_lines.Goals as goal

pub loop-state-preserved : goal.loop-state-preserved
loop-state-preserved c =
    let w = c.loop-state in
    let a = c.args in
    let s = a.s.now in
    let end = c.line_end-end in
    let r = c.sheet_line-r in
    goes_on a.q s w.state w.at end.result w.invariant c.loop-state-test.true end.ensures.value
    end.ensures.s_value (omega arith) r.result.state r.result.check r.ensures.line_value (not-err r.result.check (sym c.is_err.ensures.value ∙ c.if-is_err.false))

pub returns-then-is_err : goal.returns-then-is_err
returns-then-is_err c =
    let w = c.loop-state in
    let a = c.args in
    let s = a.s.now in
    let end = c.line_end-end in
    let r = c.sheet_line-r in
    refused a.q s w.state w.at end.result w.invariant c.loop-state-test.true end.ensures.value
    end.ensures.s_value (omega arith) r.result.state r.result.check r.ensures.line_value
    (r.ensures.stage_value (sym c.is_err.ensures.value ∙ c.if-is_err.true))
