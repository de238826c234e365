-- `saltdelta::saltdelta_read_sheet` meets its contract: where the sheet is refused nothing is stored, else its settings are.
-- Assumes nothing.
use mathlib.Core.Path.{sym, ◌∙◌}
use Rattle.sheetcalls.proofs.Storing.{sheet-stored, sheet-kept}
use borrow.Author.Rules.{rules}
use Rattle.saltdelta.proofs.saltdelta_read_sheet.Goals as goal
use Rattle.saltdelta.proofs.saltdelta_read_sheet.Goals.{then-is_ok, else-is_ok}

pub returns : goal.returns
returns c =
    let d = c.read-outcome in
    let s = c.args.bytes.now in
    let before = c.args.settings.now in
    let g = d.ensures.sheet_given.gives in
    elim c.if-is_ok.branch [
      | then-is_ok w ↦ (w.settings-is ∙ sheet-stored s d.result g before (sym c.is_ok.ensures.value ∙ w.if-is_ok.true), c.answer_of.ensures)
      | else-is_ok w ↦ (w.settings-is ∙ sheet-kept s d.result g before (sym c.is_ok.ensures.value ∙ w.if-is_ok.false), c.answer_of.ensures)
    ]
