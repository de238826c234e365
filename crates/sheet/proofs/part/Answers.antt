-- `sheet::part` meets its contract: the part from where the reading says (`HandedBack.antt`).
-- Assumes nothing.
use Rattle.sheet.proofs.HandedBack.{handed-back}
use borrow.Author.Rules.{rules}
use Rattle.sheet.proofs.part.Goals as goal

pub returns : goal.returns
returns c =
    let r = c.read-outcome in
    handed-back c.args.s _ r.result.check r.result.start r.ensures.sheet_given.gives.check r.ensures.sheet_given.gives.start r.ensures.start_in_bounds
    c.part_from.ensures
