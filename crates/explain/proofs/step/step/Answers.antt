-- `explain::step::step` meets its contract: our table is lent.
-- Assumes nothing.
use mathlib.Core.Path.{◌∙◌}
use Rattle.rules.specs.Regions.{our_equipment, equipped_with}
use Rattle.sensing.proofs.OurTable.{table-alike}
use Rattle.explain.proofs.Alike.{explained-alike}
use borrow.Author.Rules.{rules}
use Rattle.explain.proofs.step.step.Goals as goal

pub returns-clause-value : goal.returns-clause-value
returns-clause-value c =
    let t = c.table-t in
    let a = c.args in
    let is = c.step_by.ensures in
    is.value ∙ explained-alike (equipped_with t.result) our_equipment (table-alike t.result t.ensures) a.b a.s a.x.now
