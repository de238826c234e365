-- `sensing::sense` meets its contract: our table is lent.
-- Assumes nothing.
use mathlib.Core.Path.{◌∙◌}
use Rattle.rules.specs.Regions.{our_equipment, equipped_with}
use Rattle.laws.proofs.Alike.{sensed-alike}
use Rattle.sensing.proofs.OurTable.{table-alike}
use borrow.Author.Rules.{rules}
use Rattle.sensing.proofs.sense.Goals as goal

pub returns : goal.returns
returns c =
    let t = c.table-t in
    let code = c.args.code in
    record { value = c.sense_by.ensures.value ∙ sensed-alike (equipped_with t.result) our_equipment (table-alike t.result t.ensures) code; result_value = c.sense_by.ensures.result_value }
