-- `replay::replay` meets its contract: our table is lent.
-- Assumes nothing.
use mathlib.Core.Path.{◌∙◌}
use Rattle.rules.specs.Regions.{our_equipment, equipped_with}
use Rattle.sensing.proofs.OurTable.{table-alike}
use Rattle.replay.proofs.Answering.{replayed-alike, into-alike}
use borrow.Author.Rules.{rules}
use Rattle.replay.proofs.replay.Goals as goal

pub returns-clause-value : goal.returns-clause-value
returns-clause-value c =
    let t = c.table-t in
    let a = c.args in
    let is = c.replay_by.ensures in
    let same = table-alike t.result t.ensures in
    let e = equipped_with t.result in (
      is.value.0 ∙ replayed-alike e our_equipment same a.settings a.samples.now a.buffer.now,
      is.value.1 ∙ into-alike e our_equipment same a.settings a.samples.now a.buffer.now,
    )
