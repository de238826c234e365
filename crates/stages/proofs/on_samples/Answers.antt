-- `stages::on_samples` meets its contract.
-- Assumes nothing.
use Rattle.rules.specs.Regions.{our_equipment, equipped_with}
use Rattle.sensing.proofs.OurTable.{table-alike}
use Rattle.stages.proofs.Equipments.{carried-alike}
use Rattle.stages.proofs.Parts.{not-samples}
use Rattle.stages.proofs.on_samples.Goals as goal

pub returns-then-state-ne1 : goal.returns-then-state-ne1
returns-then-state-ne1 c =
    let both =
    not-samples our_equipment c.args.s.now c.args.out.now c.args.h c.requires.0 c.requires.1 c.requires.2 c.requires.3 c.if-state-ne1.true
    in record { carried = both.0; stuck = both.1 }

pub returns : goal.returns
returns c =
    let a = c.args in
    let t = c.table-t in
    let r = c.sample_lines in
    let same = table-alike t.result t.ensures in
    record { carried = carried-alike (equipped_with t.result) our_equipment same a.s.now a.out.now a.h _ r.result r.ensures.carried; stuck = r.ensures.stuck }
