-- `explain::step::explained` meets its contract: what is worked out beside the report is what the records before and after give (`Stepped.antt`).
-- Assumes nothing.
use mathlib.Core.Path.{◌≡◌, refl, sym}
use lib.ListN.{length}
use Rattle.rules.specs.Regions.{equipped_with}
use Rattle.laws.proofs.Accepted.{sample-right}
use Rattle.laws.proofs.Events.{watts-available}
use Rattle.explain.proofs.Stepped as of
use borrow.Author.Rules.{rules}
use Rattle.explain.proofs.step.explained.Goals as goal

pub read-r-requires : goal.read-r-requires
read-r-requires c =
    let a = c.args in
    let e = equipped_with a.table.now in
    (c.requires, of.accepted e a.s.settings a.x.now a.b c.step_accepted-next.result c.step_accepted-next.ensures _ c.in-Ok.is)

pub watts_rule-watts-requires : goal.watts_rule-watts-requires
watts_rule-watts-requires c =
    let a = c.args in
    let e = equipped_with a.table.now in
    let told = c.in-Ok.is in
    let read = c.read-r.ensures in
    let right = sample-right a.x.now (of.accepted e a.s.settings a.x.now a.b c.step_accepted-next.result c.step_accepted-next.ensures _ told) in
    let watts = of.watts-are e a.s.settings a.x.now a.b c.step_accepted-next.result c.step_accepted-next.ensures _ told a.s.sheet in
    let vars = of.vars-are e a.s.settings a.x.now a.b c.step_accepted-next.result c.step_accepted-next.ensures _ told a.s.sheet in
    rw read (
      record { frequency-top = right.frequency-high; available-top = right.available-top; limit-top = right.limit-top },
      a.s.sheet,
      rw watts (watts-available e a.s.settings a.x.now _ _ _ _),
      rw vars (of.vars-small e a.s.settings a.x.now _ a.s.sheet),
    )

pub returns-in-Err : goal.returns-in-Err
returns-in-Err c =
    let a = c.args in
    of.explained-is (equipped_with a.table.now) a.s.settings a.x.now a.b c.step_accepted-next.result c.step_accepted-next.ensures _ c.in-Err.is

pub returns-in-Ok : goal.returns-in-Ok
returns-in-Ok c =
    let a = c.args in
    let e = equipped_with a.table.now in
    let told = c.in-Ok.is in
    let nine : length a.b.counters ≡ 9 = search rules in
    let same = sym c.read-r.ensures in
    let s-rule = of.status-rule-is e a.s.settings a.x.now a.b c.step_accepted-next.result c.step_accepted-next.ensures _ told a.s.sheet nine
    c.in_service-was.result c.in_service-on.result c.status_rule-status.result c.in_service-was.ensures c.in_service-on.ensures
    (c.status_rule-status.ensures e a.s.settings a.x.now _ _ refl same
    (of.eight-trips e a.s.settings a.x.now a.b c.step_accepted-next.result c.step_accepted-next.ensures _ told a.s.sheet nine)
    (of.bits_are e a.s.settings a.x.now a.b c.step_accepted-next.result c.step_accepted-next.ensures _ told a.s.sheet nine)) in
    let w-rule = of.watts-rule-is e a.s.settings a.x.now a.b c.step_accepted-next.result c.step_accepted-next.ensures _ told a.s.sheet
    c.watts_rule-watts.result
    (c.watts_rule-watts.ensures e a.x.now same
    (of.watts-are e a.s.settings a.x.now a.b c.step_accepted-next.result c.step_accepted-next.ensures _ told a.s.sheet)
    (of.vars-are e a.s.settings a.x.now a.b c.step_accepted-next.result c.step_accepted-next.ensures _ told a.s.sheet)) in
    rw (s-rule, w-rule) (of.explained-is e a.s.settings a.x.now a.b c.step_accepted-next.result c.step_accepted-next.ensures _ told)
