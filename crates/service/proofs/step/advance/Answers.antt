-- `service::step::advance` meets its contract: its parts, put together, are what the rules make of the record (`Stepping.antt`).
-- Assumes nothing.
use mathlib.Core.Path.{◌≡◌, sym, ap, ◌∙◌}
use native.Mathlib.Omega.{arith}
use lib.ListN.{length}
use Rattle.laws.proofs.Shares.{read-top, ramp-top}
use Rattle.service.proofs.Ordinary.{continuous}
use Rattle.service.specs.Steps.{reported}
use Rattle.service.proofs.Stepping.{Found, Promised, region-found, bits-found, advance-is}
use borrow.Author.Rules.{rules}
use Rattle.service.proofs.step.advance.Goals as goal

pub region-area-requires : goal.region-area-requires
region-area-requires c =
    λ t. continuous c.args.r c.args.s.settings c.args.s.sheet (sym c.in_range-inside.ensures ∙ t)

pub returns : goal.returns
returns c =
    λ e x regions q.
    let a = c.args in
    let nine : length a.b.counters ≡ 9 = search rules in
    let found : Found
    = record {
      counters = c.count_all-c.result.n;
      bits = c.count_all-c.result.bits;
      was = c.in_service-was.result;
      on = c.in_service_after-on.result;
      area = c.region-area.result;
      continues = c.is_continuous.result;
      ramp = c.ramp_after-ramp.result;
      ceasing = c.ceases.result;
      recovery = c.recovery_after-recovery.result;
      side = c.side_after-side.result;
      held = c.held_after-held.result;
    } in
    let promised : Promised a.s.settings a.r a.b found
    = record {
      counts = c.count_all-c.ensures.n_value;
      marks = c.count_all-c.ensures.bits_value;
      before = c.in_service-was.ensures;
      after = c.in_service_after-on.ensures;
      place = c.region-area.ensures;
      steady = c.is_continuous.ensures;
      climb = c.ramp_after-ramp.ensures;
      cessation = c.ceases.ensures;
      recovers = c.recovery_after-recovery.ensures;
      sided = c.side_after-side.ensures.value;
      holds = c.held_after-held.ensures;
    } in
    let region-is = region-found e a.s.settings x a.r regions q a.b nine found promised in
    let bits = bits-found e a.s.settings x a.r regions q a.b nine found promised in
    c.settle.ensures e x q region-is bits
    ∙ ap (reported e a.s.settings) (advance-is e a.s.settings x a.r regions q a.b nine found promised)
