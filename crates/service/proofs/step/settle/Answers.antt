-- `service::step::settle` meets its contract: each field that it works out is the one that the rules leave.
-- Assumes nothing.
use mathlib.Core.Path.{sym, ap, ◌∙◌}
use native.Mathlib.Omega.{arith}
use Rattle.laws.proofs.Accepted.{sheet-rows}
use Rattle.laws.proofs.Curves.{fits16}
use Rattle.rules.specs.Settings.{rows}
use Rattle.rules.specs.Droop.{side_after}
use Rattle.rules.specs.Reports.{report_of}
use Rattle.rules.specs.Records.{settled, shown}
use Rattle.readings.specs.declared.reading.Reading.{Reading}
use Rattle.output.proofs.OnReading.{kept32, kept16}
use borrow.Author.Rules.{rules}
use Rattle.service.proofs.step.settle.Goals as goal

pub share-part-requires : goal.share-part-requires
unfolding rows
share-part-requires c =
    let k = sheet-rows c.args.s.settings c.args.s.sheet in (omega arith, omega arith, omega arith)

-- one equation for each field that is worked out here
pub returns : goal.returns
unfolding settled shown report_of
returns c =
    λ e x q region bits.
    let p = c.powers_in-p in
    let share = c.share-part in
    let status = c.status_of-status in
    let vars = kept16 p.result.vars p.ensures.watts_bound.1 in
    let side = c.requires.2 ∙ ap (λ (r : Reading). side_after c.args.on r.frequency) (sym q) in
    rw (vars, p.ensures.watts_value e x q, p.ensures.vars_value e x q, share.ensures.value, status.ensures, side, region, bits)
