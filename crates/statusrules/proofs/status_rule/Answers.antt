-- `statusrules::status_rule` meets its contract: each way out is a case of the rule.
-- Assumes nothing.
use mathlib.Core.Path.{◌≡◌, refl, ap, ◌∙◌}
use Prim.Native.Nat.{ℕ}
use borrow.Author.Tests.{not-true, not-false}
use Rattle.rules.specs.Samples.{Slice, Equipment}
use Rattle.rules.specs.Regions.{voltage_region, frequency_region, worse, region_of}
use Rattle.rules.specs.declared.Settings.{Settings}
use Rattle.readings.specs.declared.reading.Reading.{Reading}
use Rattle.readings.specs.Readings.{reading_of}
use Rattle.statusrules.specs.StatusRules.{first_worst, region_cause}
use Rattle.reasons.specs.declared.StatusRule.{StatusRule}
use borrow.Author.Rules.{rules}
use Rattle.statusrules.proofs.status_rule.Goals as goal

-- on a reading, by the Category III voltage regions
cause-read : (e : Equipment) (st : Settings) (x : Slice) (r : Reading) → e.region ≡ voltage_region → reading_of e x ≡ r
    → first_worst (worse (voltage_region r.low) (worse (voltage_region r.high) (frequency_region r.frequency))) (voltage_region r.low) (voltage_region r.high)
    ≡ region_cause e st x
unfolding region_cause region_of
cause-read e st x r regions q = rw (← q, regions) refl

pub returns-then-on : goal.returns-then-on
returns-then-on c =
    let a = c.args in
    λ e st x trips ready regions q eight e₁.
    rw (c.if-not-was.false, c.if-on.true)
    (c.region_cause.ensures ∙ rw (c.frequency_region.ensures, c.voltage_region-high.ensures, c.voltage_region-low.ensures) (cause-read e st x a.r regions q))

pub returns : goal.returns
returns c =
    let a = c.args in
    λ e st x trips ready regions q eight e₁.
    let permit = ap (λ (y : Reading). y.permit) q ∙ not-false a.r.permit c.if-not-r.false in
    rw (c.if-not-was-2.false, c.if-on.false, permit)
    (ap (λ (n : ℕ). StatusRule.TripLimit n) (c.first_place.ensures trips ready eight e₁))
