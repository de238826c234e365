-- `wattsrules::watts_rule` meets its contract: the status where that gives no power, and otherwise by whether the frequency has a side.
-- Assumes nothing.
use mathlib.Core.Path.{◌≡◌, refl, sym, ◌∙◌}
use mathlib.Core.Bool.{true, false}
use native.Mathlib.Omega.{arith}
use borrow.Author.Tests.{not-true, not-false}
use Rattle.rules.specs.Samples.{frequency}
use Rattle.rules.specs.Droop.{no_side, side_of}
use Rattle.rules.specs.Service.{exports}
use Rattle.wattsrules.proofs.Binding.{side-on, calm-rule-is, event-rule-is}
use borrow.Author.Rules.{rules}
use Rattle.wattsrules.proofs.watts_rule.Goals as goal

pub returns-then-side_of-eq0 : goal.returns-then-side_of-eq0
returns-then-side_of-eq0 c =
    let given = c.gives_power in
    let a = c.args in
    λ e x q watts vars.
    let on : exports a.report.status ≡ true = sym given.ensures ∙ c.if-not-gives_power.false in
    let none = side-on e x a.r q ∙ sym c.side_of.ensures ∙ c.if-side_of-eq0.true in
    calm-rule-is e a.s x a.report on watts vars none c.calm_rule.result (c.calm_rule.ensures e x q)

pub returns : goal.returns
returns c =
    let given = c.gives_power in
    let a = c.args in
    λ e x q watts vars.
    let on : exports a.report.status ≡ true = sym given.ensures ∙ c.if-not-gives_power.false in
    let some : ¬ (side_of (frequency x) ≡ no_side) = λ none. c.if-side_of-eq0.false (c.side_of.ensures ∙ sym (side-on e x a.r q) ∙ none) in
    event-rule-is e a.s x a.report on watts vars some c.event_rule.result (c.event_rule.ensures e x q)
