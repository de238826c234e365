-- `wattsrules::calm_rule` meets its contract: the limits are tested in their order (`Binding.antt`).
-- Assumes nothing.
use mathlib.Core.Path.{◌≡◌, sym, ap, ◌∙◌}
use native.Mathlib.Omega.{arith}
use Rattle.wattsrules.proofs.Binding.{by-available, by-operator, by-share, past-share, left-past-share}
use Rattle.wattsrules.proofs.Widened.{widened-fits, widened}
use borrow.Author.Rules.{rules}
use Rattle.wattsrules.proofs.calm_rule.Goals as goal

pub returns : goal.returns
returns c =
    let a = c.args in
    λ e x q left.
    let w = c.from-watts.ensures in
    let not-share = rw (c.from.ensures, w) at c.if-from-watts.false in
    let not-available = rw w at c.if-r-watts.false in
    let not-operator = rw w at c.if-r-watts-2.false in
    let last = left-past-share e a.s.settings x a.r q a.report.share a.report.recovery a.report.watts a.report.vars not-available not-operator not-share left in
    rw (c.from-2.ensures, widened a.report.vars c.requires.2, w) at c.last_rule.ensures e x a.report.recovery q last
    ∙ past-share e a.s.settings x a.r q a.report.share a.report.recovery a.report.watts a.report.vars not-available not-operator not-share
