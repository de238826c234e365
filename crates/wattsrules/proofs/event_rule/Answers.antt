-- `wattsrules::event_rule` meets its contract: droop is tested before the others.
-- Assumes nothing.
use mathlib.Core.Path.{◌≡◌, sym, ap, ◌∙◌}
use Prim.Native.Nat.{◌<◌, min}
use native.Mathlib.Omega.{arith}
use Rattle.rules.specs.Droop.{drooped}
use Rattle.wattsrules.proofs.Binding.{by-droop, past-droop, left-past-droop}
use Rattle.wattsrules.proofs.Widened.{widened-fits, widened}
use borrow.Author.Rules.{rules}
use Rattle.wattsrules.proofs.event_rule.Goals as goal

pub returns : goal.returns
returns c =
    let a = c.args in
    λ e x q left.
    let more : a.report.watts < min (drooped a.r.frequency a.report.held) a.r.available
    = rw (c.within_droop.ensures, c.from-watts.ensures) at c.if-within_droop-watts.false in
    let last = left-past-droop e a.s.settings x a.r q a.report.held a.report.recovery a.report.watts a.report.vars more left in
    rw (c.from.ensures, widened a.report.vars c.requires.2, c.from-watts.ensures) at c.last_rule.ensures e x a.report.recovery q last
    ∙ past-droop e a.s.settings x a.r q a.report.held a.report.recovery a.report.watts a.report.vars more
