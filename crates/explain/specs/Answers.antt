-- Spec 8.5, 11.1: what an explained step answers: its report with the two rules, or why there is none.
-- Assumes nothing.
use Rattle.std.specs.Prelude.{Result, Ok}
use Rattle.rules.specs.declared.Refusal.{Refusal}
use Rattle.rules.specs.declared.Report.{Report}
use Rattle.reasons.specs.declared.StatusRule.{StatusRule}
use Rattle.reasons.specs.declared.WattsRule.{WattsRule}
use Rattle.explain.specs.declared.ExplainedReport.{ExplainedReport}

abbrev pub ExplainedAnswer : Type 0
ExplainedAnswer = Result ExplainedReport Refusal

-- a report with the rule of its status and that of its watts
abbrev pub reported_with : Report → StatusRule → WattsRule → ExplainedAnswer
reported_with report status watts = Ok (record { report = report; status = status; watts = watts })
