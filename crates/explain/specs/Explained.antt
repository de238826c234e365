-- Spec 8.5 to 8.8: which rule held the status of a report, and which held its watts: what a history gives, and what a step gives.
-- Assumes nothing.
use Rattle.std.specs.Prelude.{List, [], ◌∷◌, map, Ok, Err}
use Rattle.rules.specs.Samples.{Slice, Equipment, permitted}
use Rattle.rules.specs.Counters.{full, trip_rules}
use Rattle.rules.specs.Service.{Limited, leaves, power_limits, in_service, share_of}
use Rattle.rules.specs.Records.{each, step_of}
use Rattle.rules.specs.History.{History, complete, serving, history_status, history_share, history_recovery, history_held, history_vars}
use Rattle.rules.specs.declared.Settings.{Settings}
use Rattle.rules.specs.declared.Board.{Board}
use Rattle.rules.specs.Answers.{Answer}
use Rattle.causes.specs.Calls.{fresh_report}
use Rattle.statusrules.specs.StatusRules.{region_cause, status_rule}
use Rattle.wattsrules.specs.WattsRules.{watts_rule}
use Rattle.reasons.specs.declared.StatusRule.{StatusRule}
use Rattle.reasons.specs.declared.WattsRule.{WattsRule}
use Rattle.explain.specs.Answers.{ExplainedAnswer, reported_with}
use Rattle.explain.specs.declared.ExplainedStep.{ExplainedStep}

-- ---- what a history gives: it looks at no record and at no step

unfoldable pub history_status_rule : Equipment → Settings → History → StatusRule
history_status_rule e st [] = StatusRule.WaitNotFull
history_status_rule e st (x ∷ h) =
    status_rule (serving e st h) (serving e st (x ∷ h)) (permitted x) (map (complete (x ∷ h)) (trip_rules e st)) (region_cause e st x)

-- the limits at the newest sample
abbrev pub history_limits : Equipment → Settings → Slice → History → List Limited
history_limits e st x h =
    power_limits e st x (history_share e st (x ∷ h)) (history_recovery e st (x ∷ h)) (history_held e st (x ∷ h)) (history_vars e st (x ∷ h))

unfoldable pub history_watts_rule : Equipment → Settings → History → WattsRule
history_watts_rule e st [] = WattsRule.Status
history_watts_rule e st (x ∷ h) = watts_rule (history_status e st (x ∷ h)) (history_limits e st x h)

-- ---- what a step gives

-- from the record as it was lent and as the step leaves it
unfoldable pub record_status_rule : Equipment → Settings → Slice → Board → Board → StatusRule
record_status_rule e st x before after =
    status_rule (in_service before.status) (in_service after.status) (permitted x) (each full (trip_rules e st) after.counters) (region_cause e st x)

unfoldable pub record_watts_rule : Equipment → Settings → Slice → Board → WattsRule
record_watts_rule e st x after =
    watts_rule after.status (power_limits e st x (share_of st after.ramp) after.recovery after.held after.vars)

-- spec 8.5: the rules stand beside a report, and a refused call has none
abbrev pub with_rules : StatusRule → WattsRule → Answer → ExplainedAnswer
with_rules status watts (Ok report) = reported_with report status watts
with_rules status watts (Err cause) = Err cause

-- the step of spec 4.3, with the rules beside its report
unfoldable pub explained_step : Equipment → Board → Settings → Slice → ExplainedStep
explained_step e b st x =
    let t = step_of e b st x in
    record {
      board = t.board;
      answer = with_rules (record_status_rule e st x b t.board) (record_watts_rule e st x t.board) t.answer;
    }

-- a fresh board: tripped before any sample
abbrev pub fresh_answer : ExplainedAnswer
fresh_answer = reported_with fresh_report StatusRule.WaitNotFull WattsRule.Status
