-- Spec 8.5 to 8.8, 11.4: a report with the rules that held it as the calls of the C boundary give it: in numbers.
-- Assumes nothing.
use Rattle.std.specs.Prelude.{◌≡◌, ℕ, Ok, Err}
use Rattle.rules.specs.Samples.{Slice, Equipment}
use Rattle.rules.specs.Regions.{our_equipment}
use Rattle.rules.specs.declared.Board.{Board}
use Rattle.rules.specs.declared.Report.{Report}
use Rattle.rules.specs.declared.Settings.{Settings}
use Rattle.reasons.specs.Numbers.{status_rule_number, limit_place, watts_rule_number}
use Rattle.explain.specs.Explained.{explained_step}
use Rattle.reasons.specs.declared.StatusRule.{StatusRule}
use Rattle.reasons.specs.declared.WattsRule.{WattsRule}
use Rattle.explain.specs.Answers.{ExplainedAnswer}
use Rattle.causes.specs.Calls.{fresh_report}
use Rattle.stepcalls.specs.StepAnswers.{record_after, step_number}
use Rattle.stepcalls.specs.declared.Explained.{Explained}

-- a report and its rules, as numbers
abbrev pub in_numbers : Report → StatusRule → WattsRule → Explained
in_numbers report status watts =
    record { report = report; status = status_rule_number status; limit = limit_place status; watts = watts_rule_number watts }

-- those of an answer are stored; a refused call has none and changes nothing
abbrev pub explained_or : Explained → ExplainedAnswer → Explained
explained_or before (Ok given) = in_numbers given.report given.status given.watts
explained_or before (Err cause) = before

-- before any sample
abbrev pub explained_fresh : Explained
explained_fresh = in_numbers fresh_report StatusRule.WaitNotFull WattsRule.Status

-- after a step: with an equipment, and with ours
unfoldable pub explained_after_by : Equipment → Explained → Board → Settings → Slice → Explained
explained_after_by e before b s x = explained_or before (explained_step e b s x).answer

abbrev pub explained_after : Explained → Board → Settings → Slice → Explained
explained_after before b s x = explained_after_by our_equipment before b s x

-- what `saltdelta_step_explained` promises, as `StepLeaves` does of a step without rules
abbrev pub ExplainedLeaves : Board → Settings → Slice → Explained → Board → Explained → ℕ → Type 0
ExplainedLeaves b s x before b' explained number =
    (b' ≡ record_after b s x) × (explained ≡ explained_after before b s x) × (number ≡ step_number b s x)
