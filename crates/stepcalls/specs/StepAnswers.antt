-- Spec 5.6, 11.3, 11.4: what a step called over the C boundary answers and leaves in lent memory, from the rules' step: with an equipment, and
-- with ours.
-- Assumes nothing.
use Rattle.std.specs.Prelude.{◌≡◌, ℕ, Ok, Err}
use Rattle.rules.specs.Samples.{Slice, Equipment}
use Rattle.rules.specs.Regions.{our_equipment}
use Rattle.rules.specs.Refusals.{answer_number}
use Rattle.rules.specs.Records.{step_of}
use Rattle.rules.specs.declared.Board.{Board}
use Rattle.rules.specs.declared.Report.{Report}
use Rattle.rules.specs.Answers.{Answer}
use Rattle.rules.specs.declared.Settings.{Settings}

-- the record after a step; a refused one is as it was lent
unfoldable pub record_after_by : Equipment → Board → Settings → Slice → Board
record_after_by e b s x = (step_of e b s x).board

abbrev pub record_after : Board → Settings → Slice → Board
record_after b s x = record_after_by our_equipment b s x

-- spec 5.6: 0 where the step is not refused
unfoldable pub step_number_by : Equipment → Board → Settings → Slice → ℕ
step_number_by e b s x = answer_number (step_of e b s x).answer

abbrev pub step_number : Board → Settings → Slice → ℕ
step_number b s x = step_number_by our_equipment b s x

-- a report is stored; a refused call gives none and changes nothing (spec 11.4)
abbrev pub report_or : Report → Answer → Report
report_or before (Ok report) = report
report_or before (Err cause) = before

unfoldable pub report_after_by : Equipment → Report → Board → Settings → Slice → Report
report_after_by e before b s x = report_or before (step_of e b s x).answer

abbrev pub report_after : Report → Board → Settings → Slice → Report
report_after before b s x = report_after_by our_equipment before b s x

-- what `saltdelta_step` promises: of the record and of the report that are lent, `before` the report as it was, and of the number that it answers
abbrev pub StepLeaves : Board → Settings → Slice → Report → Board → Report → ℕ → Type 0
StepLeaves b s x before b' report number =
    (b' ≡ record_after b s x) × (report ≡ report_after before b s x) × (number ≡ step_number b s x)
