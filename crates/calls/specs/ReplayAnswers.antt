-- Spec 5.6, 11.3, 11.4: what a replay called over the C boundary answers and leaves in lent memory, from the rules' replay: with an equipment,
-- and with ours.
-- Assumes nothing.
use Rattle.std.specs.Prelude.{◌≡◌, List, ℕ}
use Rattle.rules.specs.Samples.{Equipment}
use Rattle.rules.specs.Regions.{our_equipment}
use Rattle.rules.specs.declared.Report.{Report}
use Rattle.rules.specs.declared.Settings.{Settings}
use Rattle.replay.specs.Replays.{replay_number, unless_refused, replayed_by, replayed_into}
use Rattle.calls.specs.declared.ReplayAnswer.{ReplayAnswer}

unfoldable pub replay_answer_by : Equipment → Settings → List ℕ → List ℕ → ReplayAnswer
replay_answer_by e st samples buffer =
    record { number = (replayed_by e st samples buffer).number; accepted = (replayed_by e st samples buffer).accepted }

abbrev pub replay_answer : Settings → List ℕ → List ℕ → ReplayAnswer
replay_answer st samples buffer = replay_answer_by our_equipment st samples buffer

-- the last report is stored, unless the replay is refused (spec 11.4)
unfoldable pub replay_report_by : Equipment → Report → Settings → List ℕ → List ℕ → Report
replay_report_by e before st samples buffer = unless_refused (replay_number st buffer) (replayed_by e st samples buffer).report before

abbrev pub replay_report : Report → Settings → List ℕ → List ℕ → Report
replay_report before st samples buffer = replay_report_by our_equipment before st samples buffer

-- what `saltdelta_replay` promises: of the report and of the buffer that are lent, `before` and `buffer` as they were, and of its answer
abbrev pub ReplayLeaves : Settings → List ℕ → List ℕ → Report → Report → List ℕ → ReplayAnswer → Type 0
ReplayLeaves st samples buffer before report bytes answer =
    (report ≡ replay_report before st samples buffer) × (bytes ≡ replayed_into st samples buffer) × (answer ≡ replay_answer st samples buffer)
