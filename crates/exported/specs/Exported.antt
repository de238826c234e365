-- The exported functions, in the words of their contracts, as a board program and as a replay: of these demands 2 and 3 are claimed, and of the first
-- how soon two ramp counts come apart.
-- Assumes nothing.
use Rattle.std.specs.Prelude.{cond, List, [], ◌∷◌, ℕ, eqb, Ok, Err}
use Rattle.rules.specs.Regions.{our_equipment}
use Rattle.rules.specs.Samples.{Slice, Equipment}
use Rattle.rules.specs.Refusals.{refusal_number}
use Rattle.rules.specs.Records.{fresh}
use Rattle.rules.specs.declared.Board.{Board}
use Rattle.rules.specs.declared.Report.{Report}
use Rattle.rules.specs.Answers.{Answer}
use Rattle.rules.specs.declared.Settings.{Settings}
use Rattle.rules.specs.declared.Stepped.{Stepped}
use Rattle.rules.specs.declared.Refusal.{Refusal}
use Rattle.rules.specs.declared.Refusal.TheVariants.{Form, Range, Rise, Code, Frequency, Permission, Power, Sample, Buffer}
use Rattle.causes.specs.Calls.{Program}
use Rattle.replay.specs.Replays.{unless_refused}
use Rattle.replay.specs.declared.Replayed.{Replayed}
use Rattle.stepcalls.specs.StepAnswers.{record_after_by, report_after_by, step_number_by}
use Rattle.calls.specs.ReplayAnswers.{replay_answer_by, replay_report_by}

-- spec 11.1: all causes
abbrev pub all_causes : List Refusal
all_causes = Form ∷ Range ∷ Rise ∷ Code ∷ Frequency ∷ Permission ∷ Power ∷ Sample ∷ Buffer ∷ []

-- of these causes the one with a number; a number that none has stands for none of them
abbrev pub cause_among : List Refusal → ℕ → Refusal
cause_among [] n = Form
cause_among (c ∷ cs) n = cond (eqb (refusal_number c) n) c (cause_among cs n)

abbrev pub cause_of : ℕ → Refusal
cause_of n = cause_among all_causes n

-- what a number and a report say: 0 the report, any other number its cause
abbrev pub answer_by : ℕ → Report → Answer
answer_by n report = unless_refused n (Ok report) (Err (cause_of n))

-- `saltdelta_step`, with `before` in the lent report: the record after it, and what number and report say
abbrev pub exported_step_by : Equipment → Report → Board → Settings → Slice → Stepped
exported_step_by e before b st x =
    record { board = record_after_by e b st x; answer = answer_by (step_number_by e b st x) (report_after_by e before b st x) }

-- a board that begins with `saltdelta_fresh` and is stepped by it: with an equipment, and with ours
abbrev pub exported_board_by : Equipment → Report → Program
exported_board_by e before = record { start = fresh; step = exported_step_by e before }

abbrev pub exported_board : Report → Program
exported_board before = exported_board_by our_equipment before

-- `saltdelta_replay`, with this equipment and `before` in the lent report
abbrev pub exported_replay_by : Equipment → Report → Settings → List ℕ → List ℕ → Replayed
exported_replay_by e before st samples buffer =
    record {
      number = (replay_answer_by e st samples buffer).number;
      accepted = (replay_answer_by e st samples buffer).accepted;
      report = replay_report_by e before st samples buffer;
    }
