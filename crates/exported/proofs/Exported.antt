-- The exported functions, taken as a board program and as a replay, are ours.
-- Assumes nothing.
use Rattle.std.specs.Prelude.{Ok, Err}
use mathlib.Core.Path.{◌≡◌, refl, ap, fun_ext}
use mathlib.Core.List.{List}
use Prim.Native.Nat.{ℕ}
use Rattle.rules.specs.Samples.{Slice, Equipment}
use Rattle.rules.specs.Regions.{our_equipment}
use Rattle.rules.specs.Refusals.{answer_number}
use Rattle.rules.specs.Records.{fresh, step_of}
use Rattle.rules.specs.declared.Board.{Board}
use Rattle.rules.specs.declared.Report.{Report}
use Rattle.rules.specs.Answers.{Answer}
use Rattle.rules.specs.declared.Settings.{Settings}
use Rattle.rules.specs.declared.Stepped.{Stepped}
use Rattle.rules.specs.declared.Refusal.TheVariants.{Form, Range, Rise, Code, Frequency, Permission, Power, Sample, Buffer}
use Rattle.causes.specs.Calls.{ruled_by}
use Rattle.claims.specs.Sound.{Sound}
use Rattle.replay.specs.Replays.{replay_number, replayed_by, replayed_into_by}
use Rattle.replay.specs.Demanded.{Lends, ReplaysRightly}
use Rattle.replay.proofs.Answering.{given, number-0}
use Rattle.replay.proofs.Demanded.{replays-rightly, as-rightly}
use Rattle.stepcalls.specs.StepAnswers.{report_or, record_after_by, report_after_by, step_number_by}
use Rattle.calls.specs.ReplayAnswers.{replay_answer_by, replay_report_by}
use Rattle.exported.specs.Exported.{answer_by, exported_step_by, exported_board_by, exported_replay_by}

-- ---- the board

named_again : (before : Report) (a : Answer) → answer_by (answer_number a) (report_or before a) ≡ a
named_again before (Ok r) = refl
named_again before (Err Form) = refl
named_again before (Err Range) = refl
named_again before (Err Rise) = refl
named_again before (Err Code) = refl
named_again before (Err Frequency) = refl
named_again before (Err Permission) = refl
named_again before (Err Power) = refl
named_again before (Err Sample) = refl
named_again before (Err Buffer) = refl

step_is : (e : Equipment) (before : Report) (b : Board) (st : Settings) (x : Slice) → exported_step_by e before b st x ≡ step_of e b st x
unfolding record_after_by report_after_by step_number_by
step_is e before b st x =
    ap (λ (a : Answer). record { board = (step_of e b st x).board; answer = a }) (named_again before (step_of e b st x).answer)

pub board-is : (e : Equipment) (before : Report) → exported_board_by e before ≡ ruled_by e
board-is e before =
    ap (λ (step : Board → Settings → Slice → Stepped). record { start = fresh; step = step })
    (fun_ext (λ b. fun_ext (λ st. fun_ext (λ x. step_is e before b st x))))

-- ---- the replay

module _ (e : Equipment) where
  stored : (before : Report) (st : Settings) (samples buffer : List ℕ) → Lends st buffer
      → replay_report_by e before st samples buffer ≡ (replayed_by e st samples buffer).report
  unfolding replay_report_by
  stored before st samples buffer l = given (replay_number st buffer) _ _ (number-0 st samples buffer l.accepted l.room)

  pub exported-replay : Sound e → (before : Report) → ReplaysRightly e (exported_replay_by e before) (replayed_into_by e)
  unfolding replay_answer_by
  exported-replay sound before =
      as-rightly e (replayed_by e) (exported_replay_by e before) (replayed_into_by e) (λ st samples buffer. refl) (λ st samples buffer. refl) (stored before)
      (replays-rightly e sound)
