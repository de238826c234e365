-- What an exported replay stores, from what the replay by value says: its report where its number is 0, and nothing else.
-- Assumes nothing.
use mathlib.Core.Path.{◌≡◌, sym, ap, ◌∙◌, subst}
use mathlib.Core.List.{List}
use Prim.Native.Nat.{ℕ, ◌<◌}
use Rattle.rules.specs.declared.Report.{Report}
use Rattle.rules.specs.declared.Settings.{Settings}
use Rattle.replay.specs.Replays.{replay_number, replayed_by, replayed, replayed_into}
use Rattle.replay.specs.declared.Replayed.{Replayed}
use Rattle.replay.proofs.Answering.{kept, given}
use Rattle.calls.specs.ReplayAnswers.{replay_answer, replay_answer_by, replay_report_by, ReplayLeaves}
use Rattle.calls.specs.declared.ReplayAnswer.{ReplayAnswer}

module _ (st : Settings) (samples buffer : List ℕ) (r : Replayed) (e : r ≡ replayed st samples buffer) where
  numbered : r.number ≡ replay_number st buffer
  unfolding replayed_by
  numbered = ap (λ (k : Replayed). k.number) e

  answers : ◌≡◌ {A = ReplayAnswer} (record { number = r.number; accepted = r.accepted }) (replay_answer st samples buffer)
  unfolding replay_answer_by
  answers = ap answer-of e
    where
      answer-of : Replayed → ReplayAnswer
      answer-of k = record { number = k.number; accepted = k.accepted }

  module _ (bytes : List ℕ) (into : bytes ≡ replayed_into st samples buffer) (before : Report) where
    pub replay-stored : r.number ≡ 0 → ReplayLeaves st samples buffer before r.report bytes (record { number = r.number; accepted = r.accepted })
    unfolding replay_report_by
    replay-stored zero =
        (ap (λ (k : Replayed). k.report) e ∙ sym (given (replay_number st buffer) _ _ (sym numbered ∙ zero)), into, answers)

    pub replay-kept : 0 < r.number → ReplayLeaves st samples buffer before before bytes (record { number = r.number; accepted = r.accepted })
    unfolding replay_report_by
    replay-kept refused =
        (sym (kept (replay_number st buffer) _ before (subst (λ (n : ℕ). 0 < n) numbered refused)), into, answers)
