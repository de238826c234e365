-- Demand 1 (spec 11, 13.1) of saving and replay, in the words of their contracts: each is refused by the number of its first cause in the order of
-- spec 11.2, and a refused call leaves what was lent as it was (spec 11.4).
-- Assumes nothing.
use Rattle.std.specs.Prelude.{◌≡◌, List, [], ◌∷◌, ◌++◌, ℕ, ◌<◌, ltb}
use Rattle.std.proofs.Math.ListN as L
use Rattle.rules.specs.Samples.{Equipment}
use Rattle.rules.specs.Refusals.{saved_number}
use Rattle.rules.specs.Images.{image_length, save_check, saved_into}
use Rattle.rules.specs.declared.Board.{Board}
use Rattle.rules.specs.declared.Report.{Report}
use Rattle.rules.specs.declared.Settings.{Settings}
use Rattle.causes.specs.FirstCause.{cause, first, settings_causes}
use Rattle.replay.specs.Replays.{replayed_by, replayed_into_by}
use Rattle.calls.specs.ReplayAnswers.{replay_answer_by, replay_report_by}

-- `saltdelta_save`: the buffer by 9
pub record SaveRefuses : Type 0 where
  pub number : (buffer : List ℕ) → saved_number (save_check buffer) ≡ first (cause 9 (ltb (L.length buffer) image_length) ∷ [])
  pub buffer-kept : (b : Board) (buffer : List ℕ) → 0 < saved_number (save_check buffer) → saved_into b buffer ≡ buffer

-- `saltdelta_replay`: settings by 2 and 3, then the buffer by 9
pub record ReplayRefuses (e : Equipment) : Type 0 where
  pub number : (st : Settings) (samples buffer : List ℕ)
      → (replay_answer_by e st samples buffer).number ≡ first (settings_causes st ++ (cause 9 (ltb (L.length buffer) image_length) ∷ []))
  pub none : (st : Settings) (samples buffer : List ℕ) → 0 < (replay_answer_by e st samples buffer).number → (replay_answer_by e st samples buffer).accepted ≡ 0
  pub report-kept : (st : Settings) (samples buffer : List ℕ) (before : Report) → 0 < (replay_answer_by e st samples buffer).number
      → replay_report_by e before st samples buffer ≡ before
  pub report-stored : (st : Settings) (samples buffer : List ℕ) (before : Report) → (replay_answer_by e st samples buffer).number ≡ 0
      → replay_report_by e before st samples buffer ≡ (replayed_by e st samples buffer).report
  pub buffer-kept : (st : Settings) (samples buffer : List ℕ) → 0 < (replay_answer_by e st samples buffer).number → replayed_into_by e st samples buffer ≡ buffer
