-- Demand 1 of saving and replay: each is refused with the first cause in the order of spec 11.2, and a refused call leaves what was lent to it as it was.
-- Assumes nothing.
use mathlib.Core.Path.{◌≡◌}
use mathlib.Core.List.{List, [], ◌∷◌, ◌++◌}
use Prim.Native.Nat.{ℕ, ◌<◌}
use lib.Dec.{ltb}
use lib.ListN as L
use Rattle.rules.specs.Samples.{Equipment}
use Rattle.rules.specs.Records.{fresh}
use Rattle.rules.specs.Regions.{our_equipment}
use Rattle.rules.specs.Images.{image_length}
use Rattle.rules.specs.declared.Report.{Report}
use Rattle.rules.specs.declared.Settings.{Settings}
use Rattle.causes.specs.FirstCause.{cause, first, settings_causes}
use Rattle.laws.proofs.FirstCause.{refuses-rightly}
use Rattle.replay.specs.Replays.{replay_number, replayed_by, replayed_into_by}
use Rattle.replay.proofs.Answering.{kept, given, number-first}
use Rattle.replay.proofs.Demanded.{no-samples, buffer-kept}
use Rattle.calls.specs.ReplayAnswers.{replay_answer_by, replay_report_by}
use Rattle.calls.specs.Refuses.{SaveRefuses, ReplayRefuses}

module _ (e : Equipment) (st : Settings) (samples buffer : List ℕ) where
  replay-cause : (replay_answer_by e st samples buffer).number ≡ first (settings_causes st ++ (cause 9 (ltb (L.length buffer) image_length) ∷ []))
  unfolding replay_answer_by replayed_by
  replay-cause = number-first st buffer

  none-accepted : 0 < (replay_answer_by e st samples buffer).number → (replay_answer_by e st samples buffer).accepted ≡ 0
  unfolding replay_answer_by replayed_by
  none-accepted h = no-samples e st samples buffer h

  last-report-kept : (before : Report) → 0 < (replay_answer_by e st samples buffer).number → replay_report_by e before st samples buffer ≡ before
  unfolding replay_answer_by replayed_by replay_report_by
  last-report-kept before h = kept (replay_number st buffer) _ before h

  last-report-stored : (before : Report) → (replay_answer_by e st samples buffer).number ≡ 0
      → replay_report_by e before st samples buffer ≡ (replayed_by e st samples buffer).report
  unfolding replay_answer_by replayed_by replay_report_by
  last-report-stored before zero = given (replay_number st buffer) _ before zero

  image-kept : 0 < (replay_answer_by e st samples buffer).number → replayed_into_by e st samples buffer ≡ buffer
  unfolding replay_answer_by replayed_by
  image-kept h = buffer-kept e st samples buffer h

pub save-refuses : SaveRefuses
save-refuses = record { number = (refuses-rightly our_equipment).save fresh; buffer-kept = (refuses-rightly our_equipment).save-keeps }

pub replay-refuses : (e : Equipment) → ReplayRefuses e
replay-refuses e =
    record {
      number = replay-cause e;
      none = none-accepted e;
      report-kept = last-report-kept e;
      report-stored = last-report-stored e;
      buffer-kept = image-kept e;
    }
