-- Spec 5.6, 11.2: a replay. Recorded samples are lent as one slice, seven numbers each, and stepped one after another on a fresh record, all
-- under the same settings; then the image is saved.
-- Assumes nothing.
use Rattle.std.specs.Prelude.{cond, List, ℕ, zero, suc, length}
use Rattle.rules.specs.Settings.{settings_check, settings_accepted}
use Rattle.rules.specs.Samples.{Equipment}
use Rattle.rules.specs.Regions.{our_equipment}
use Rattle.rules.specs.Refusals.{refusal_number, settings_number, saved_number}
use Rattle.rules.specs.Images.{save_check, saved_into}
use Rattle.rules.specs.declared.Settings.{Settings}
use Rattle.rules.specs.declared.Refusal.{Refusal}
use Rattle.causes.specs.Calls.{fresh_report, accepted_samples}
use Rattle.recording.specs.Recordings.{calls_of, run_over}
use Rattle.replay.specs.declared.Replayed.{Replayed}

-- ---- the answer

-- spec 11.2: 2 and 3 of the settings, then 9; 0 where there is no cause
unfoldable pub replay_number : Settings → List ℕ → ℕ
replay_number st buffer = cond (settings_accepted st) (saved_number (save_check buffer)) (settings_number (settings_check st))

-- what there is where the number is 0, and what stands where it is a refusal's
abbrev pub unless_refused {ℓ} : {A : Type ℓ} → ℕ → A → A → A
unless_refused zero given kept = given
unless_refused (suc n) given kept = kept

-- by value a refused replay has the fresh board's report beside its number (spec 5.6)
abbrev pub replay_refused : Refusal → Replayed
replay_refused cause = record { number = refusal_number cause; accepted = 0; report = fresh_report }

unfoldable pub replayed_by : Equipment → Settings → List ℕ → List ℕ → Replayed
replayed_by e st samples buffer =
    record {
      number = replay_number st buffer;
      accepted = unless_refused (replay_number st buffer) (length (accepted_samples (calls_of st samples))) 0;
      report = unless_refused (replay_number st buffer) (run_over e st samples).report fresh_report;
    }

-- spec 9.3, 11.4: the buffer after it
unfoldable pub replayed_into_by : Equipment → Settings → List ℕ → List ℕ → List ℕ
replayed_into_by e st samples buffer = unless_refused (replay_number st buffer) (saved_into (run_over e st samples).board buffer) buffer

-- with our equipment
abbrev pub replayed : Settings → List ℕ → List ℕ → Replayed
replayed = replayed_by our_equipment

abbrev pub replayed_into : Settings → List ℕ → List ℕ → List ℕ
replayed_into = replayed_into_by our_equipment
