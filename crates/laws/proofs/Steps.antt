-- What a call of the step is: a sample taken by the rules where it is accepted, and nothing where it is refused.
-- Assumes nothing.
use Rattle.std.specs.Prelude.{Ok, Err}
use mathlib.Core.Path.{◌≡◌, refl}
use mathlib.Core.Bool.{true, false, ◌&&◌, false≢true, true≢false}
use Rattle.rules.specs.Settings.{settings_check, settings_passed, settings_accepted}
use Rattle.rules.specs.Samples.{Slice, Equipment, sample_check, sample_accepted}
use Rattle.rules.specs.Samples as samples
use Rattle.rules.specs.Reports.{report_of}
use Rattle.rules.specs.Records.{next, shown, turned_away, on_sample, on_settings, step_of}
use Rattle.rules.specs.declared.Settings.{Settings}
use Rattle.rules.specs.declared.Board.{Board}
use Rattle.rules.specs.declared.Refusal.{Refusal}
use Rattle.rules.specs.Answers.{SettingsCheck, SampleCheck}
use Rattle.rules.specs.declared.Stepped.{Stepped}

-- a sample taken by the rules, under these settings
abbrev pub taken : Equipment → Settings → Slice → Board → Stepped
taken e s x b = record { board = next e s x b; answer = Ok (report_of (shown e s (next e s x b))) }

module _ (e : Equipment) (b : Board) (s : Settings) (x : Slice) where
  -- an accepted call is a step
  pub accepted-step : settings_accepted s ≡ true → sample_accepted x ≡ true → step_of e b s x ≡ taken e s x b
  unfolding step_of
  accepted-step p q = on-settings (settings_check s) p
    where
      on-sample : (m : SampleCheck) → samples.sample_passed m ≡ true → on_sample e s x b m ≡ taken e s x b
      on-sample (Ok ok) r = refl
      on-sample (Err cause) r = absurd (false≢true r)

      on-settings : (k : SettingsCheck) → settings_passed k ≡ true → on_settings e s x b k ≡ taken e s x b
      on-settings (Ok ok) r = on-sample (sample_check x) q
      on-settings (Err away) r = absurd (false≢true r)

  -- a refused one changes nothing and gives no report
  pub refused-step : (settings_accepted s && sample_accepted x) ≡ false → (cause : Refusal) × (step_of e b s x ≡ turned_away b cause)
  unfolding step_of
  refused-step p = on-settings (settings_check s) p
    where
      on-sample : (m : SampleCheck) → samples.sample_passed m ≡ false → (cause : Refusal) × (on_sample e s x b m ≡ turned_away b cause)
      on-sample (Ok ok) r = absurd (true≢false r)
      on-sample (Err cause) r = (cause, refl)

      on-settings : (k : SettingsCheck) → (settings_passed k && sample_accepted x) ≡ false → (cause : Refusal) × (on_settings e s x b k ≡ turned_away b cause)
      on-settings (Ok ok) r = on-sample (sample_check x) r
      on-settings (Err away) r = (away.cause, refl)
