-- What is claimed of a replay, as of any function that answers and saves: demands 1, 2 and 3 (spec 13.1 to 13.3) in its own words.
-- Assumes nothing.
use Rattle.std.specs.Prelude.{◌≡◌, true, false, List, [], ◌∷◌, ◌++◌, ◌⊎◌, ◌↔◌, ℕ, ◌%◌, ◌≤◌, ◌<◌, ltb, length, take, drop}
use Rattle.rules.specs.Settings.{settings_accepted}
use Rattle.rules.specs.Samples.{Slice, Equipment, permitted, sample_accepted}
use Rattle.rules.specs.Regions.{region_of}
use Rattle.rules.specs.Service.{in_service}
use Rattle.rules.specs.Reports.{report_of}
use Rattle.rules.specs.History.{History, history_report}
use Rattle.rules.specs.Images.{image_length}
use Rattle.rules.specs.declared.Settings.{Settings}
use Rattle.rules.specs.declared.Region.TheVariants.{Continuous}
use Rattle.causes.specs.Calls.{accepted_samples}
use Rattle.claims.specs.Held.{RanOut, WaitFull}
use Rattle.causes.specs.FirstCause.{cause, first, settings_causes}
use Rattle.claims.specs.Printed.{joined}
use Rattle.claims.specs.TwoHistories.{AllAccepted, Agree}
use Rattle.recording.specs.Recordings.{group_length, calls_of}
use Rattle.replay.specs.declared.Replayed.{Replayed}

-- ---- a replay

-- the accepted samples of a recording, the newest first
abbrev pub history_of : Settings → List ℕ → History
history_of st samples = accepted_samples (calls_of st samples)

-- neither 2 and 3 nor 9 refuses
pub record Lends (st : Settings) (buffer : List ℕ) : Type 0 where
  pub accepted : settings_accepted st ≡ true
  pub room : image_length ≤ length buffer

-- a recording of whole samples
abbrev pub Whole : List ℕ → Type 0
Whole samples = length samples % group_length ≡ 0

-- and an accepted sample that is put behind it
pub record OneMore (samples : List ℕ) (x : Slice) : Type 0 where
  pub whole : Whole samples
  pub accepted : sample_accepted x ≡ true

-- with this equipment, of the settings, the samples and the buffer: what is answered, and the buffer afterwards
pub record ReplaysRightly (e : Equipment) (answer : Settings → List ℕ → List ℕ → Replayed) (into : Settings → List ℕ → List ℕ → List ℕ) : Type 0 where
  -- demand 1: it is refused by the first cause, the settings' before the buffer's; a refused one accepts no sample and leaves the buffer
  pub refuses : (st : Settings) (samples buffer : List ℕ)
      → (answer st samples buffer).number ≡ first (settings_causes st ++ (cause 9 (ltb (length buffer) image_length) ∷ []))
  pub none : (st : Settings) (samples buffer : List ℕ) → 0 < (answer st samples buffer).number → (answer st samples buffer).accepted ≡ 0
  pub keeps : (st : Settings) (samples buffer : List ℕ) → 0 < (answer st samples buffer).number → into st samples buffer ≡ buffer
  -- demand 2: the report is the one that the accepted samples alone give, and they are counted
  pub shows : (st : Settings) (samples buffer : List ℕ) → Lends st buffer
      → (answer st samples buffer).report ≡ report_of (history_report e st (history_of st samples))
  pub counts : (st : Settings) (samples buffer : List ℕ) → Lends st buffer → (answer st samples buffer).accepted ≡ length (history_of st samples)
  -- where the recording ends in service, it is tripped with one sample more exactly when that sample's step trips
  pub trips : (st : Settings) (samples : List ℕ) (x : Slice) (buffer : List ℕ) → Lends st buffer → OneMore samples x
      → in_service (answer st samples buffer).report.status ≡ true
      → ((answer st (samples ++ x) buffer).report.status ≡ 0) ↔ ((permitted x ≡ false) ⊎ RanOut e st (x ∷ history_of st samples))
  -- where it ends tripped, it is in service with one sample more exactly when the wait is then full, and in the continuous region
  pub returns : (st : Settings) (samples : List ℕ) (x : Slice) (buffer : List ℕ) → Lends st buffer → OneMore samples x
      → (answer st samples buffer).report.status ≡ 0
      → (in_service (answer st (samples ++ x) buffer).report.status ≡ true) ↔ WaitFull e st (x ∷ history_of st samples)
  pub returns-continuous : (st : Settings) (samples : List ℕ) (x : Slice) (buffer : List ℕ) → Lends st buffer → OneMore samples x
      → (answer st samples buffer).report.status ≡ 0
      → in_service (answer st (samples ++ x) buffer).report.status ≡ true → region_of e st x ≡ Continuous
  -- demand 3: two recordings under one sheet leave equal images exactly when no common run tells them apart
  pub images : (st : Settings) (ss ts a b : List ℕ) → Lends st a → Lends st b
      → (take image_length (into st ss a) ≡ take image_length (into st ts b)) ↔ Agree e st (history_of st ss) (history_of st ts)
  -- and, of whole samples, exactly when with every common run behind them they report alike
  pub told-apart : (st : Settings) (ss ts a b : List ℕ) → Lends st a → Lends st b → Whole ss → Whole ts
      → (take image_length (into st ss a) ≡ take image_length (into st ts b))
      ↔ ((run : List Slice) → length run ≤ 100000 → AllAccepted run → (answer st (ss ++ joined run) a).report ≡ (answer st (ts ++ joined run) b).report)
  -- spec 9.3: the bytes behind the image
  pub rest : (st : Settings) (samples buffer : List ℕ) → drop image_length (into st samples buffer) ≡ drop image_length buffer
