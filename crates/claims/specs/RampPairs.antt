-- Spec 13.13: how soon two histories come apart whose images differ in the ramp count alone, as claims about any program that could be called a
-- board. The saving and the report are parameters, as in demand 3 (TwoHistories.antt).
-- Assumes nothing.
use Rattle.std.specs.Prelude.{◌≡◌, true, List, ℕ, ◌≤◌, length, take, drop}
use Rattle.rules.specs.Settings.{settings_accepted}
use Rattle.rules.specs.Samples.{Slice, Equipment}
use Rattle.rules.specs.History.{History, followed_by, history_report}
use Rattle.rules.specs.Images.{image_length, saved_into}
use Rattle.rules.specs.declared.Settings.{Settings}
use Rattle.rules.specs.declared.Board.{Board}
use Rattle.causes.specs.Calls.{Call, Program, accepted_samples, Under}
use Rattle.claims.specs.TwoHistories.{AllAccepted, AgreeWithin, image_after}

-- spec 9.1: the ramp count's four bytes in an image stand behind the status and nine counters
abbrev pub ramp_begins : ℕ
ramp_begins = 37

abbrev pub ramp_ends : ℕ
ramp_ends = 41

-- spec 13.13: two images that differ, and in no byte outside the ramp count's four
pub record RampAlone (a b : List ℕ) : Type 0 where
  pub before : take ramp_begins a ≡ take ramp_begins b
  pub behind : drop ramp_ends a ≡ drop ramp_ends b
  pub ramp : ¬ (drop ramp_begins (take ramp_ends a) ≡ drop ramp_begins (take ramp_ends b))

-- spec 12.5: there is a common run of at most so many accepted samples after which the reports differ
pub record ComeApart {R : Type 0} (most : ℕ) (report : History → R) (h g : History) : Type 0 where
  pub run : List Slice
  pub short : length run ≤ most
  pub accepted : AllAccepted run
  pub differ : ¬ (report (followed_by h run) ≡ report (followed_by g run))

-- spec 13.13: under every accepted sheet, every two lists of calls whose images, each saved into a buffer that 9 lets pass, differ in the ramp count alone
-- come apart within so many samples
abbrev pub RampsToldBy : {R : Type 0} → (Board → List ℕ → List ℕ) → (Settings → History → R) → Program → ℕ → Type 0
RampsToldBy saved report p most =
    (st : Settings) → settings_accepted st ≡ true
    → (ps qs : List Call) → Under st ps → Under st qs
    → (a b : List ℕ) → image_length ≤ length a → image_length ≤ length b
    → RampAlone (image_after saved p ps a) (image_after saved p qs b)
    → ComeApart most (report st) (accepted_samples ps) (accepted_samples qs)

-- spec 13.13: there are an accepted sheet and two such lists of which no common run of at most so many accepted samples, whatever they hold, makes the
-- reports differ
pub record RampsUntoldBy {R : Type 0} (saved : Board → List ℕ → List ℕ) (report : Settings → History → R) (p : Program) (most : ℕ) : Type 0 where
  pub sheet : Settings
  pub accepted : settings_accepted sheet ≡ true
  pub one : List Call
  pub other : List Call
  pub under : Under sheet one × Under sheet other
  pub alone : (a b : List ℕ) → image_length ≤ length a → image_length ≤ length b → RampAlone (image_after saved p one a) (image_after saved p other b)
  pub agree : AgreeWithin most (report sheet) (accepted_samples one) (accepted_samples other)

-- both, by the saving of spec 9 and the reports that histories give
abbrev pub RampsTold : Equipment → Program → ℕ → Type 0
RampsTold e p most = RampsToldBy saved_into (history_report e) p most

abbrev pub RampsUntold : Equipment → Program → ℕ → Type 0
RampsUntold e p most = RampsUntoldBy saved_into (history_report e) p most
