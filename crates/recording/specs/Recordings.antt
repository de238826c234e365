-- Spec 5.6: recorded samples are lent as one slice, seven numbers each, and stepped one after another on a fresh record, all under the same
-- settings.
-- Assumes nothing.
use Rattle.std.specs.Prelude.{◌≡◌, List, [], ◌∷◌, ◌++◌, map, ℕ, zero, suc, ◌+◌, ◌/◌, ◌<◌, length, take, drop}
use Rattle.rules.specs.Samples.{Slice, Equipment}
use Rattle.rules.specs.declared.Settings.{Settings}
use Rattle.causes.specs.Calls.{Call, Run, ruled_by, run_of, accepted_samples}
use Rattle.recording.specs.declared.Ran.{Ran}

-- ---- the calls

-- spec 4.1: a sample is seven numbers
abbrev pub group_length : ℕ
group_length = 7

-- so many groups: the next seven numbers at a time, the last group what is left
abbrev pub next_groups : ℕ → List ℕ → List Slice
next_groups zero s = []
next_groups (suc k) s = take group_length s ∷ next_groups k (drop group_length s)

-- as many groups as are begun
unfoldable pub groups : List ℕ → List Slice
groups s = next_groups ((length s + 6) / group_length) s

abbrev pub call_of : Settings → Slice → Call
call_of st x = record { settings = st; slice = x }

-- one call for each group, in order, each lending the settings; a last group of fewer than seven is a slice that 8 refuses
unfoldable pub calls_of : Settings → List ℕ → List Call
calls_of st samples = map (call_of st) (groups samples)

-- the board at work after them, from a fresh one
abbrev pub run_over : Equipment → Settings → List ℕ → Run
run_over e st samples = run_of (ruled_by e) (calls_of st samples)

-- and how many samples were accepted
unfoldable pub ran_by : Equipment → Settings → List ℕ → Ran
ran_by e st samples =
    record {
      board = (run_over e st samples).board;
      report = (run_over e st samples).report;
      accepted = length (accepted_samples (calls_of st samples));
    }

-- ---- the numbers seven by seven

-- what there is no choice in: whole groups, a short last one, none of no numbers
pub record GroupsBySeven (groups : List ℕ → List Slice) : Type 0 where
  pub none : groups [] ≡ []
  pub whole : (x : Slice) (s : List ℕ) → length x ≡ group_length → groups (x ++ s) ≡ x ∷ groups s
  pub short : (s : List ℕ) → 0 < length s → length s < group_length → groups s ≡ s ∷ []
