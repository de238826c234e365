-- Demand 2 (spec 13.2): what held at each of the last n samples.
-- Assumes nothing.
use Rattle.std.specs.Prelude.{◌≡◌, Bool, true, [], ℕ, ◌≤◌, ◌<◌, max, length, get_or}
use Rattle.rules.specs.Settings.{limit_at}
use Rattle.rules.specs.Samples.{Slice, Equipment}
use Rattle.rules.specs.Counters.{kinds, undervoltage, broken, in_range}
use Rattle.rules.specs.History.{History}
use Rattle.rules.specs.declared.Settings.{Settings}

-- the test held at each of the newest n samples, and as many have come: with fewer it does not hold
pub record Held (test : Slice → Bool) (n : ℕ) (h : History) : Type 0 where
  pub enough : n ≤ length h
  pub throughout : (k : ℕ) → k < n → test (get_or h k []) ≡ true

-- limit i of the eight, in sheet order, is broken by a sample
abbrev pub broken_at : Equipment → Settings → ℕ → Slice → Bool
broken_at e st i = broken e (get_or kinds i undervoltage) (limit_at st i).level

-- spec 13.2: some limit was broken at each of the last samples of its clearing time
abbrev pub RanOut : Equipment → Settings → History → Type 0
RanOut e st h = (i : ℕ) × (i < 8) × Held (broken_at e st i) (limit_at st i).clearing h

-- spec 13.2: the enter-service criteria held at each of the last samples of the wait, at least one
abbrev pub WaitFull : Equipment → Settings → History → Type 0
WaitFull e st h = Held (in_range e st) (max 1 st.wait) h
