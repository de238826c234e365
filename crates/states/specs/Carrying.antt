-- Spec 10.13: each part of handling a block carries a state from one place of a block to another, and what is said from either is the same.
-- Assumes nothing.
use Rattle.std.specs.Prelude.{◌≡◌, Bool, false, List, [], ◌++◌, ℕ, ◌+◌, ◌-◌, ◌≤◌, length, drop, Ok, Err}
use Rattle.rules.specs.Samples.{Equipment}
use Rattle.rules.specs.Text.{has_feed}
use Rattle.rules.specs.Refusals.{refusal_number}
use Rattle.rules.specs.Transcripts.{lines_in, refused_line}
use Rattle.rules.specs.Answers.{SettingsCheck}
use Rattle.buffers.specs.Written.{Wrote}
use Rattle.program.specs.States.{is_done, Fit}
use Rattle.program.specs.Responses.{line_room, handled}
use Rattle.program.specs.declared.State.{State}
use Rattle.states.specs.declared.Handled.{Handled}

-- what a refused sheet line writes; an accepted one writes nothing
abbrev pub check_text : SettingsCheck → List ℕ
check_text (Ok ok) = []
check_text (Err away) = refused_line (refusal_number away.cause) away.line

-- r stands at a place of a block s, and q at one before it
pub record Stands (s : List ℕ) (q : State) (at₀ : ℕ) (r : State) (at : ℕ) : Type 0 where
  pub later : at₀ ≤ at
  pub inside : at ≤ length s
  pub taken : r.taken ≡ q.taken + (at - at₀)
  pub fit : Fit r (length s - at)

-- lines of a block said from h on into a buffer d, which is d' after it
pub record Carried (e : Equipment) (s d : List ℕ) (h : Handled) (d' : List ℕ) (r : Handled) : Type 0 where
  pub stands : Stands s h.state h.at r.state r.at
  pub text : List ℕ
  pub wrote : Wrote d h.written d' r.written text
  pub same : (before : List ℕ) → length before ≡ h.written → (ends : Bool)
      → handled e ends (length d) (record { state = h.state; text = before }) (lines_in (drop h.at s))
      ≡ handled e ends (length d) (record { state = r.state; text = before ++ text }) (lines_in (drop r.at s))

-- the state before a block, with nothing written
abbrev pub begun : State → Handled
begun q = record { state = q; at = 0; written = 0 }

-- no line more: all is done, there is no room, or no line feed is left
abbrev pub Stuck : List ℕ → List ℕ → Handled → Type 0
Stuck s d h = is_done h.state ≡ false → h.written + line_room ≤ length d → has_feed (drop h.at s) ≡ false
