-- Spec 10.13, 10.14: a block is handled to its end.
-- Assumes nothing.
use Rattle.std.specs.Prelude.{◌≡◌, Bool, List, ◌++◌, ℕ, ◌+◌, ◌-◌, ◌≤◌, length, drop}
use Rattle.rules.specs.Samples.{Equipment}
use Rattle.rules.specs.Transcripts.{lines_in}
use Rattle.buffers.specs.Written.{Wrote}
use Rattle.program.specs.Responses.{handled}
use Rattle.states.specs.declared.Handled.{Handled}

-- all that is handled of a block
pub record Closed (e : Equipment) (ends : Bool) (s d : List ℕ) (h : Handled) (d' : List ℕ) (r : Handled) : Type 0 where
  pub later : h.at ≤ r.at
  pub inside : r.at ≤ length s
  pub taken : r.state.taken ≡ h.state.taken + (r.at - h.at)
  pub text : List ℕ
  pub wrote : Wrote d h.written d' r.written text
  pub all : (before : List ℕ) → length before ≡ h.written
      → handled e ends (length d) (record { state = h.state; text = before }) (lines_in (drop h.at s)) ≡ record { state = r.state; text = before ++ text }
