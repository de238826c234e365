-- Spec 10.13, 10.14: what `respond` makes of a state, a block of input and the size of a lent buffer.
-- Assumes nothing.
use Rattle.std.specs.Prelude.{Bool, cond, ◌||◌, List, [], ◌∷◌, ◌++◌, ℕ, ◌+◌, ◌-◌, ltb, leb, length, take}
use Rattle.rules.specs.Samples.{Equipment}
pub use Rattle.rules.specs.Transcripts.{line_room}
pub use Rattle.text.specs.Forms.{longest}
use Rattle.rules.specs.Transcripts.{Line, ended, unended, lines_in, input_end}
use Rattle.program.specs.States.{is_done, stopped, dropping, read_state}
use Rattle.program.specs.Saying.{Said, said, end_text}
use Rattle.program.specs.declared.State.{State}

-- nothing more is said: all is done, or a buffer of this size has no room for a line more
abbrev pub stops : ℕ → Said → Bool
stops size h = is_done h.state || ltb size (length h.text + line_room)

abbrev pub and_said : Said → Said → Said
and_said h more = record { state = more.state; text = h.text ++ more.text }

-- the input ends with the bytes l of a line
abbrev pub closed : Said → List ℕ → Said
closed h l = record { state = stopped h.state (length l); text = h.text ++ end_text h.state l }

-- the bytes l of a line longer than any form are taken and dropped
abbrev pub dropped : Said → List ℕ → Said
dropped h l = record { state = dropping h.state (length l); text = h.text }

-- after the last line feed stand the bytes l; where the input does not end with them, they wait for their line feed
abbrev pub at_tail : Bool → Said → List ℕ → Said
at_tail ends h l = cond ends (closed h l) (cond (h.state.overlong || ltb longest (length l)) (dropped h l) h)

-- the lines of a block, as many as are there and fit
unfoldable pub handled : Equipment → Bool → ℕ → Said → List Line → Said
handled e ends size h [] = cond (stops size h) h (at_tail ends h [])
handled e ends size h (ended l ∷ ls) = cond (stops size h) h (handled e ends size (and_said h (said e h.state l)) ls)
handled e ends size h (unended l ∷ ls) = cond (stops size h) h (at_tail ends h l)

-- spec 10.9: how many bytes may still be taken
abbrev pub budget : State → ℕ
budget q = input_end - q.taken

unfoldable pub respond_of : Equipment → State → List ℕ → Bool → ℕ → Said
respond_of e q block last size =
    handled e (last || leb (budget q) (length block)) size (record { state = read_state q; text = [] })
    (lines_in (take (budget q) block))
