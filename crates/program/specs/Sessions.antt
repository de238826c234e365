-- Spec 10.13, the transcript law: however an input is cut into blocks, what `respond` writes, put together, is the input's transcript.
-- Assumes nothing.
use Rattle.std.specs.Prelude.{◌≡◌, Bool, true, false, List, [], ◌∷◌, ◌++◌, ℕ, ◌+◌, ◌-◌, ◌≤◌, ◌<◌, length, take, drop}
use Rattle.rules.specs.Samples.{Equipment}
use Rattle.rules.specs.Text.{first_line, has_feed}
use Rattle.rules.specs.Sheets.{read_sheet}
use Rattle.rules.specs.Transcripts.{input_end, lines_in, answers_from, transcript}
use Rattle.rules.specs.declared.Refusal.{Refusal}
use Rattle.rules.specs.Answers.{settings_refused}
use Rattle.program.specs.States.{start, is_done, stopped, sensible}
use Rattle.program.specs.Responses.{budget, line_room, longest, respond_of}
use Rattle.program.specs.declared.State.{State}

-- a host between two calls: the state, the bytes that have come and are not taken, and all that was written
pub record Session : Type 0 where
  pub state : State
  pub left : List ℕ
  pub text : List ℕ

-- the bytes that come before a call, and the size of the buffer lent to it
pub record Delivery : Type 0 where
  pub bytes : List ℕ
  pub size : ℕ

abbrev pub opened : Session
opened = record { state = start; left = []; text = [] }

-- a call with what the one before left and the bytes that have come since
abbrev pub delivered : Equipment → Bool → Session → Delivery → Session
delivered e last k c =
    let r = respond_of e k.state (k.left ++ c.bytes) last c.size in
    record {
      state = r.state;
      left = drop (r.state.taken - k.state.taken) (k.left ++ c.bytes);
      text = k.text ++ r.text;
    }

-- while input comes
unfoldable pub during : Equipment → Session → List Delivery → Session
during e k [] = k
during e k (c ∷ cs) = during e (delivered e false k c) cs

-- when it has ended: calls with the sizes of the buffers lent to them and no new bytes (new bytes that come with the news of the end
-- are those of a call before, with a buffer of size 0)
unfoldable pub ending : Equipment → Session → List ℕ → Session
ending e k [] = k
ending e k (size ∷ sizes) = ending e (delivered e true k (record { bytes = []; size = size })) sizes

-- the input that the calls were given
unfoldable pub input_of : List Delivery → List ℕ
input_of [] = []
input_of (c ∷ cs) = c.bytes ++ input_of cs

-- its first 10^12 bytes
abbrev pub cut : List Delivery → List ℕ
cut cs = take input_end (input_of cs)

-- the bytes of a block that a call takes, and those that it leaves
abbrev pub taken_of : Equipment → State → List ℕ → Bool → ℕ → List ℕ
taken_of e q block last size = take ((respond_of e q block last size).state.taken - q.taken) block

abbrev pub left_of : Equipment → State → List ℕ → Bool → ℕ → List ℕ
left_of e q block last size = drop ((respond_of e q block last size).state.taken - q.taken) block

-- each buffer has room for one line
unfoldable pub Roomy : List ℕ → Type 0
Roomy [] = Unit {0}
Roomy (size ∷ sizes) = (line_room ≤ size) × Roomy sizes

-- however an input is cut, and whatever buffers are lent: once all is done, what was written is the input's transcript
pub record TranscriptLaw (e : Equipment) : Type 0 where
  pub done : (cs : List Delivery) (sizes : List ℕ) → is_done (ending e (during e opened cs) sizes).state ≡ true
      → (ending e (during e opened cs) sizes).text ≡ transcript e (input_of cs)
  -- all is done after as many calls with room for a line as there are bytes left, and one
  pub ends : (cs : List Delivery) (sizes : List ℕ) → Roomy sizes → length (during e opened cs).left < length sizes
      → is_done (ending e (during e opened cs) sizes).state ≡ true
  -- every state that calls lead to, while input comes (no sizes) or when it has ended, is a sensible one, so that what is said below of
  -- a sensible state is said of it
  pub reached : (cs : List Delivery) (sizes : List ℕ) → sensible (ending e (during e opened cs) sizes).state ≡ true
  -- a call whose buffer has no room for a line writes nothing and takes nothing, at the input's end too: the state stays as it is
  pub idle : (q : State) (block : List ℕ) (last : Bool) (size : ℕ) → sensible q ≡ true → size < line_room
      → ((respond_of e q block last size).text ≡ []) × ((respond_of e q block last size).state ≡ q)
  -- spec 10.15: a state that is not sensible is read as one where all is done: nothing is written and nothing taken
  pub senseless : (q : State) (block : List ℕ) (last : Bool) (size : ℕ) → sensible q ≡ false
      → respond_of e q block last size ≡ record { state = stopped q 0; text = [] }
  -- spec 10.14: nothing is written or taken once all is done
  pub finished : (q : State) (block : List ℕ) (last : Bool) (size : ℕ) → sensible q ≡ true → is_done q ≡ true
      → respond_of e q block last size ≡ record { state = q; text = [] }
  -- spec 10.14: of a line that is not being dropped, up to 128 bytes without a line feed wait untaken while the input goes on
  pub waits : (q : State) (block : List ℕ) (size : ℕ) → sensible q ≡ true → q.overlong ≡ false → length block < budget q
      → has_feed block ≡ false → length block ≤ longest → respond_of e q block false size ≡ record { state = q; text = [] }
  -- a whole line at hand is taken, where there is room for one
  pub progress : (q : State) (block : List ℕ) (last : Bool) (size : ℕ) → sensible q ≡ true → is_done q ≡ false → line_room ≤ size
      → has_feed (take (budget q) block) ≡ true
      → q.taken + (length (first_line (take (budget q) block)) + 1) ≤ (respond_of e q block last size).state.taken
  -- as many lines are handled as are there and fit: where all is not done and there is room for a line more, no whole line is left,
  -- and no more than 128 bytes of a begun line, however long it is
  pub handles : (q : State) (block : List ℕ) (last : Bool) (size : ℕ) → sensible q ≡ true
      → is_done (respond_of e q block last size).state ≡ false → length (respond_of e q block last size).text + line_room ≤ size
      → (has_feed (left_of e q block last size) ≡ false) × (length (left_of e q block last size) ≤ longest)
  -- among the samples a call writes the answers to the lines that it takes, then and there; a begun line that is dropped, it being
  -- longer than any form, has its answer when it ends
  pub answers : (q : State) (block : List ℕ) (last : Bool) (size : ℕ) → sensible q ≡ true → q.stage ≡ 1 → q.overlong ≡ false
      → (respond_of e q block last size).state.overlong ≡ false
      → (respond_of e q block last size).text ≡ answers_from e q.settings q.board q.line (lines_in (taken_of e q block last size))
  -- once the sheet is read, or all is done, and where no begun line is dropped: what was written is the transcript of the bytes that were
  -- taken. So the call that takes the sheet's last line answers the samples that it takes after it, then and there, too
  pub written : (cs : List Delivery) (sizes : List ℕ) → 1 ≤ (ending e (during e opened cs) sizes).state.stage
      → (ending e (during e opened cs) sizes).state.overlong ≡ false
      → (ending e (during e opened cs) sizes).text ≡ transcript e (take (ending e (during e opened cs) sizes).state.taken (input_of cs))
  -- a refused sheet ends all as soon as its line is known: the refused line has its line feed, and no whole line is left
  pub refused : (cs : List Delivery) (cause : Refusal) (n : ℕ) → (read_sheet (cut cs)).check ≡ settings_refused cause n
      → has_feed (drop (read_sheet (cut cs)).start (cut cs)) ≡ true → has_feed (during e opened cs).left ≡ false
      → is_done (during e opened cs).state ≡ true
  -- before the input's end, what was written begins its transcript, whatever comes
  pub begins : (cs : List Delivery) (more : List ℕ)
      → transcript e (input_of cs ++ more) ≡ (during e opened cs).text ++ drop (length (during e opened cs).text) (transcript e (input_of cs ++ more))
  -- all done before the input's end: nothing that comes would add to it
  pub early : (cs : List Delivery) (more : List ℕ) → is_done (during e opened cs).state ≡ true → transcript e (input_of cs ++ more) ≡ (during e opened cs).text
