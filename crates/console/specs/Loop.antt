-- Spec 10.1, 10.9, 10.12: the program's loop. Before each read and each write a session of `respond` (program/specs/Standing.antt) stands where the
-- program is, and so it does at the end. Of a reader and a writer that state their bytes: what came to the session was read from the one, and
-- what it has said went to the other. Standard input and output state none, so that what a read leaves in the buffer is the input, and that
-- what is lent to a write is written, is what no contract says of them.
-- Assumes nothing.
use Rattle.std.specs.Prelude.{◌≡◌, Bool, true, false, List, ℕ, ◌+◌, ◌<◌, length, take, Option, IfSome}
use Rattle.std.specs.Io.KnownBytes.{Appends, Consumes, IsAtEnd}
use Rattle.rules.specs.Samples.{Equipment}
use Rattle.rules.specs.Transcripts.{input_end, transcript}
use Rattle.program.specs.States.{is_done}
use Rattle.program.specs.Standing.{Standing}
use Rattle.console.specs.declared.RunEnd.{RunEnd}
use Rattle.stdio.specs.Counts.{clamp_len, read_failed}
use Rattle.stdio.specs.Moves.{Put}

-- spec 10.12: the size of the buffer that is read to
abbrev pub block_room : ℕ
block_room = 65536

-- with `buffer` what stands in the program's buffer at the end, `from` and `from'` the bytes that the reader states to have left, before and
-- after, and `to` and `to'` those that the writer states to hold
pub record Runs (e : Equipment) (buffer : List ℕ) (from from' to to' : Option (List ℕ)) (r : RunEnd) : Type 0 where
  -- whether `respond` was told that the input has ended
  pub ended : Bool
  -- a session stands at the state with what is left in the buffer, and has said as many bytes as were handed over
  pub stands : Standing e ended r.state (take r.have buffer) r.handed.bytes
  -- as many bytes came to it as were read, and no more than 10^12
  pub read : length stands.input + r.input.budget ≡ input_end
  -- these bytes were read, and what the session has said was written, all of it where no write failed
  pub came : Consumes from from' stands.input
  pub put : Put r.handed.put to to' stands.text
  -- `respond` was told of the end only where the last read went well and brought none, though it had asked for some unless all 10^12 bytes
  -- had come
  pub bytes : r.input.bytes ≡ clamp_len r.input.answer r.input.asked
  pub end_read : ended ≡ true → read_failed r.input ≡ false
  pub end_none : ended ≡ true → r.input.bytes ≡ 0
  pub end-asked : ended ≡ true → r.input.asked ≡ 0 → length stands.input ≡ input_end
  pub end_left : ended ≡ true → 0 < r.input.asked → IsAtEnd from'
  -- where no read and no write failed, all is done, and what the session has said is the transcript of what came to it; it begins the
  -- transcript in any case (`StandingLaw`)
  pub done : read_failed r.input ≡ false → r.handed.put ≡ true → is_done r.state ≡ true
  pub all : read_failed r.input ≡ false → r.handed.put ≡ true → stands.text ≡ transcript e stands.input
  -- and so the transcript of all that the reader had was written
  pub whole : read_failed r.input ≡ false → r.handed.put ≡ true → IfSome from (λ (s : List ℕ). Appends to to' (transcript e s))
