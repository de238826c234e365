-- Spec 10.9, 10.12: how far reading and writing are, and what stands before each read and each write: a session of `respond`
-- (program/specs/Standing.antt) where the program is. Which bytes a read and a write move stands in Moves.antt.
-- Assumes nothing.
use Rattle.std.specs.Prelude.{◌≡◌, Bool, true, false, List, ℕ, ◌+◌, ◌-◌, min, eqb, length, Option, Some, None, is_none}
use Rattle.rules.specs.Samples.{Equipment}
use Rattle.rules.specs.Text.{has_feed}
use Rattle.rules.specs.Transcripts.{input_end}
use Rattle.program.specs.Responses.{respond_of}
use Rattle.program.specs.Standing.{Standing}
use Rattle.program.specs.declared.State.{State}
use Rattle.stdio.specs.declared.Input.{Input}
use Rattle.stdio.specs.declared.Handed.{Handed}

-- ---- reading

-- spec 10.9: before the first read, 10^12 bytes may be read
abbrev pub unread : Input
unread = record { budget = input_end; asked = 0; answer = Some 0; bytes = 0 }

-- how many bytes came by a read that was answered so: none where it failed, and else as many as it says, and no more than were asked for
abbrev pub clamp_len : Option ℕ → ℕ → ℕ
clamp_len (Some k) most = min k most
clamp_len None most = 0

-- after a read to a place behind which there is this room, which was answered a: as many bytes were asked for as there is room for and may
-- be read; as many came as the answer says, and no more than were asked for
abbrev pub read_after : Input → ℕ → Option ℕ → Input
read_after i room a =
    record {
      budget = i.budget - clamp_len a (min i.budget room);
      asked = min i.budget room;
      answer = a;
      bytes = clamp_len a (min i.budget room);
    }

-- spec 10.12: a read without an answer failed; any other that brings no bytes, where some were asked for, is the input's end
abbrev pub read_failed : Input → Bool
read_failed i = is_none i.answer

-- a read that went well and brought none: the input has ended, or all 10^12 bytes have come
abbrev pub read_ended : Input → Bool
read_ended i = eqb i.bytes 0

-- `respond` may be told this of the input's end: the last read went well, and it is the end where that brought none
pub record Tells (input : Input) (last : Bool) : Type 0 where
  pub well : read_failed input ≡ false
  pub is : last ≡ read_ended input

-- ---- writing

-- before the first write
abbrev pub unsaid : Handed
unsaid = record { bytes = 0; put = true }

-- a session stands at this state with these bytes left; all that it has said is handed over, by the count, and no write failed
pub record Talks (e : Equipment) (ended : Bool) (q : State) (left : List ℕ) (handed : Handed) : Type 0 where
  pub stands : Standing e ended q left handed.bytes
  pub well : handed.put ≡ true

-- when a read is made: a session talks so with the bytes that wait in the buffer; as many bytes came to it as were read; no whole line waits
-- for its answer (spec 10.12); and no read failed
pub record Waits (e : Equipment) (q : State) (left : List ℕ) (handed : Handed) (before : Input) : Type 0 where
  pub talks : Talks e false q left handed
  pub read : length talks.stands.input + before.budget ≡ input_end
  pub unfed : has_feed left ≡ false
  pub well : read_failed before ≡ false

-- the size of the buffer that each call of `respond` is lent
abbrev pub out_room : ℕ
out_room = 131072

-- when a text is handed to the writing: the last read went well, a session talks so at this state and block, and the text is what a call of
-- `respond` writes for them, told of the input's end where that read brought none
pub record Due (e : Equipment) (q : State) (block : List ℕ) (input : Input) (before : Handed) (text : List ℕ) : Type 0 where
  pub well : read_failed input ≡ false
  pub talks : Talks e (read_ended input) q block before
  pub is : text ≡ (respond_of e q block (read_ended input) out_room).text
