-- Spec 10.13, 10.15: the program's state, where it begins, and how a lent one is read.
-- Assumes nothing.
use Rattle.std.specs.Prelude.{◌≡◌, Bool, true, false, cond, not, ◌&&◌, ◌||◌, [], ℕ, ◌+◌, ◌≤◌, leb, eqb}
use Rattle.rules.specs.Settings.{sheet_lines}
use Rattle.rules.specs.Records.{fresh}
use Rattle.rules.specs.Sheets.{settings_of}
use Rattle.rules.specs.Transcripts.{input_end}
use Rattle.program.specs.declared.State.{State}

-- before the first byte
unfoldable pub start : State
start = record { stage = 0; line = 1; overlong = false; taken = 0; settings = settings_of []; board = fresh }

abbrev pub is_done : State → Bool
is_done q = leb 2 q.stage

abbrev pub reads_sheet : State → Bool
reads_sheet q = eqb q.stage 0

-- the state with n bytes more taken and all done
abbrev pub stopped : State → ℕ → State
stopped q n =
    record { stage = 2; line = q.line; overlong = false; taken = q.taken + n; settings = q.settings; board = q.board }

-- the state with n bytes more of its line taken and dropped, the line being longer than any form
abbrev pub dropping : State → ℕ → State
dropping q n =
    record { stage = q.stage; line = q.line; overlong = true; taken = q.taken + n; settings = q.settings; board = q.board }

-- a test of a state's counts, necessary and not sufficient for some input to lead to it: no more than the input's 10^12 bytes are taken,
-- each line before this one took a byte, and a sheet has thirteen lines
unfoldable pub sensible : State → Bool
sensible q =
    leb 1 q.line && (leb q.taken input_end && (leb q.line (q.taken + 1) && (not (reads_sheet q) || leb q.line sheet_lines)))

-- any other state is read as one where all is done
unfoldable pub read_state : State → State
read_state q = cond (sensible q) q (stopped q 0)

-- a sensible state, with n bytes more to be taken
pub record Fit (q : State) (n : ℕ) : Type 0 where
  pub from_one : 1 ≤ q.line
  pub low : q.line ≤ q.taken + 1
  pub high : q.taken + n ≤ input_end
  pub sheet : reads_sheet q ≡ true → q.line ≤ sheet_lines
