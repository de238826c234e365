-- Spec 10.3 to 10.8: what the program writes for each line, from a state, and at the end.
-- Assumes nothing.
use Rattle.std.specs.Prelude.{Bool, true, false, cond, ◌||◌, List, [], ◌∷◌, ◌++◌, ℕ, ◌+◌, ◌-◌, eqb, ℤ, length, Ok, Err}
use Rattle.std.proofs.Math.Option.{Option, none}
use Rattle.rules.specs.Settings.{sheet_lines}
use Rattle.rules.specs.Refusals.{refusal_number}
use Rattle.rules.specs.Samples.{Equipment}
use Rattle.rules.specs.Forms.{sample_form, numbers_of}
use Rattle.rules.specs.Transcripts.{Line, ended, unended, lines_in, refused_line, answer_line, on_sample_numbers}
use Rattle.rules.specs.declared.Settings.{Settings}
use Rattle.rules.specs.declared.Refusal.TheVariants.{Form, Sample}
use Rattle.rules.specs.Answers.{Answer}
use Rattle.rules.specs.declared.Stepped.{Stepped}
use Rattle.formats.specs.Marks.{form_at}
use Rattle.sheet.specs.LineReads.{LineRead, on_line}
use Rattle.program.specs.States.{is_done, reads_sheet, stopped}
use Rattle.program.specs.declared.State.{State}

-- what is written, and the state after it
pub record Said : Type 0 where
  pub state : State
  pub text : List ℕ

-- the numbers of an ended line by its form; a line whose beginning was dropped has none
abbrev pub line_numbers : Bool → List ℕ → List ℕ → Option (List ℤ)
line_numbers overlong form l = cond overlong none (numbers_of form l)

-- ---- the sheet's lines

-- line 13 is the sheet's last
abbrev pub stage_after : ℕ → ℕ
stage_after line = cond (eqb line sheet_lines) 1 0

-- spec 10.6: a refused sheet ends all; n is how many bytes the line took
abbrev pub on_read : State → ℕ → LineRead → Said
on_read q n (Err away) = record { state = stopped q n; text = refused_line (refusal_number away.why.cause) away.why.line }
on_read q n (Ok st) =
    record {
      state = record { stage = stage_after q.line; line = q.line + 1; overlong = false; taken = q.taken + n; settings = st; board = q.board };
      text = [];
    }

abbrev pub sheet_line : State → List ℕ → Said
sheet_line q l = on_read q (length l + 1) (on_line (q.line - 1) q.settings (line_numbers q.overlong (form_at (q.line - 1)) l))

-- ---- the sample lines

-- what is written to a sample line with this answer
abbrev pub line_text : State → Answer → List ℕ
line_text q answer = answer_line q.line answer

abbrev pub on_stepped : State → ℕ → Stepped → Said
on_stepped q n r =
    record {
      state = record { stage = 1; line = q.line + 1; overlong = false; taken = q.taken + n; settings = q.settings; board = r.board };
      text = line_text q r.answer;
    }

abbrev pub sample_line : Equipment → State → List ℕ → Said
sample_line e q l = on_stepped q (length l + 1) (on_sample_numbers e q.settings q.board (line_numbers q.overlong sample_form l))

-- ---- every line

-- an ended line, without its line feed
unfoldable pub said : Equipment → State → List ℕ → Said
said e q l = cond (is_done q) (record { state = q; text = [] }) (cond (reads_sheet q) (sheet_line q l) (sample_line e q l))

abbrev pub is_some : List ℕ → Bool
is_some [] = false
is_some (b ∷ s) = true

-- some bytes of the line are there, with l those that are not taken yet
abbrev pub begun_line : State → List ℕ → Bool
begun_line q l = q.overlong || is_some l

-- what is written among the samples where the input ends: a sample line is unended, where there is one
abbrev pub closing_text : State → Bool → List ℕ
closing_text q begun = cond begun (refused_line (refusal_number Sample) q.line) []

-- what is written where the input ends with the bytes l of a line that has no line feed: a sheet's line is unended or missing
unfoldable pub end_text : State → List ℕ → List ℕ
end_text q l = cond (is_done q) [] (cond (reads_sheet q) (refused_line (refusal_number Form) q.line) (closing_text q (begun_line q l)))

-- what is written from a state on, for the lines of all the input that is left
unfoldable pub following : Equipment → State → List Line → List ℕ
following e q [] = end_text q []
following e q (ended l ∷ ls) = (said e q l).text ++ following e (said e q l).state ls
following e q (unended l ∷ ls) = end_text q l

abbrev pub resume : Equipment → State → List ℕ → List ℕ
resume e q s = following e q (lines_in s)
