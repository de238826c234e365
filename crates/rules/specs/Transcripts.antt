-- Spec 10.3 to 10.9: what `board` writes for a whole input.
-- Assumes nothing.
use Rattle.std.specs.Prelude.{cond, List, [], ◌∷◌, ◌++◌, map, ℕ, zero, suc, ◌+◌, ◌/◌, ◌%◌, eqb, ℤ, pos, nat_abs, take, drop, get_or, Ok, Err}
use Rattle.std.proofs.Math.Option.{Option, none, some}
use Prim.Native.String.{String}
use Rattle.rules.specs.Refusals.{refusal_number}
use Rattle.rules.specs.Settings.{sheet_lines}
use Rattle.rules.specs.Samples.{Equipment}
use Rattle.rules.specs.Statuses.{statuses}
use Rattle.rules.specs.Records.{fresh, step_of}
use Rattle.rules.specs.Text.{bytes, feed, signed_decimal}
use Rattle.rules.specs.Forms.{sample_form, numbers_of}
use Rattle.rules.specs.Sheets.{SheetReading, read_sheet}
use Rattle.rules.specs.declared.Settings.{Settings}
use Rattle.rules.specs.declared.Board.{Board}
use Rattle.rules.specs.declared.Report.{Report}
use Rattle.rules.specs.declared.Refusal.TheVariants.{Sample}
use Rattle.rules.specs.Answers.{SettingsCheck, Answer}
use Rattle.rules.specs.declared.Stepped.{Stepped}

-- ---- the lines that are written

-- spec 6.13: the status words, by number
abbrev pub status_words : List String
status_words = map (λ s. s.word) statuses

-- the lowest k bits of a number as digits, the highest first
unfoldable pub bit_digits : ℕ → ℕ → List ℕ
bit_digits zero n = []
bit_digits (suc k) n = bit_digits k (n / 2) ++ ((48 + n % 2) ∷ [])

-- the numbers of a report line, in their order
abbrev pub report_numbers : Report → List ℤ
report_numbers r = pos r.share ∷ pos r.recovery ∷ pos r.side ∷ pos r.held ∷ pos r.watts ∷ r.vars ∷ []

-- a number after a space
unfoldable pub spaced : ℤ → List ℕ
spaced z = bytes " " ++ signed_decimal z

unfoldable pub spaced_numbers : List ℤ → List ℕ
spaced_numbers [] = []
spaced_numbers (z ∷ zs) = spaced z ++ spaced_numbers zs

-- spec 10.4: a report line
unfoldable pub report_line : Report → List ℕ
report_line r =
    bytes "(report " ++ (bytes (get_or status_words r.status "") ++ (bytes " " ++ (bit_digits 9 r.bits
    ++ (spaced_numbers (report_numbers r) ++ bytes ")\n"))))

-- spec 10.5: a refusal line, by the number of its cause
unfoldable pub refused_line : ℕ → ℕ → List ℕ
refused_line number line = bytes "(refused" ++ (spaced_numbers (pos number ∷ pos line ∷ []) ++ bytes ")\n")

abbrev pub answer_line : ℕ → Answer → List ℕ
answer_line line (Ok r) = report_line r
answer_line line (Err cause) = refused_line (refusal_number cause) line

-- spec 10.14: room for one line that is written, whichever
abbrev pub line_room : ℕ
line_room = 128

-- ---- the lines that are read

-- a line of the input, ended by its line feed or by the input's end
pub data Line : Type 0 where
  ended : List ℕ → Line
  unended : List ℕ → Line

-- spec 10.8: what stands after the last line feed, if nothing, is no line
abbrev pub last_line : List ℕ → List Line
last_line [] = []
last_line (b ∷ s) = unended (b ∷ s) ∷ []

-- the lines of a text of which `before` is read, the first one's beginning
unfoldable pub lines_after : List ℕ → List ℕ → List Line
lines_after before [] = last_line before
lines_after before (b ∷ s) = cond (eqb b feed) (ended before ∷ lines_after [] s) (lines_after (before ++ (b ∷ [])) s)

unfoldable pub lines_in : List ℕ → List Line
lines_in s = lines_after [] s

-- ---- the samples

-- a line of another form, or unended, is refused with 8 (spec 11.1); a line of its form is a step
abbrev pub on_sample_numbers : Equipment → Settings → Board → Option (List ℤ) → Stepped
on_sample_numbers e st b none = record { board = b; answer = Err Sample }
on_sample_numbers e st b (some ns) = step_of e b st (map nat_abs ns)

unfoldable pub line_step : Equipment → Settings → Board → Line → Stepped
line_step e st b (ended s) = on_sample_numbers e st b (numbers_of sample_form s)
line_step e st b (unended s) = record { board = b; answer = Err Sample }

-- spec 10.3, 10.5, 10.7: a line written for each line read; every line, good or bad, counts in the line number; a refusal is no step
unfoldable pub answers_from : Equipment → Settings → Board → ℕ → List Line → List ℕ
answers_from e st b n [] = []
answers_from e st b n (l ∷ ls) = answer_line n (line_step e st b l).answer ++ answers_from e st (line_step e st b l).board (suc n) ls

-- ---- the whole input

-- spec 10.9: where the input ends at the latest
abbrev pub input_end : ℕ
input_end = 1000000000000

-- spec 10.6: the input line of the first sample, after an accepted sheet with these settings
abbrev pub first_sample : Settings → ℕ
first_sample st = sheet_lines + 1

-- what a program says to the lines after an accepted sheet, by the sheet's settings
abbrev pub Telling : Type 0
Telling = Settings → List Line → List ℕ

-- spec 10.6: a refused sheet ends all
abbrev pub on_sheet_by : Telling → SheetReading → SettingsCheck → List ℕ → List ℕ
on_sheet_by tells r (Err away) s = refused_line (refusal_number away.cause) away.line
on_sheet_by tells r (Ok ok) s = tells r.settings (lines_in (drop r.start s))

unfoldable pub transcript_of_by : Telling → List ℕ → List ℕ
transcript_of_by tells s = on_sheet_by tells (read_sheet s) (read_sheet s).check s

-- what a program that tells so writes for a whole input
unfoldable pub transcript_by : Telling → List ℕ → List ℕ
transcript_by tells input = transcript_of_by tells (take input_end input)

-- what `board` says: the answers of a fresh board
abbrev pub answers_to : Equipment → Telling
answers_to e st ls = answers_from e st fresh (first_sample st) ls

abbrev pub transcript_of : Equipment → List ℕ → List ℕ
transcript_of e s = transcript_of_by (answers_to e) s

abbrev pub transcript : Equipment → List ℕ → List ℕ
transcript e input = transcript_by (answers_to e) input
