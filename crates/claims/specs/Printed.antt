-- Demand 2 of what is printed (spec 10.3 to 10.7, 13.2), as a claim about any program from input to output: a refused sheet's refusal line and
-- nothing else; or an answer for each line after the sheet, by the accepted samples among the lines alone.
-- Assumes nothing.
use Rattle.std.specs.Prelude.{◌≡◌, Bool, true, false, cond, ◌&&◌, ◌⊎◌, ◌↔◌, List, [], ◌∷◌, ◌++◌, map, ℕ, ◌+◌, ◌<◌, eqb, ℤ, nat_abs, length, get_or, take, Ok}
use Rattle.std.proofs.Math.Option.{Option, none, some}
use Rattle.rules.specs.Text.{bytes}
use Rattle.rules.specs.Forms.{sample_form, numbers_of}
use Rattle.rules.specs.Samples.{Slice, Equipment, permitted, sample_accepted}
use Rattle.rules.specs.Regions.{region_of}
use Rattle.rules.specs.Refusals.{refusal_number}
use Rattle.rules.specs.Reports.{report_of}
use Rattle.rules.specs.History.{History, history_report}
use Rattle.rules.specs.Sheets.{read_sheet, handed_back}
use Rattle.rules.specs.Transcripts.{Line, ended, unended, lines_in, report_line, refused_line, first_sample, input_end}
use Rattle.rules.specs.declared.Settings.{Settings}
use Rattle.rules.specs.declared.Refusal.{Refusal}
use Rattle.rules.specs.declared.Region.TheVariants.{Continuous}
use Rattle.rules.specs.Answers.{settings_refused}
use Rattle.claims.specs.Held.{RanOut, WaitFull}
use Rattle.causes.specs.FirstCause.{Cause, cause, first, sample_causes}

-- ---- the samples on lines

abbrev pub as_slice : Option (List ℤ) → Option Slice
as_slice none = none
as_slice (some ns) = some (map nat_abs ns)

-- spec 10.2: the sample on a line; none where the line is unended or of another form (`SamplesOnLines` of the crate `demands`)
abbrev pub sample_on : Line → Option Slice
sample_on (ended s) = as_slice (numbers_of sample_form s)
sample_on (unended s) = none

-- spec 4.2, 11.1: the causes of a line, in their order
abbrev pub causes_on : Option Slice → List Cause
causes_on none = cause 8 true ∷ []
causes_on (some x) = sample_causes x

-- spec 10.7: the history after one line more; a refused one adds nothing
abbrev pub with_sample : History → Option Slice → History
with_sample h none = h
with_sample h (some x) = cond (sample_accepted x) (x ∷ h) h

abbrev pub samples_after : History → List Line → History
samples_after h [] = h
samples_after h (l ∷ ls) = samples_after (with_sample h (sample_on l)) ls

-- the accepted samples on lines, the newest first
abbrev pub samples_on : List Line → History
samples_on ls = samples_after [] ls

-- line k of these, from 0
abbrev pub line_at : List Line → ℕ → Line
line_at lines k = get_or lines k (unended [])

-- there is a line k, and it is this accepted sample
pub record AcceptedAt (lines : List Line) (k : ℕ) (x : Slice) : Type 0 where
  pub line : k < length lines
  pub sample : sample_on (line_at lines k) ≡ some x
  pub accepted : sample_accepted x ≡ true

-- there is a line k, and this is its first cause
pub record CauseAt (lines : List Line) (k : ℕ) (why : Refusal) : Type 0 where
  pub line : k < length lines
  pub number : refusal_number why ≡ first (causes_on (sample_on (line_at lines k)))

-- ---- the words that are printed

abbrev pub space : ℕ
space = 32

-- what stands before a text's first space, and what after it
unfoldable pub until_space : List ℕ → List ℕ
until_space [] = []
until_space (b ∷ s) = cond (eqb b space) [] (b ∷ until_space s)

unfoldable pub after_space : List ℕ → List ℕ
after_space [] = []
after_space (b ∷ s) = cond (eqb b space) s (after_space s)

unfoldable pub same_text : List ℕ → List ℕ → Bool
same_text [] [] = true
same_text [] (c ∷ t) = false
same_text (b ∷ s) [] = false
same_text (b ∷ s) (c ∷ t) = eqb b c && same_text s t

-- an answer that is a report (spec 10.4), and its status word
abbrev pub is_report : List ℕ → Bool
is_report text = same_text (until_space text) (bytes "(report")

abbrev pub printed_status : List ℕ → List ℕ
printed_status text = until_space (after_space text)

-- the status word of the last report among answers, and `word` where there is none
abbrev pub shown_after : List ℕ → List (List ℕ) → List ℕ
shown_after word [] = word
shown_after word (t ∷ ts) = shown_after (cond (is_report t) (printed_status t) word) ts

abbrev pub tripped_word : List ℕ
tripped_word = bytes "tripped"

-- before any report a board is tripped (spec 8.2)
abbrev pub last_shown : List (List ℕ) → List ℕ
last_shown answers = shown_after tripped_word answers

-- ---- what is claimed

-- lists of numbers one after the other: the bytes of texts, the numbers of samples
abbrev pub joined : List (List ℕ) → List ℕ
joined [] = []
joined (t ∷ ts) = t ++ joined ts

-- of the lines after a sheet, and a text: it is what should be printed for them
pub record Printed (e : Equipment) (st : Settings) (lines : List Line) (text : List ℕ) : Type 0 where
  -- it is an answer for each line, one after the other
  pub answers : List (List ℕ)
  pub whole : text ≡ joined answers
  pub one_each : length answers ≡ length lines
  -- a line is an accepted sample, or it has a first cause
  pub either : (k : ℕ) → k < length lines → ((x : Slice) × AcceptedAt lines k x) ⊎ ((why : Refusal) × CauseAt lines k why)
  -- an accepted sample is answered with the report that it and the accepted samples before it alone give
  pub reports : (k : ℕ) (x : Slice) → AcceptedAt lines k x
      → get_or answers k [] ≡ report_line (report_of (history_report e st (x ∷ samples_on (take k lines))))
  -- any other line with its first cause and its number in the input
  pub refuses : (k : ℕ) (why : Refusal) → CauseAt lines k why → get_or answers k [] ≡ refused_line (refusal_number why) (first_sample st + k)
  -- not tripped by the last report before it, a sample's report says `tripped` exactly when permission is off or some limit has been broken for its
  -- whole clearing time, ending there
  pub trips : (k : ℕ) (x : Slice) → AcceptedAt lines k x → ¬ (last_shown (take k answers) ≡ tripped_word)
      → (printed_status (get_or answers k []) ≡ tripped_word) ↔ ((permitted x ≡ false) ⊎ RanOut e st (x ∷ samples_on (take k lines)))
  -- tripped by it, or with none before it, the report says another word exactly when the full wait has just been in range with permission on
  pub returns : (k : ℕ) (x : Slice) → AcceptedAt lines k x → last_shown (take k answers) ≡ tripped_word
      → (¬ (printed_status (get_or answers k []) ≡ tripped_word)) ↔ WaitFull e st (x ∷ samples_on (take k lines))
  -- and it does so in the continuous operation region only
  pub returns-continuous : (k : ℕ) (x : Slice) → AcceptedAt lines k x → last_shown (take k answers) ≡ tripped_word
      → ¬ (printed_status (get_or answers k []) ≡ tripped_word) → region_of e st x ≡ Continuous

-- spec 10.9: the part of an input that is read
abbrev pub read_part : List ℕ → List ℕ
read_part input = take input_end input

-- of a program that prints a text for each input
pub record PrintsByHistory (e : Equipment) (print : List ℕ → List ℕ) : Type 0 where
  -- spec 10.6: where the sheet is refused, its refusal line and nothing else
  pub sheet-refused : (input : List ℕ) (why : Refusal) (line : ℕ) → (read_sheet (read_part input)).check ≡ settings_refused why line
      → print input ≡ refused_line (refusal_number why) line
  -- where it is accepted, what should be printed for the lines after it
  pub sheet-accepted : (input : List ℕ) → (read_sheet (read_part input)).check ≡ Ok tt
      → Printed e (read_sheet (read_part input)).settings (lines_in (handed_back (read_part input))) (print input)
