-- Spec 13.6: sham operations and sham readings of sheets that demand 1 must stop.
-- Assumes nothing.
use Rattle.std.specs.Prelude.{Bool, cond, ◌&&◌, List, ◌++◌, map, ℕ, ◌-◌, eqb, length, take, drop, Ok, Err}
use Rattle.rules.specs.Tests.{any}
use Rattle.rules.specs.Sensing.{last_code, sensed}
use Rattle.rules.specs.Settings.{settings_check}
use Rattle.rules.specs.Samples.{Slice, Equipment, sample_check}
use Rattle.rules.specs.Refusals.{answer_number}
use Rattle.rules.specs.Records.{read_as, turned_away, step_of}
use Rattle.rules.specs.Images.{image_length, image, save_check, saved_into}
use Rattle.rules.specs.Sheets.{SheetReading, read_sheet}
use Rattle.rules.specs.declared.Settings.{Settings}
use Rattle.rules.specs.declared.Board.{Board}
use Rattle.rules.specs.declared.Refusal.TheVariants.{Code}
use Rattle.rules.specs.Answers.{SettingsCheck, SampleCheck, settings_refused}
use Rattle.rules.specs.declared.Stepped.{Stepped}
use Rattle.causes.specs.Calls.{Operations}

-- ---- sham operations: ours, but for the step or the buffer

abbrev sham_step : (Board → Settings → Slice → Stepped) → Operations
sham_step step = record { check = settings_check; sense = sensed; step = step; save = λ b buffer. save_check buffer; buffer = saved_into }

abbrev honest : Equipment → Board → Settings → Slice → Stepped
honest e b st x = step_of e b st x

abbrev is_reported : Stepped → Bool
is_reported t = eqb (answer_number t.answer) 0

-- turns away good samples: those with a code of 4095, the last that has a voltage, are refused with 4, and the record stays as it was lent
unfoldable pub refuses_last_code : Equipment → Operations
refuses_last_code e =
    sham_step (λ b st x. let t = honest e b st x in cond (is_reported t && any (map (eqb last_code) (take 3 x))) (turned_away b Code) t)

-- refuses as it should, and leaves the record as it is read in place of as it was lent (spec 5.5)
unfoldable pub stores_reading : Equipment → Operations
stores_reading e =
    sham_step (λ b st x.
    let t = honest e b st x in
    record { board = cond (is_reported t) t.board (read_as e st b); answer = t.answer })

-- looks at the sample before the settings (spec 4.3)
abbrev unless_refused : Board → SampleCheck → Stepped → Stepped
unless_refused b (Ok ok) t = t
unless_refused b (Err cause) t = turned_away b cause

unfoldable pub sample_first : Equipment → Operations
sample_first e = sham_step (λ b st x. unless_refused b (sample_check x) (honest e b st x))

-- refuses a short buffer, and writes of the image what fits
unfoldable pub writes_what_fits : Equipment → Operations
writes_what_fits e =
    record {
      check = settings_check;
      sense = sensed;
      step = honest e;
      save = λ b buffer. save_check buffer;
      buffer = λ b buffer. take (length buffer) (image b ++ drop image_length buffer);
    }

-- ---- sham readings of sheets

abbrev one_before : SettingsCheck → SettingsCheck
one_before (Ok ok) = Ok tt
one_before (Err away) = settings_refused away.cause (away.line - 1)

-- refuses as it should, and counts the lines from 0
unfoldable pub lines_from_zero : List ℕ → SheetReading
lines_from_zero s = record { check = one_before (read_sheet s).check; settings = (read_sheet s).settings; start = (read_sheet s).start }

-- hands back all that follows from the refused line on, not that line alone
unfoldable pub hands_rest : List ℕ → List ℕ
hands_rest s = drop (read_sheet s).start s
