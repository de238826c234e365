-- Each sham of demand 1 is caught, by one call or one text.
-- Assumes nothing.
use Rattle.std.specs.Prelude.{Ok}
use mathlib.Core.Path.{◌≡◌, refl, ap}
use mathlib.Core.List.{List, [], ◌∷◌}
use Prim.Native.Nat.{ℕ}
use native.Mathlib.Omega.{arith}
use lib.Dec.{lit<}
use lib.IntN.{pos}
use lib.ListN.{length, get_or, replicate}
use Rattle.rules.specs.Tests.{any}
use Rattle.rules.specs.Text.{first_line, has_feed}
use Rattle.rules.specs.Forms.{sheet_forms, numbers_of}
use Rattle.rules.specs.Settings.{rows}
use Rattle.rules.specs.Images.{number_bytes, field_bytes, image_fields, image, save_check}
use Rattle.rules.specs.Records.{fresh, read_as, step_of}
use Rattle.rules.specs.Sheets.{SheetReading, read_from, read_sheet}
use Rattle.rules.specs.declared.Settings.{Settings}
use Rattle.rules.specs.declared.Board.{Board}
use Rattle.rules.specs.declared.Refusal.TheVariants.{Range}
use Rattle.rules.specs.Answers.{settings_refused}
use Rattle.formats.specs.Sheets.{written_sheet}
use Rattle.causes.specs.FirstCause.{RefusesRightly}
use Rattle.causes.specs.SheetCauses.{FirstCauseAt, SheetsRefusedRightly}
use Rattle.laws.proofs.SheetCauses.{sheets-refused-rightly}
use Rattle.equipment.specs.ExampleSheets.{example_sheet}
use Rattle.shams.specs.Shams.{refuses_no_wait}
use Rattle.shams.specs.ShamRefusals.{refuses_last_code, stores_reading, sample_first, writes_what_fits, lines_from_zero, hands_rest}
use Rattle.shams.proofs.Opened.{check_opened}
use Rattle.equipment.proofs.Examples.{tabled}
use Rattle.shams.proofs.ShamReadings.{quick-read}

abbrev quick : Settings
quick = example_sheet 0

-- ---- operations

-- code 4095 has a voltage: ours answers with a report
pub last-code : ¬ RefusesRightly (refuses_last_code tabled)
unfolding refuses_last_code any step_of check_opened
last-code d =
    let e : ◌≡◌ {A = ℕ} 4 0 = d.step fresh quick (4095 ∷ 1000 ∷ 1000 ∷ 60000 ∷ 1 ∷ 10000 ∷ 10000 ∷ []) in
    omega arith

-- a record with a status that has no name, and a slice of no numbers
abbrev nameless : Board
nameless = record { status = 6; counters = replicate 9 0; ramp = 0; watts = 0; vars = pos 0; recovery = 40; side = 0; held = 0 }

pub reading-stored : ¬ RefusesRightly (stores_reading tabled)
unfolding stores_reading step_of read_as check_opened
reading-stored d =
    let e : ◌≡◌ {A = ℕ} 0 6 = ap (λ (b : Board). b.status) (d.step_keeps nameless quick [] (lit< tt)) in
    omega arith

-- a wait of 60001 is refused with 2, whatever the slice is
pub sample-first : ¬ RefusesRightly (sample_first tabled)
unfolding sample_first step_of check_opened
sample-first d =
    let e : ◌≡◌ {A = ℕ} 8 2 = d.step fresh (example_sheet 60001) [] in
    omega arith

-- a buffer of one byte
pub written-short : ¬ RefusesRightly (writes_what_fits tabled)
unfolding writes_what_fits image image_fields field_bytes number_bytes save_check
written-short d =
    let e : ◌≡◌ {A = ℕ} 6 0 = ap (λ (bytes : List ℕ). get_or bytes 0 0) (d.save-keeps nameless (0 ∷ []) (lit< tt)) in
    omega arith

-- ---- readings, whatever is handed back

module _ (handed : List ℕ → List ℕ) where
  -- the sheet of spec 10.11 has a wait of 0, and no line with a cause
  pub good-sheet : ¬ SheetsRefusedRightly refuses_no_wait handed
  unfolding refuses_no_wait
  good-sheet d =
      let s = written_sheet quick in
      let clear = (sheets-refused-rightly.accepts s).0 (ap (λ (r : SheetReading). r.check) quick-read) in
      let check : settings_refused Range 11 ≡ Ok tt = rw quick-read at ((d.accepts s).1 clear) in
      let z : ◌≡◌ {A = ℕ} 0 1 = cc in
      omega arith

-- an empty text has no first line
first-missing : FirstCauseAt [] 0 1
unfolding read_sheet read_from rows sheet_forms has_feed
first-missing = (sheets-refused-rightly.refuses [] 0 1 (lit< tt)).0 (refl, refl)

pub from_zero : (handed : List ℕ → List ℕ) → ¬ SheetsRefusedRightly lines_from_zero handed
unfolding lines_from_zero read_sheet read_from rows sheet_forms has_feed
from_zero handed d =
    let e : ◌≡◌ {A = ℕ} 0 1 = ((d.refuses [] 0 1 (lit< tt)).1 first-missing).1 in
    omega arith

-- ---- what is handed back

-- a text of one empty line: the part is that line, without its line feed
first-empty : FirstCauseAt (10 ∷ []) 0 1
unfolding read_sheet read_from rows sheet_forms has_feed first_line numbers_of
first-empty = (sheets-refused-rightly.refuses (10 ∷ []) 0 1 (lit< tt)).0 (refl, refl)

pub rest-handed : ¬ SheetsRefusedRightly read_sheet hands_rest
unfolding hands_rest read_sheet read_from rows sheet_forms has_feed first_line numbers_of
rest-handed d =
    let e : ◌≡◌ {A = ℕ} 1 0 = ap length (d.back (10 ∷ []) 0 1 (lit< tt) first-empty) in
    omega arith
