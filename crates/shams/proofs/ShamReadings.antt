-- Each sham reading of sheets is caught: one sheet that it should take and does not, one text that it should not take and does.
-- Assumes nothing.
use Rattle.std.specs.Prelude.{Ok}
use mathlib.Core.Path.{◌≡◌, refl, sym, ap, ◌∙◌}
use mathlib.Core.Bool.{true}
use mathlib.Core.List.{List, [], ◌∷◌, ◌++◌, append-nil}
use Prim.Native.Nat.{ℕ, ◌-◌}
use native.Mathlib.Omega.{arith}
use lib.ListN.{length, drop, take, length-append}
use Rattle.rules.specs.Text.{feed, decimal, signed_decimal, digits_before}
use Rattle.rules.specs.Forms.{sheet_forms}
use Rattle.rules.specs.Settings.{lines_of, settings_accepted}
use Rattle.rules.specs.Sheets.{SheetReading, refused_at, read_sheet}
use Rattle.rules.specs.declared.Settings.{Settings}
use Rattle.rules.specs.declared.Refusal.TheVariants.{Range}
use Rattle.rules.specs.Answers.{settings_refused}
use Rattle.formats.specs.Marks.{filled_in}
use Rattle.formats.specs.Sheets.{written_lines, written_sheet, Complete, ReadsSheetsBack, AcceptsSheetsOnly}
use Rattle.formats.proofs.Sheets.{sheet-read-back}
use Rattle.equipment.specs.ExampleSheets.{example_sheet}
use Rattle.shams.proofs.Opened.{check_opened}
use Rattle.shams.specs.Shams.{refuses_no_wait, takes_unended}

abbrev pub quick : Settings
quick = example_sheet 0

complete : Complete quick
complete = record { limits = refl; var_points = refl; watt_points = refl }

accepted : settings_accepted quick ≡ true
unfolding check_opened
accepted = refl

abbrev pub reading : SheetReading
reading = record { check = Ok tt; settings = quick; start = length (written_sheet quick) }

pub quick-read : read_sheet (written_sheet quick) ≡ reading
quick-read = ap read_sheet (sym (append-nil (written_sheet quick))) ∙ sheet-read-back quick [] complete accepted

-- the example of spec 10.11 has a wait of 0
pub turned-away : ¬ ReadsSheetsBack refuses_no_wait
unfolding refuses_no_wait
turned-away d =
    let e : refused_at Range 11 0 ≡ reading = rw (append-nil (written_sheet quick), quick-read) at (d quick [] complete accepted) in
    let check : settings_refused Range 11 ≡ Ok tt = ap (λ (r : SheetReading). r.check) e in
    let z : ◌≡◌ {A = ℕ} 0 1 = cc in
    omega arith

-- its sheet without the last byte, a line feed
abbrev short : List ℕ
short = take (length (written_sheet quick) - 1) (written_sheet quick)

ended : short ++ (feed ∷ []) ≡ written_sheet quick
unfolding written_sheet written_lines filled_in sheet_forms lines_of signed_decimal decimal digits_before
ended = refl

pub let-in : ¬ AcceptsSheetsOnly takes_unended
unfolding takes_unended
let-in d =
    let read : read_sheet (short ++ (feed ∷ [])) ≡ reading = ap read_sheet ended ∙ quick-read in
    let b = d short (ap (λ (r : SheetReading). r.check) read) in
    let text : short ≡ written_sheet quick ++ drop (length (written_sheet quick)) short = rw read at b.text in
    let rest = drop (length (written_sheet quick)) short in
    omega (arith, ap length text ∙ length-append (written_sheet quick) rest, sym (length-append short (feed ∷ [])) ∙ ap length ended)
