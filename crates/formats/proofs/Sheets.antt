-- What a sheet is, without a parser: settings that 2 and 3 pass are read back from their writing-out, whatever follows it, and every
-- text that is accepted begins with such a writing-out.
-- Assumes nothing.
use Rattle.std.specs.Prelude.{Ok, Err}
use mathlib.Core.Path.{◌≡◌, refl, sym, ap, ap₂, ◌∙◌, subst}
use mathlib.Core.Bool.{true, false≢true}
use mathlib.Core.List.{List, [], map}
use Prim.Native.Nat.{ℕ}
use native.Mathlib.Nat.{zero-add}
use lib.ListN.{length, drop, length-map}
use lib.Seq.{drop-append_seam}
use Rattle.rules.specs.Tests.{all, within}
use Rattle.rules.specs.Text.{decimal, signed_decimal, digits_before, leading_digits, after_digits, value_after, well_formed, take_number, take_signed, first_line}
use Rattle.rules.specs.Text.{has_feed, after_line}
use Rattle.rules.specs.Forms.{sheet_forms, numbers_of}
use Rattle.rules.specs.Settings.{rows, in_row, rising, point_pair, lines_of, settings_check, settings_passed, settings_accepted}
use Rattle.rules.specs.Sheets.{settings_of, SheetReading, read_from, read_sheet}
use Rattle.rules.specs.Defaults.{default_sheet, default_settings}
use Rattle.rules.specs.declared.Settings.{Settings}
use Rattle.rules.specs.Answers.{SettingsCheck}
use Rattle.formats.specs.Marks.{marks, filled_in}
use Rattle.formats.specs.Sheets.{written_lines, written_sheet, Complete, BeginsWithSheet, ReadsSheetsBack, AcceptsSheetsOnly, AcceptAlike}
use Rattle.formats.proofs.Forms.{separated}
use Rattle.formats.proofs.Rows.{ends_fit, two-each}
use Rattle.formats.proofs.Lines.{GoodLines, agree, accepting, amount, good-checked, checked-good, good-read, Begun, accepted-begun}
use Rattle.formats.proofs.Settings.{settings-back, lines-complete, lines-back}

rows_agree : agree rows sheet_forms ≡ true
unfolding agree rows sheet_forms has_feed separated within ends_fit
rows_agree = refl

was-accepted : (c : SettingsCheck) → settings_passed c ≡ true → c ≡ Ok tt
was-accepted (Ok ok) e = refl
was-accepted (Err away) e = absurd (false≢true e)

-- ---- written out and read back

amounts : (st : Settings) → Complete st → map amount (lines_of st) ≡ map marks sheet_forms
unfolding lines_of sheet_forms marks
amounts st c =
    rw (
      two-each (map point_pair st.var),
      length-map st.var point_pair,
      c.var_points,
      two-each (map point_pair st.watt),
      length-map st.watt point_pair,
      c.watt_points,
    )

good-lines : (st : Settings) → Complete st → settings_accepted st ≡ true → GoodLines rows sheet_forms (lines_of st)
unfolding settings_check
good-lines st c e = checked-good 1 rows sheet_forms (lines_of st) rows_agree (amounts st c) (was-accepted (settings_check st) e)

pub sheet-read-back : ReadsSheetsBack read_sheet
unfolding read_sheet written_sheet
sheet-read-back st after c e =
    good-read rows_agree (good-lines st c e) 1 0 [] after
    ∙ ap₂ (λ (settings : Settings) (start : ℕ). record { check = Ok tt; settings = settings; start = start }) (settings-back st c) (zero-add _)

-- ---- accepted, so written out

-- what is read from good lines, whatever follows them
module _ (s : List ℕ) (b : Begun rows sheet_forms s) where
  reading : read_sheet s ≡ accepting b.lines (length (written_lines sheet_forms b.lines))
  unfolding read_sheet
  reading = ap read_sheet b.text ∙ good-read rows_agree b.good 1 0 [] b.rest ∙ ap (accepting b.lines) (zero-add _)

  begins-with : BeginsWithSheet s (accepting b.lines (length (written_lines sheet_forms b.lines)))
  unfolding written_sheet settings_check
  begins-with =
      let same = lines-back b.lines b.good in
      let sheet = written_lines sheet_forms b.lines in
      let rest : drop (length sheet) s ≡ b.rest = ap (drop (length sheet)) b.text ∙ drop-append_seam sheet b.rest in
      record {
        complete = lines-complete b.lines;
        accepted = rw same (ap settings_passed (good-checked b.good 1));
        start = rw same;
        text = rw (same, rest) b.text;
      }

pub sheet-written-out : AcceptsSheetsOnly read_sheet
unfolding read_sheet
sheet-written-out s e =
    let b = accepted-begun rows sheet_forms rows_agree 1 0 [] s e in
    subst (BeginsWithSheet s) (sym (reading s b)) (begins-with s b)

-- ---- the two together leave no choice

module _ (f g : List ℕ → SheetReading) (back : ReadsSheetsBack g) (out : AcceptsSheetsOnly f) (s : List ℕ) where
  accepted-same : (f s).check ≡ Ok tt → f s ≡ g s
  accepted-same e =
      let b = out s e in
      let st = (f s).settings in
      let left : f s ≡ record { check = Ok tt; settings = st; start = length (written_sheet st) }
      = ap₂ (λ (check : SettingsCheck) (start : ℕ). record { check = check; settings = st; start = start }) e b.start in
      left ∙ sym (ap g b.text ∙ back st (drop (f s).start s) b.complete b.accepted)

pub one-reading : (read : List ℕ → SheetReading) → ReadsSheetsBack read → AcceptsSheetsOnly read → (s : List ℕ) → AcceptAlike (read s) (read_sheet s)
one-reading read back out s =
    let there = accepted-same read read_sheet sheet-read-back out s in
    let again = accepted-same read_sheet read back sheet-written-out s in
    record {
      both = (λ e. sym (ap (λ (r : SheetReading). r.check) (there e)) ∙ e, λ e. sym (ap (λ (r : SheetReading). r.check) (again e)) ∙ e);
      same = there;
    }

-- ---- the default sheet

pub default-written : written_sheet default_settings ≡ default_sheet
unfolding written_sheet written_lines filled_in default_settings default_sheet sheet_forms lines_of settings_of read_sheet read_from numbers_of take_number take_signed leading_digits after_digits value_after well_formed within first_line has_feed after_line rows in_row rising all decimal signed_decimal digits_before
default-written = refl
