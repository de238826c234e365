-- What is printed for an input, its sheet accepted or refused; and which lines have a sample.
-- Assumes nothing.
use Rattle.std.specs.Prelude.{Ok, Err}
use mathlib.Core.Path.{◌≡◌, refl, sym, ap, ◌∙◌}
use mathlib.Core.Bool.{true}
use mathlib.Core.List.{List, map}
use mathlib.Core.Logic.{◌↔◌}
use mathlib.Core.Option.{Option, none, some, none-ne-some, some-injective}
use Prim.Native.Nat.{ℕ}
use lib.IntN.{ℤ, nat_abs}
use lib.ListN.{drop}
use Rattle.rules.specs.Forms.{sample_form, numbers_of}
use Rattle.rules.specs.Samples.{Slice, Equipment}
use Rattle.rules.specs.Refusals.{refusal_number}
use Rattle.rules.specs.Sheets.{read_sheet, part_of, handed_back}
use Rattle.rules.specs.Transcripts.{Line, ended, unended, lines_in, refused_line, answers_to, on_sheet_by, transcript_of_by, transcript_of, transcript_by, transcript}
use Rattle.rules.specs.declared.Refusal.{Refusal}
use Rattle.rules.specs.Answers.{SettingsCheck, settings_refused}
use Rattle.formats.specs.Samples.{writable, written_sample}
use Rattle.formats.proofs.Sheets.{sheet-written-out}
use Rattle.formats.proofs.Samples.{sample-read, sample-written}
use Rattle.formats.proofs.SampleLines.{numbers-same}
use Rattle.claims.specs.Sound.{Sound}
use Rattle.claims.specs.Printed.{as_slice, sample_on, Printed, read_part, PrintsByHistory}
use Rattle.theorems.proofs.Printed.{lines-printed, one-printed}

-- ---- the transcript

module _ (e : Equipment) (s : List ℕ) (a : (read_sheet s).check ≡ Ok tt) where
  rest-is : handed_back s ≡ drop (read_sheet s).start s
  unfolding handed_back
  rest-is = ap (λ (c : SettingsCheck). part_of c (drop (read_sheet s).start s)) a

  answers-are : transcript_of e s ≡ answers_to e (read_sheet s).settings (lines_in (handed_back s))
  unfolding transcript_of_by
  answers-are =
      ap (λ (c : SettingsCheck). on_sheet_by (answers_to e) (read_sheet s) c s) a
      ∙ ap (λ (t : List ℕ). answers_to e (read_sheet s).settings (lines_in t)) (sym rest-is)

  text-printed : Sound e → Printed e (read_sheet s).settings (lines_in (handed_back s)) (transcript_of e s)
  text-printed sound = rw answers-are (lines-printed e (read_sheet s).settings (sheet-written-out s a).accepted (lines_in (handed_back s)) sound)

refusal-printed : (e : Equipment) (s : List ℕ) (why : Refusal) (line : ℕ) → (read_sheet s).check ≡ settings_refused why line
    → transcript_of e s ≡ refused_line (refusal_number why) line
unfolding transcript_of_by
refusal-printed e s why line r = ap (λ (c : SettingsCheck). on_sheet_by (answers_to e) (read_sheet s) c s) r

pub prints-by-history : (e : Equipment) → Sound e → PrintsByHistory e (transcript e)
unfolding transcript_by
prints-by-history e sound =
    record {
      sheet-refused = λ input why line r. refusal-printed e (read_part input) why line r;
      sheet-accepted = λ input a. text-printed e (read_part input) a sound;
    }

pub one-printing : (e : Equipment) → Sound e → (print : List ℕ → List ℕ) → PrintsByHistory e print → (input : List ℕ) → print input ≡ transcript e input
one-printing e sound print p input = by (read_sheet (read_part input)).check refl
  where
    ours : PrintsByHistory e (transcript e)
    ours = prints-by-history e sound

    by : (c : SettingsCheck) → (read_sheet (read_part input)).check ≡ c → print input ≡ transcript e input
    by (Ok ok) a = one-printed e _ _ (print input) (transcript e input) (p.sheet-accepted input a) (ours.sheet-accepted input a)
    by (Err away) r = p.sheet-refused input away.cause away.line r ∙ sym (ours.sheet-refused input away.cause away.line r)

-- ---- the sample on a line

sample-there : (l : Line) (x : Slice) → sample_on l ≡ some x → (writable x ≡ true) × (l ≡ ended (written_sample x))
sample-there (unended s) x p = absurd (none-ne-some x p)
sample-there (ended s) x p = by (numbers_of sample_form s) refl p
  where
    by : (o : Option (List ℤ)) → numbers_of sample_form s ≡ o → as_slice o ≡ some x → (writable x ≡ true) × (ended s ≡ ended (written_sample x))
    by none q p = absurd (none-ne-some x p)
    by (some ns) q p =
        let w = sample-written s ns q in
        let is : w.sample ≡ x = sym (numbers-same w.sample) ∙ ap (map nat_abs) (sym w.numbers) ∙ some-injective (map nat_abs ns) x p in
        (ap writable (sym is) ∙ w.can, ap ended (w.text ∙ ap written_sample is))

there-sample : (l : Line) (x : Slice) → (writable x ≡ true) × (l ≡ ended (written_sample x)) → sample_on l ≡ some x
there-sample l x p = ap sample_on p.1 ∙ ap as_slice (sample-read x p.0) ∙ ap some (numbers-same x)

pub samples-on-lines : (l : Line) (x : Slice) → (sample_on l ≡ some x) ↔ ((writable x ≡ true) × (l ≡ ended (written_sample x)))
samples-on-lines l x = (sample-there l x, there-sample l x)
