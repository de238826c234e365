-- Each sham reading of lines and each sham answer to sample lines is caught, by one line.
-- Assumes nothing.
use mathlib.Core.Path.{◌≡◌, refl, sym, ap, ◌∙◌}
use mathlib.Core.Bool.{true}
use mathlib.Core.List.{List, [], ◌∷◌, ◌++◌}
use mathlib.Core.Option.{none, none-ne-some}
use Prim.Native.Nat.{ℕ}
use native.Mathlib.Omega.{arith}
use lib.IntN.{ℤ, pos}
use Rattle.rules.specs.Tests.{all, within}
use Rattle.rules.specs.Text.{decimal, signed_decimal, digits_before, leading_digits, after_digits, value_after, well_formed}
use Rattle.rules.specs.Text.{take_number, take_signed}
use Rattle.rules.specs.Forms.{sheet_forms, sample_form, numbers_of}
use Rattle.rules.specs.Samples.{Slice}
use Rattle.rules.specs.Records.{fresh, turned_away}
use Rattle.rules.specs.Transcripts.{Line, ended, unended, line_step}
use Rattle.rules.specs.declared.Refusal.TheVariants.{Sample}
use Rattle.formats.specs.Marks.{filled_in, suits, forms, form_at, ReadsForms}
use Rattle.formats.specs.Samples.{writable, written_sample, IsSampleLine, AnswersSamples}
use Rattle.formats.proofs.Samples.{sample-read}
use Rattle.formats.proofs.SampleLines.{samples-answered}
use Rattle.equipment.specs.ExampleSheets.{example_sheet}
use Rattle.equipment.proofs.Examples.{tabled}
use Rattle.shams.specs.Shams.{large_no_number, steps_unended, without_return, steps_past_return}

-- ---- a clearing time of 100001, outside its row, is a number

abbrev outside : List ℤ
outside = pos 12000 ∷ pos 100001 ∷ []

suited : suits (form_at 3) outside ≡ true
unfolding suits forms sheet_forms
suited = refl

missed : large_no_number (form_at 3) (filled_in (form_at 3) outside) ≡ none
unfolding large_no_number numbers_of take_number take_signed leading_digits after_digits value_after well_formed within all filled_in signed_decimal decimal digits_before forms sheet_forms sample_form
missed = refl

pub no-large : ¬ ReadsForms large_no_number
no-large d = none-ne-some outside (sym missed ∙ (d 3 (omega arith) (filled_in (form_at 3) outside) outside).1 (record { text = refl; suit = suited }))

-- ---- a sample of spec 10.11

abbrev sample : Slice
sample = 1000 ∷ 1000 ∷ 1000 ∷ 60000 ∷ 1 ∷ 10000 ∷ 10000 ∷ []

can : writable sample ≡ true
unfolding all
can = refl

-- its line is no line that we refuse
not-refused : (l : Line) → l ≡ ended (written_sample sample) → ¬ (line_step tabled (example_sheet 0) fresh l ≡ turned_away fresh Sample)
not-refused l e h = (samples-answered.refuses tabled (example_sheet 0) fresh l).0 h (record { sample = sample; can = can; text = e })

-- unended, it is no sample line
is-ended : (s : List ℕ) → ¬ IsSampleLine (unended s)
is-ended s l = let e = l.text in let z : ◌≡◌ {A = ℕ} 0 1 = cc in omega arith

pub no-unended : ¬ AnswersSamples steps_unended
unfolding steps_unended
no-unended a = not-refused (ended (written_sample sample)) refl
    ((a.refuses tabled (example_sheet 0) fresh (unended (written_sample sample))).1 (is-ended (written_sample sample)))

-- with a carriage return, it is none either
abbrev returned : List ℕ
returned = written_sample sample ++ (13 ∷ [])

no-numbers : numbers_of sample_form returned ≡ none
unfolding numbers_of take_number take_signed leading_digits after_digits value_after well_formed within filled_in written_sample signed_decimal decimal digits_before sample_form
no-numbers = refl

no-sample : ¬ IsSampleLine (ended returned)
no-sample l =
    let same : returned ≡ written_sample l.sample = cc l.text in
    none-ne-some _ (sym no-numbers ∙ ap (numbers_of sample_form) same ∙ sample-read l.sample l.can)

dropped : without_return returned ≡ written_sample sample
unfolding without_return filled_in written_sample signed_decimal decimal digits_before sample_form
dropped = refl

pub no_return : ¬ AnswersSamples steps_past_return
unfolding steps_past_return
no_return a = not-refused (ended (without_return returned)) (ap ended dropped) ((a.refuses tabled (example_sheet 0) fresh (ended returned)).1 no-sample)
