-- Each sham printing is caught, by an input of two empty lines: its first line is refused with 1.
-- Assumes nothing.
use mathlib.Core.Path.{◌≡◌, refl, ap}
use mathlib.Core.List.{List, [], ◌∷◌}
use Prim.Native.Nat.{ℕ}
use native.Mathlib.Omega.{arith}
use lib.ListN.{length}
use Rattle.rules.specs.Text.{decimal, signed_decimal, digits_before, first_line, has_feed, after_line}
use Rattle.rules.specs.Forms.{sheet_forms, sample_form, numbers_of}
use Rattle.rules.specs.Settings.{rows}
use Rattle.rules.specs.Sheets.{read_from, read_sheet}
use Rattle.rules.specs.Transcripts.{spaced, spaced_numbers, refused_line, lines_after, lines_in, line_step, answers_from}
use Rattle.rules.specs.Transcripts.{transcript_of_by, transcript_of, transcript_by, transcript}
use Rattle.rules.specs.declared.Refusal.TheVariants.{Form}
use Rattle.claims.specs.Printed.{PrintsByHistory}
use Rattle.equipment.proofs.Examples.{tabled}
use Rattle.shams.specs.Shams.{going_on, says_nothing}

abbrev two_empty : List ℕ
two_empty = 10 ∷ 10 ∷ []

-- `(refused 8 2)` and its line feed are 14 bytes more
pub no_more : ¬ PrintsByHistory tabled (going_on tabled)
unfolding going_on transcript_by transcript_of_by answers_from line_step lines_in lines_after after_line refused_line spaced_numbers spaced signed_decimal decimal digits_before read_sheet read_from rows sheet_forms sample_form has_feed first_line numbers_of
no_more d =
    let e : ◌≡◌ {A = ℕ} 28 14 = ap length (d.sheet-refused two_empty Form 1 refl) in
    omega arith

pub not-nothing : ¬ PrintsByHistory tabled (says_nothing tabled)
unfolding says_nothing refused_line spaced_numbers spaced signed_decimal decimal digits_before read_sheet read_from rows sheet_forms has_feed first_line numbers_of
not-nothing d =
    let e : ◌≡◌ {A = ℕ} 0 14 = ap length (d.sheet-refused two_empty Form 1 refl) in
    omega arith
