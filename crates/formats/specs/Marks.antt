-- Spec 3.2, 3.4: a form's marks, the numbers that they stand for, a line written out, and what a line
-- of a form is.
-- Assumes nothing.
use Rattle.std.specs.Prelude.{◌≡◌, Bool, true, false, cond, ◌&&◌, ◌||◌, List, [], ◌∷◌, ◌++◌, ◌↔◌, ℕ, suc, ◌<◌, eqb, leb, ℤ, pos, negsuc, get_or}
use Rattle.std.proofs.Math.Option.{Option, some}
use Rattle.rules.specs.Text.{Taken, take_number, take_signed, signed_decimal}
use Rattle.rules.specs.Forms.{number_mark, signed_mark, sheet_forms, sample_form}

-- a byte of a form that stands for a number
abbrev pub is_mark : ℕ → Bool
is_mark mark = eqb mark number_mark || eqb mark signed_mark

-- how many numbers a form has
unfoldable pub marks : List ℕ → ℕ
marks [] = 0
marks (mark ∷ form) = cond (is_mark mark) (suc (marks form)) (marks form)

-- the number that a text begins with, by its mark
abbrev pub take_marked : ℕ → List ℕ → Option Taken
take_marked mark s = cond (eqb mark number_mark) (take_number s) (take_signed s)

-- ---- writing

abbrev pub number_then : List ℤ → (List ℤ → List ℕ) → List ℕ
number_then [] rest = rest []
number_then (n ∷ ns) rest = signed_decimal n ++ rest ns

-- a form with its numbers in the places of its marks
unfoldable pub filled_in : List ℕ → List ℤ → List ℕ
filled_in [] ns = []
filled_in (mark ∷ form) ns = cond (is_mark mark) (number_then ns (filled_in form)) (mark ∷ filled_in form ns)

-- ---- the numbers that can be written: at most six digits, and a minus only where the mark allows one

abbrev pub fits : ℕ → ℤ → Bool
fits mark (pos n) = leb n 999999
fits mark (negsuc n) = eqb mark signed_mark && leb (suc n) 999999

abbrev pub fits_then : ℕ → List ℤ → (List ℤ → Bool) → Bool
fits_then mark [] rest = false
fits_then mark (n ∷ ns) rest = fits mark n && rest ns

-- a number for each mark, and each fits
unfoldable pub suits : List ℕ → List ℤ → Bool
suits [] [] = true
suits [] (n ∷ ns) = false
suits (mark ∷ form) ns = cond (is_mark mark) (fits_then mark ns (suits form)) (suits form ns)

-- ---- a line of a form, without a parser

-- the line is the form with numbers that suit it in the places of its marks
pub record IsLine (form line : List ℕ) (ns : List ℤ) : Type 0 where
  pub text : line ≡ filled_in form ns
  pub suit : suits form ns ≡ true

-- the fourteen forms: the sheet's thirteen, and the sample's
unfoldable pub forms : List (List ℕ)
forms = sheet_forms ++ (sample_form ∷ [])

-- a form by its number: the sheet's lines from 0, then the sample line
abbrev pub form_at : ℕ → List ℕ
form_at i = get_or forms i []

-- what is asked of a reading of lines by their forms: it finds numbers exactly in the lines that are the form with these numbers
abbrev pub ReadsForms : (List ℕ → List ℕ → Option (List ℤ)) → Type 0
ReadsForms read = (i : ℕ) → i < 14 → (line : List ℕ) (ns : List ℤ) → (read (form_at i) line ≡ some ns) ↔ IsLine (form_at i) line ns
