-- Spec 3.2, 10.2: the form of each line, by one template matcher for all of them.
-- Assumes nothing.
use Rattle.std.specs.Prelude.{cond, List, [], ◌∷◌, map, ℕ, eqb, ℤ}
use Rattle.std.proofs.Math.Option.{Option, none, some}
use Rattle.rules.specs.Text.{bytes, Taken, take_number, take_signed}

-- spec 3.2: in a form `#` stands for a number, `~` for one that may have a minus, and any other byte for itself
abbrev pub number_mark : ℕ
number_mark = 35

abbrev pub signed_mark : ℕ
signed_mark = 126

-- spec 3.2: the sheet's lines, in order
unfoldable pub sheet_forms : List (List ℕ)
sheet_forms =
    map bytes
    ("(trip (uv1 # #))"
    ∷ "(trip (uv2 # #))"
    ∷ "(trip (ov1 # #))"
    ∷ "(trip (ov2 # #))"
    ∷ "(trip (uf1 # #))"
    ∷ "(trip (uf2 # #))"
    ∷ "(trip (of1 # #))"
    ∷ "(trip (of2 # #))"
    ∷ "(enter (volts # #))"
    ∷ "(enter (hertz # #))"
    ∷ "(enter (wait # #))"
    ∷ "(var (# ~) (# ~) (# ~) (# ~))"
    ∷ "(watt (# #) (# #))"
    ∷ [])

-- spec 10.2: codes, frequency, permission, available power, operator's limit
unfoldable pub sample_form : List ℕ
sample_form = bytes "(at (# # #) # # # #)"

-- one number more before those that the rest of the line gives
abbrev pub and_then : ℤ → Option (List ℤ) → Option (List ℤ)
and_then n none = none
and_then n (some ns) = some (n ∷ ns)

abbrev pub on_taken : Option Taken → (List ℕ → Option (List ℤ)) → Option (List ℤ)
on_taken none rest = none
on_taken (some t) rest = and_then t.value (rest t.rest)

abbrev pub on_byte : ℕ → List ℕ → (List ℕ → Option (List ℤ)) → Option (List ℤ)
on_byte mark [] rest = none
on_byte mark (b ∷ s) rest = cond (eqb b mark) (rest s) none

-- the numbers of a line that has the form, whole
unfoldable pub numbers_of : List ℕ → List ℕ → Option (List ℤ)
numbers_of [] [] = some []
numbers_of [] (b ∷ s) = none
numbers_of (mark ∷ form) s =
    cond (eqb mark number_mark) (on_taken (take_number s) (numbers_of form))
    (cond (eqb mark signed_mark) (on_taken (take_signed s) (numbers_of form))
    (on_byte mark s (numbers_of form)))
