-- Spec 3.4, 10.2: what the fast reader finds of a sample line's fields, against the rules' reading of the text.
-- Assumes nothing.
use Rattle.std.specs.Prelude.{◌≡◌, cond, ◌||◌, List, [], ◌∷◌, ℕ, ◌+◌, ◌≤◌, ◌<◌, eqb, pos, drop}
use Rattle.std.proofs.Math.Option.{some}
use Rattle.rules.specs.Text.{take_number}
use Rattle.rules.specs.Forms.{number_mark, sample_form}
use Rattle.numerals.specs.Places.{DigitsAt}
use Rattle.matching.specs.Forms.{after, take_form}
use Rattle.fastfields.specs.declared.Found.{Found}

-- one to six digits
pub record FastDigits (s : List ℕ) (at : ℕ) (r : Found) : Type 0 where
  pub any : at < r.next
  pub few : r.next ≤ at + 6
  pub digits : DigitsAt s at (record { value = r.value; next = r.next })

-- the number that the rules take
pub record FastNumber (s : List ℕ) (at : ℕ) (r : Found) : Type 0 where
  pub few : r.next ≤ at + 6
  pub same : take_number (drop at s) ≡ some (record { value = pos r.value; rest = drop r.next s })

-- a number and the byte that closes it, with any form after them
pub record FastField (s : List ℕ) (at close : ℕ) (r : Found) : Type 0 where
  pub few : r.next ≤ at + 7
  pub same : (form : List ℕ) → take_form (number_mark ∷ close ∷ form) (drop at s) ≡ after (pos r.value ∷ []) (take_form form (drop r.next s))

-- the bytes of the sample form before its first number
abbrev pub HeadTaken : List ℕ → ℕ → Type 0
HeadTaken s at = take_form sample_form (drop at s) ≡ take_form (drop 5 sample_form) (drop (at + 5) s)

-- the byte after number k of the sample form
abbrev pub closing_byte : ℕ → ℕ
closing_byte k = cond (eqb k 2 || eqb k 6) 41 32
