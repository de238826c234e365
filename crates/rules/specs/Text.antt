-- Spec 3.1, 3.4, 10.4: bytes of text, numbers, and lines.
-- Assumes nothing.
use Rattle.std.specs.Prelude.{Bool, false, cond, not, ◌&&◌, ◌||◌, List, [], ◌∷◌, ℕ, zero, suc, ◌+◌, ◌-◌, ◌*◌, ◌/◌, ◌%◌, ltb, eqb, ℤ, pos, negsuc, length, get_or}
use Rattle.std.proofs.Math.Option.{Option, none, some}
use Prim.Native.Char.{code}
use Prim.Native.String as string
use Prim.Native.String.{String}
use Rattle.rules.specs.Tests.{within}

-- the bytes of a plain text
abbrev pub bytes : String → List ℕ
bytes string.[] = []
bytes (string.◌∷◌ c s) = code c ∷ bytes s

abbrev pub feed : ℕ
feed = 10

abbrev pub minus : ℕ
minus = 45

-- ---- numbers written: spec 10.4

-- the last digit of n, after the digits of n / 10; k digits at the most
unfoldable pub digits_before : ℕ → ℕ → List ℕ → List ℕ
digits_before zero n after = after
digits_before (suc k) n after = cond (ltb n 10) ((48 + n) ∷ after) (digits_before k (n / 10) ((48 + n % 10) ∷ after))

-- 20 digits write every number of 64 bits
unfoldable pub decimal : ℕ → List ℕ
decimal n = digits_before 20 n []

unfoldable pub signed_decimal : ℤ → List ℕ
signed_decimal (pos n) = decimal n
signed_decimal (negsuc n) = minus ∷ decimal (suc n)

-- ---- numbers read: spec 3.4

abbrev pub is_digit : ℕ → Bool
is_digit b = within 48 57 b

-- the digits that a text begins with, and what follows them
unfoldable pub leading_digits : List ℕ → List ℕ
leading_digits [] = []
leading_digits (b ∷ s) = cond (is_digit b) (b ∷ leading_digits s) []

unfoldable pub after_digits : List ℕ → List ℕ
after_digits [] = []
after_digits (b ∷ s) = cond (is_digit b) (after_digits s) (b ∷ s)

-- the value of digits that follow those of v
unfoldable pub value_after : ℕ → List ℕ → ℕ
value_after v [] = v
value_after v (b ∷ ds) = value_after (v * 10 + (b - 48)) ds

unfoldable pub well_formed : List ℕ → Bool
well_formed ds = within 1 6 (length ds) && (eqb (length ds) 1 || not (eqb (get_or ds 0 0) 48))

-- a number and the text after it
pub record Taken : Type 0 where
  pub value : ℤ
  pub rest : List ℕ

unfoldable pub take_number : List ℕ → Option Taken
take_number s =
    cond (well_formed (leading_digits s)) (some (record { value = pos (value_after 0 (leading_digits s)); rest = after_digits s })) none

-- spec 3.4: a number with a minus before it; `0` has none
abbrev pub negated : Option Taken → Option Taken
negated none = none
negated (some t) = elim t.value [ pos zero ↦ none | pos (suc n) ↦ some (record { value = negsuc n; rest = t.rest }) | negsuc n ↦ none ]

unfoldable pub take_signed : List ℕ → Option Taken
take_signed [] = none
take_signed (b ∷ s) = cond (eqb b minus) (negated (take_number s)) (take_number (b ∷ s))

-- ---- lines: spec 3.1, a line feed ends a line and nothing else does

-- the line that a text begins with, without its line feed
unfoldable pub first_line : List ℕ → List ℕ
first_line [] = []
first_line (b ∷ s) = cond (eqb b feed) [] (b ∷ first_line s)

-- the line is ended
unfoldable pub has_feed : List ℕ → Bool
has_feed [] = false
has_feed (b ∷ s) = eqb b feed || has_feed s

-- what follows the first line and its line feed
unfoldable pub after_line : List ℕ → List ℕ
after_line [] = []
after_line (b ∷ s) = cond (eqb b feed) s (after_line s)
