-- Spec 9: the 49 bytes of a record, high byte first, and the saving.
-- Assumes nothing.
use Rattle.std.specs.Prelude.{cond, List, [], ◌∷◌, ◌++◌, map, ℕ, zero, suc, ◌-◌, ◌/◌, ◌%◌, leb, ℤ, pos, negsuc, length, drop, Ok, Err}
use Rattle.rules.specs.declared.Board.{Board}
use Rattle.rules.specs.declared.Refusal.TheVariants.{Buffer}
use Rattle.rules.specs.Answers.{Saved}

-- a number in so many bytes, high byte first
unfoldable pub number_bytes : ℕ → ℕ → List ℕ
number_bytes zero n = []
number_bytes (suc k) n = number_bytes k (n / 256) ++ ((n % 256) ∷ [])

-- a field of the image: its width in bytes, and the number that stands there
pub record Field : Type 0 where
  pub width : ℕ
  pub value : ℕ

abbrev pub field : ℕ → ℕ → Field
field width value = record { width = width; value = value }

-- the fields one after the other
unfoldable pub field_bytes : List Field → List ℕ
field_bytes [] = []
field_bytes (f ∷ fs) = number_bytes f.width f.value ++ field_bytes fs

-- two's complement in 16 bits: -1 is 65535
abbrev pub twos_complement : ℤ → ℕ
twos_complement (pos n) = n
twos_complement (negsuc n) = 65535 - n

-- spec 9.1, 9.2: status, nine counters, ramp count, watts, vars in two's complement, recovery count, side, held power; the record as it is, not as it is read
unfoldable pub image_fields : Board → List Field
image_fields b =
    field 1 b.status
    ∷ (map (field 4) b.counters
    ++ (field 4 b.ramp
    ∷ field 2 b.watts
    ∷ field 2 (twos_complement b.vars)
    ∷ field 1 b.recovery
    ∷ field 1 b.side
    ∷ field 2 b.held
    ∷ []))

unfoldable pub image : Board → List ℕ
image b = field_bytes (image_fields b)

abbrev pub image_length : ℕ
image_length = 49

-- spec 9.4: a short buffer is refused
unfoldable pub save_check : List ℕ → Saved
save_check buffer = cond (leb image_length (length buffer)) (Ok tt) (Err Buffer)

-- spec 9.3, 9.4: the buffer after the saving
unfoldable pub saved_into : Board → List ℕ → List ℕ
saved_into b buffer = cond (leb image_length (length buffer)) (image b ++ drop image_length buffer) buffer
