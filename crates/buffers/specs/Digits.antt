-- The digits of a number in a base.
-- Assumes nothing.
use Rattle.std.specs.Prelude.{List, [], ◌∷◌, ◌++◌, ℕ, zero, suc, ◌+◌, ◌/◌, ◌%◌}

-- the lowest k digits of a number, the highest first, each added to the byte of the digit 0
unfoldable pub digits_in : ℕ → ℕ → ℕ → ℕ → List ℕ
digits_in base none zero n = []
digits_in base none (suc k) n = digits_in base none k (n / base) ++ ((none + n % base) ∷ [])
