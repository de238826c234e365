-- Spec 9.5 to 9.7: the images of the old firmware, from before the recovery count and frequency droop, and what stands behind them in ours.
-- Assumes nothing.
use Rattle.std.specs.Prelude.{Bool, List, [], ◌∷◌, ℕ, eqb, drop}
use Rattle.std.specs.Cmp.Lexicographic.{pointwise}
use Rattle.rules.specs.Droop.{no_side}
use Rattle.rules.specs.Service.{recovery_top}

-- spec 9.5: how many bytes an old image has: all that spec 9.1 has before the recovery count
abbrev pub old_length : ℕ
old_length = 45

-- spec 9.6: what carrying forward appends: a full recovery count, no side, and a held power of 0 in two bytes
abbrev pub added_bytes : List ℕ
added_bytes = recovery_top ∷ no_side ∷ 0 ∷ 0 ∷ []

-- as many bytes, and each the same
abbrev pub same_bytes : List ℕ → List ℕ → Bool
same_bytes = pointwise eqb

-- spec 9.7: what stands behind the bytes of an old image is what carrying forward appends
abbrev pub has_added : List ℕ → Bool
has_added source = same_bytes (drop old_length source) added_bytes
