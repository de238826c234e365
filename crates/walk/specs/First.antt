-- The first n of a list: their sum by a function, and the list with each of them changed by a function.
-- Assumes nothing.
use Rattle.std.specs.Prelude.{ℕ, zero, suc, ◌+◌, List, [], ◌∷◌}

module _ {A : Type 0} where
  unfoldable pub sum_first : (A → ℕ) → ℕ → List A → ℕ
  sum_first g zero us = 0
  sum_first g (suc n) [] = 0
  sum_first g (suc n) (u ∷ us) = g u + sum_first g n us

  unfoldable pub map_first : (A → A) → ℕ → List A → List A
  map_first f zero us = us
  map_first f (suc n) [] = []
  map_first f (suc n) (u ∷ us) = f u ∷ map_first f n us
