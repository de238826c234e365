-- Yes-or-no tests on numbers and lists, as the rules use them.
-- Assumes nothing.
use Rattle.std.specs.Prelude.{Bool, true, false, ◌&&◌, ◌||◌, List, [], ◌∷◌, ℕ, leb}

-- every test of the list passes
unfoldable pub all : List Bool → Bool
all [] = true
all (b ∷ bs) = b && all bs

-- some test of the list passes
unfoldable pub any : List Bool → Bool
any [] = false
any (b ∷ bs) = b || any bs

-- a range with both ends included
unfoldable pub within : ℕ → ℕ → ℕ → Bool
within low high n = leb low n && leb n high
