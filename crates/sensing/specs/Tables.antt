-- Spec 2.3: what makes a list of numbers the sensing table.
-- Assumes nothing.
use Rattle.std.specs.Prelude.{◌≡◌, List, ℕ, ◌<◌, get_or}
use Rattle.rules.specs.Sensing.{voltage}

-- each code's entry is its voltage
abbrev pub IsTable : List ℕ → Type 0
IsTable entries = (code : ℕ) → code < 4096 → get_or entries code 0 ≡ voltage code
