-- Spec 3.2: the lines of settings and their pairs by place, both counted from 0.
-- Assumes nothing.
use Rattle.std.specs.Prelude.{cond, List, [], ℕ, eqb, pos, get_or}
use Rattle.rules.specs.Settings as rules
use Rattle.rules.specs.Settings.{pair, lines_of}
use Rattle.rules.specs.declared.Settings.{Settings}

abbrev pub settings_line : Settings → ℕ → List rules.Pair
settings_line s i = get_or (lines_of s) i []

abbrev pub settings_pair : Settings → ℕ → ℕ → rules.Pair
settings_pair s i k = get_or (settings_line s i) k (pair (pos 0) (pos 0))

-- how many pairs line i has
abbrev pub pairs_in : ℕ → ℕ
pairs_in i = cond (eqb i 11) 4 (cond (eqb i 12) 2 1)
