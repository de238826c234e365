-- Spec 6.1 to 6.6: the nine rules on a reading.
-- Assumes nothing.
use Rattle.std.specs.Prelude.{List, [], ◌∷◌, ℕ, zero, suc}
use Rattle.rules.specs.Counters.{Rule}
use Rattle.rules.specs.declared.Settings.{Settings}
use Rattle.readings.specs.declared.reading.Reading.{Reading}
use Rattle.counting.specs.Counting.{hit_at, top_at}

-- rule i on a reading: it counts whatever sample has the reading
abbrev pub rule_at : Reading → Settings → ℕ → Rule
rule_at r s i = record { counts = λ x. hit_at r s i; top = top_at s i }

-- k rules from rule i on
unfoldable pub rules_from : Reading → Settings → ℕ → ℕ → List Rule
rules_from r s i zero = []
rules_from r s i (suc k) = rule_at r s i ∷ rules_from r s (suc i) k

-- all nine
abbrev pub rules_at : Reading → Settings → List Rule
rules_at r s = rules_from r s 0 9
