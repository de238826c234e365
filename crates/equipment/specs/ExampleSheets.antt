-- The sheets of the examples: the default sheet (spec 3.3) with another wait and another ramp length.
-- Assumes nothing.
use Rattle.std.specs.Prelude.{[], ◌∷◌, ℕ, ℤ, pos, neg_ℤ}
use Rattle.rules.specs.declared.Limit.{Limit}
use Rattle.rules.specs.declared.Point.{Point}
use Rattle.rules.specs.declared.Settings.{Settings}

abbrev pub limit : ℕ → ℕ → Limit
limit level clearing = record { level = level; clearing = clearing }

abbrev point : ℕ → ℤ → Point
point v p = record { volts = v; power = p }

-- with `(enter (wait W R))`
abbrev pub enter_sheet : ℕ → ℕ → Settings
enter_sheet wait ramp =
    record {
      trip =
          limit 8800 2100
          ∷ limit 5000 200
          ∷ limit 11000 1300
          ∷ limit 12000 16
          ∷ limit 58500 30000
          ∷ limit 56500 16
          ∷ limit 61200 30000
          ∷ limit 62000 16
          ∷ [];
      volts = record { low = 9170; high = 10500 };
      hertz = record { low = 59500; high = 60100 };
      wait = wait;
      ramp = ramp;
      var = point 9200 (pos 4400) ∷ point 9800 (pos 0) ∷ point 10200 (pos 0) ∷ point 10800 (neg_ℤ (pos 4400)) ∷ [];
      watt = point 10600 (pos 10000) ∷ point 11000 (pos 2000) ∷ [];
    }

-- with a ramp of 100 steps, as spec 10.11 has it
abbrev pub example_sheet : ℕ → Settings
example_sheet wait = enter_sheet wait 100
