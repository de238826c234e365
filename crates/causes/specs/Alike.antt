-- Two equipments that no accepted sample tells apart.
-- Assumes nothing.
use Rattle.std.specs.Prelude.{◌≡◌, ℕ, ◌≤◌}
use Rattle.rules.specs.Sensing.{last_code}
use Rattle.rules.specs.Samples.{Equipment}

pub record Alike (e f : Equipment) : Type 0 where
  -- each code that is not refused has the same voltage
  pub sensing : (code : ℕ) → code ≤ last_code → e.sensing code ≡ f.sensing code
  -- each voltage has the same operating region
  pub region : (v : ℕ) → e.region v ≡ f.region v
