-- Spec 2, 6.7: the few facts about sensing and voltage regions that the demands rest on.
-- Assumes nothing.
use Rattle.std.specs.Prelude.{◌≡◌, ℕ, ◌≤◌, ◌<◌}
use Rattle.rules.specs.Sensing.{last_code}
use Rattle.rules.specs.Samples.{Equipment}
use Rattle.rules.specs.declared.Region.TheVariants.{Continuous}

pub record Sound (e : Equipment) : Type 0 where
  -- code 0 gives the least voltage
  pub least : (c : ℕ) → c ≤ last_code → e.sensing 0 ≤ e.sensing c
  -- some code breaks every overvoltage limit of a sheet
  pub above : 12000 < e.sensing last_code
  -- some code is within the volts of every sheet
  pub nominal : ℕ
  pub nominal-code : nominal ≤ last_code
  pub nominal-low : 9500 ≤ e.sensing nominal
  pub nominal-high : e.sensing nominal ≤ 10500
  -- 8800–11000 is the continuous operation region
  pub continuous : (v : ℕ) → 8800 ≤ v → v ≤ 11000 → e.region v ≡ Continuous
