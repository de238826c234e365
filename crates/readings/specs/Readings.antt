-- Spec 4.1: what the rules read from an accepted sample.
-- Assumes nothing.
use Rattle.std.specs.Prelude.{◌≡◌, true, ◌+◌, ◌≤◌}
use Rattle.rules.specs.Settings.{settings_accepted}
use Rattle.rules.specs.Samples.{Slice, Equipment, frequency, permitted, available, operator_limit, phase, lowest, highest}
use Rattle.rules.specs.declared.Settings.{Settings}
use Rattle.readings.specs.declared.reading.Reading.{Reading}

-- lowest, highest and sum of the voltages, and the other numbers of a sample
abbrev pub reading_of : Equipment → Slice → Reading
reading_of e x =
    record {
      low = lowest e x;
      high = highest e x;
      sum = phase e x 0 + phase e x 1 + phase e x 2;
      frequency = frequency x;
      permit = permitted x;
      available = available x;
      limit = operator_limit x;
    }

-- what the powers ask of a reading
pub record Exportable (r : Reading) : Type 0 where
  pub frequency-top : r.frequency ≤ 80000
  pub available-top : r.available ≤ 10000
  pub limit-top : r.limit ≤ 10000
