-- The lent records are read as their rows say: antt computes each reading from the definitions.
-- Assumes nothing.
use mathlib.Core.Path.{refl}
use Rattle.rules.specs.Tests.{all, within}
use Rattle.rules.specs.Settings.{rows, in_row, rising, check_from, lines_of, settings_check}
use Rattle.rules.specs.Samples.{Equipment}
use Rattle.rules.specs.Records.{each, read_as}
use Rattle.demands.specs.Lent.{lent_rows, wait_rows, other_rows, LentRead}

pub lent-read : (e : Equipment) → LentRead e
unfolding LentRead lent_rows wait_rows other_rows read_as each all within rows in_row rising check_from lines_of settings_check
lent-read e = (
  (refl, (refl, (refl, (refl, (refl, (refl, (refl, (refl, (refl, (refl, (refl, (refl, (refl, (refl, (refl, (refl, (refl, (refl, (refl, (refl, (refl, (refl, (refl, (refl, (refl, (refl, (refl, (refl, (refl, (refl, (refl, (refl, (refl, (refl, (refl, (refl, (refl, (refl, (refl, (refl, (refl, (refl, (refl, (refl, (refl, (refl, (refl, (refl, (refl, (refl, (refl, tt))))))))))))))))))))))))))))))))))))))))))))))))))),
  (refl, (refl, (refl, tt))),
  refl,
  (refl, (refl, (refl, (refl, (refl, (refl, (refl, (refl, (refl, (refl, (refl, (refl, tt)))))))))))),
)
