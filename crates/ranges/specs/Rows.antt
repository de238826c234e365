-- Spec 3.5: the row of allowed values as the code holds it, and a row of the table by its line, counted from 0.
-- Assumes nothing.
use Rattle.std.specs.Prelude.{ℕ, get_or}
use Rattle.rules.specs.Settings as rules
use Rattle.rules.specs.Settings.{row, rows}
use Rattle.ranges.specs.declared.Row.{Row}

abbrev pub row_of : Row → rules.Row
row_of r = record { first_low = r.0; first_high = r.1; second_low = r.2; second_high = r.3 }

abbrev pub row_at : ℕ → rules.Row
row_at i = get_or rows i (row 0 0 0 0)
