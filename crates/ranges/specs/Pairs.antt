-- Spec 3.2: two numbers of a sheet line, as the code holds them.
-- Assumes nothing.
use Rattle.rules.specs.Settings as rules
use Rattle.rules.specs.Settings.{pair}
use Rattle.ranges.specs.declared.Pair.{Pair}

abbrev pub pair_of : Pair → rules.Pair
pair_of p = pair p.first p.second
