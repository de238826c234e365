-- `freshboard::fresh` meets its contract.
-- Assumes nothing.
use mathlib.Core.Path.{refl}
use Rattle.rules.specs.Records.{fresh}
use Rattle.freshboard.proofs.fresh.Goals as goal

pub returns : goal.returns
unfolding fresh
returns c = refl
