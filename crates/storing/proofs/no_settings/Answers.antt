-- `storing::no_settings` meets its contract.
-- Assumes nothing.
use mathlib.Core.Path.{refl}
use Rattle.rules.specs.Sheets.{settings_of}
use Rattle.storing.proofs.no_settings.Goals as goal

pub returns : goal.returns
unfolding settings_of
returns c = refl
