-- The sheet of the pair that needs five samples (spec 13.13), and of the sham's that five do not tell: the default sheet
-- with a wait of 1 and the longest ramp.
-- Assumes nothing.
use mathlib.Core.Path.{◌≡◌, refl}
use mathlib.Core.Bool.{true}
use native.Mathlib.Omega.{arith}
use Rattle.rules.specs.Tests.{all}
use Rattle.rules.specs.Samples.{Equipment}
use Rattle.rules.specs.Settings.{rows, in_row, rising, check_from, lines_of, settings_check, settings_accepted}
use Rattle.rules.specs.declared.Settings.{Settings}
use Rattle.causes.specs.Calls.{ruled_by}
use Rattle.claims.specs.Sound.{Sound}
use Rattle.claims.specs.RampPairs.{RampsUntold}
use Rattle.theorems.proofs.RampPairs.{ramps-untold-within-four}
use Rattle.equipment.specs.ExampleSheets.{enter_sheet}

abbrev pub longest_ramp : Settings
longest_ramp = enter_sheet 1 60000

pub longest-accepted : settings_accepted longest_ramp ≡ true
unfolding all rows in_row rising check_from lines_of settings_check
longest-accepted = refl

-- with it, for any equipment: some pair is not told within four samples
pub ramps-untold : (e : Equipment) → Sound e → RampsUntold e (ruled_by e) 4
ramps-untold e sound = ramps-untold-within-four e sound longest_ramp longest-accepted (omega arith) refl
