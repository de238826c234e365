-- Spec 8.6, 8.7: the rule that held a status.
-- Assumes nothing.
use Rattle.std.specs.Prelude.{Bool, true, false, cond, List, [], ◌∷◌, ℕ, suc, eqb}
use Rattle.rules.specs.Samples.{Slice, Equipment, lowest, highest}
use Rattle.rules.specs.Regions.{rank, region_in, region_of}
use Rattle.rules.specs.declared.Settings.{Settings}
use Rattle.rules.specs.declared.Region.{Region}
use Rattle.reasons.specs.declared.StatusRule.{StatusRule}

-- the place of the first test of a list that passes, the first of the list having place i; 0 where none passes
abbrev pub first_place : ℕ → List Bool → ℕ
first_place i [] = 0
first_place i (passes ∷ tests) = cond passes i (first_place (suc i) tests)

abbrev pub same_region : Region → Region → Bool
same_region a b = eqb (rank a) (rank b)

-- spec 8.7: what decides the region, from: the worst region, those of lowest and highest voltage (that frequency has it where neither has: `NamesStatusRule`)
abbrev pub first_worst : Region → Region → Region → StatusRule
first_worst worst low high =
    cond (same_region low worst) StatusRule.LowestVoltage
    (cond (same_region high worst) StatusRule.HighestVoltage
    StatusRule.Frequency)

unfoldable pub region_cause : Equipment → Settings → Slice → StatusRule
region_cause e st x = first_worst (region_of e st x) (region_in e st (lowest e x)) (region_in e st (highest e x))

-- spec 8.6: the rule of a step, from: in service before and after it, permission, the limits' bits in sheet order, the region's cause
abbrev pub status_rule : Bool → Bool → Bool → List Bool → StatusRule → StatusRule
status_rule true false false trips cause = StatusRule.Permission
status_rule true false true trips cause = StatusRule.TripLimit (first_place 1 trips)
status_rule false false permit trips cause = StatusRule.WaitNotFull
status_rule false true permit trips cause = StatusRule.Returned
status_rule true true permit trips cause = cause
