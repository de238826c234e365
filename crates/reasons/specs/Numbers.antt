-- Spec 8.6, 8.8: the number of each rule, and the value of one that has a value.
-- Assumes nothing.
use Rattle.std.specs.Prelude.{ℕ}
use Rattle.reasons.specs.declared.StatusRule.{StatusRule}
use Rattle.reasons.specs.declared.WattsRule.{WattsRule}

-- spec 8.6: the rules for a status
abbrev pub status_rule_number : StatusRule → ℕ
status_rule_number StatusRule.Permission = 1
status_rule_number (StatusRule.TripLimit place) = 2
status_rule_number StatusRule.WaitNotFull = 3
status_rule_number StatusRule.Returned = 4
status_rule_number StatusRule.LowestVoltage = 5
status_rule_number StatusRule.HighestVoltage = 6
status_rule_number StatusRule.Frequency = 7

-- the place in the sheet of the limit that is named, from 1; 0 where none is
abbrev pub limit_place : StatusRule → ℕ
limit_place StatusRule.Permission = 0
limit_place (StatusRule.TripLimit place) = place
limit_place StatusRule.WaitNotFull = 0
limit_place StatusRule.Returned = 0
limit_place StatusRule.LowestVoltage = 0
limit_place StatusRule.HighestVoltage = 0
limit_place StatusRule.Frequency = 0

-- spec 8.8: the rules for the watts
abbrev pub watts_rule_number : WattsRule → ℕ
watts_rule_number WattsRule.Status = 1
watts_rule_number WattsRule.AvailablePower = 2
watts_rule_number WattsRule.OperatorsLimit = 3
watts_rule_number WattsRule.RampShare = 4
watts_rule_number WattsRule.VoltWatt = 5
watts_rule_number WattsRule.NameplateRating = 6
watts_rule_number WattsRule.CessationRecovery = 7
watts_rule_number WattsRule.FrequencyDroop = 8
