-- Spec 8.8: the rule that held the watts.
-- Assumes nothing.
use Rattle.std.specs.Prelude.{cond, List, [], ◌∷◌, ℕ, eqb, ℤ}
use Rattle.rules.specs.Samples.{Slice, Equipment}
use Rattle.rules.specs.Curves.{nameplate}
use Rattle.rules.specs.Service.{PowerLimit, available_power, operators_limit, ramp_share, volt_watt, nameplate_rating, cessation_recovery, frequency_droop}
use Rattle.rules.specs.Service.{Limited, leaves, watt_curve, recovery_limit, left_by, exports}
use Rattle.rules.specs.declared.Settings.{Settings}
use Rattle.reasons.specs.declared.WattsRule.{WattsRule}

abbrev pub limit_named : PowerLimit → WattsRule
limit_named available_power = WattsRule.AvailablePower
limit_named operators_limit = WattsRule.OperatorsLimit
limit_named ramp_share = WattsRule.RampShare
limit_named volt_watt = WattsRule.VoltWatt
limit_named nameplate_rating = WattsRule.NameplateRating
limit_named cessation_recovery = WattsRule.CessationRecovery
limit_named frequency_droop = WattsRule.FrequencyDroop

-- the first limit of a list that leaves so many watts; there is one where the list is not empty and they are the least that it leaves
abbrev pub first_leaving : ℕ → List Limited → WattsRule
first_leaving watts [] = WattsRule.Status
first_leaving watts (l ∷ limits) = cond (eqb l.watts watts) (limit_named l.limit) (first_leaving watts limits)

-- spec 7.5, 7.8: the limits that stand in an event and outside it, after the first ones
abbrev pub last_limits : Equipment → Settings → Slice → ℕ → ℤ → List Limited
last_limits e st x recovery vars =
    leaves volt_watt (watt_curve e st x) ∷ leaves nameplate_rating (nameplate vars) ∷ leaves cessation_recovery (recovery_limit recovery) ∷ []

-- spec 8.8: the rule of a report, from its status and the limits of spec 7.5 and 7.8
abbrev pub watts_rule : ℕ → List Limited → WattsRule
watts_rule status limits = cond (exports status) (first_leaving (left_by limits) limits) WattsRule.Status
