-- The numbers of a rule tell it.
-- Assumes nothing.
use mathlib.Core.Path.{◌≡◌, refl, sym, ap, ap₂, ◌∙◌}
use mathlib.Core.List.{[], ◌∷◌}
use Prim.Native.Nat.{ℕ, ◌-◌}
use lib.ListN.{get_or}
use Rattle.reasons.specs.Numbers.{status_rule_number, limit_place, watts_rule_number}
use Rattle.explain.specs.Explains.{NumbersTell}
use Rattle.reasons.specs.declared.StatusRule.{StatusRule}
use Rattle.reasons.specs.declared.WattsRule.{WattsRule}

-- the rules in the order of their numbers, from 1
abbrev status_of : ℕ → ℕ → StatusRule
status_of n place =
    get_or (StatusRule.Permission
    ∷ StatusRule.TripLimit place
    ∷ StatusRule.WaitNotFull
    ∷ StatusRule.Returned
    ∷ StatusRule.LowestVoltage
    ∷ StatusRule.HighestVoltage
    ∷ StatusRule.Frequency
    ∷ []) (n - 1) StatusRule.Permission

abbrev watts_of : ℕ → WattsRule
watts_of n =
    get_or (WattsRule.Status
    ∷ WattsRule.AvailablePower
    ∷ WattsRule.OperatorsLimit
    ∷ WattsRule.RampShare
    ∷ WattsRule.VoltWatt
    ∷ WattsRule.NameplateRating
    ∷ WattsRule.CessationRecovery
    ∷ WattsRule.FrequencyDroop
    ∷ []) (n - 1) WattsRule.Status

status-back : (r : StatusRule) → status_of (status_rule_number r) (limit_place r) ≡ r
status-back StatusRule.Permission = refl
status-back (StatusRule.TripLimit place) = refl
status-back StatusRule.WaitNotFull = refl
status-back StatusRule.Returned = refl
status-back StatusRule.LowestVoltage = refl
status-back StatusRule.HighestVoltage = refl
status-back StatusRule.Frequency = refl

watts-back : (r : WattsRule) → watts_of (watts_rule_number r) ≡ r
watts-back WattsRule.Status = refl
watts-back WattsRule.AvailablePower = refl
watts-back WattsRule.OperatorsLimit = refl
watts-back WattsRule.RampShare = refl
watts-back WattsRule.VoltWatt = refl
watts-back WattsRule.NameplateRating = refl
watts-back WattsRule.CessationRecovery = refl
watts-back WattsRule.FrequencyDroop = refl

pub numbers-tell : NumbersTell
numbers-tell =
    record {
      status = λ r s n p. sym (status-back r) ∙ ap₂ status_of n p ∙ status-back s;
      watts = λ r s n. sym (watts-back r) ∙ ap watts_of n ∙ watts-back s;
    }
