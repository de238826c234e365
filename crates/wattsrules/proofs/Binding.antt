-- Which limit binds: the first that leaves what the watts are, found by testing them in their order.
-- Assumes nothing.
use mathlib.Core.Path.{◌≡◌, refl, sym, ap, ◌∙◌}
use mathlib.Core.Bool.{true}
use mathlib.Core.List.{List, [], ◌∷◌, ◌++◌}
use Prim.Native.Nat.{ℕ, ◌/◌, ◌+◌, ◌≤◌, ◌<◌, min}
use native.Mathlib.Omega.{arith}
use lib.IntN.{ℤ, nat_abs}
use borrow.Author.Tests.{eq-eqb, ne_eqb}
use Rattle.rules.specs.Samples.{Slice, Equipment, frequency, available, operator_limit}
use Rattle.rules.specs.Curves.{curve, nameplate}
use Rattle.rules.specs.Droop.{no_side, side_of, drooped}
use Rattle.rules.specs.Service.{available_power, operators_limit, ramp_share, volt_watt, nameplate_rating, cessation_recovery, frequency_droop}
use Rattle.rules.specs.Service.{Limited, leaves, left_by, recovery_limit, watt_curve, calm_limits, event_limits, power_limits, exports, vars_of, watts_of}
use Rattle.rules.specs.declared.Settings.{Settings}
use Rattle.rules.specs.declared.Report.{Report}
use Rattle.readings.specs.declared.reading.Reading.{Reading}
use Rattle.readings.specs.Readings.{reading_of}
use Rattle.wattsrules.specs.WattsRules.{limit_named, last_limits, first_leaving, watts_rule}
use Rattle.reasons.specs.declared.WattsRule.{WattsRule}

-- ---- one limit

pub stops : (watts : ℕ) (l : Limited) (ls : List Limited) → l.watts ≡ watts → first_leaving watts (l ∷ ls) ≡ limit_named l.limit
stops watts l ls e = rw (eq-eqb l.watts watts e) refl

pub passes : (watts : ℕ) (l : Limited) (ls : List Limited) → (¬ (l.watts ≡ watts)) → first_leaving watts (l ∷ ls) ≡ first_leaving watts ls
passes watts l ls e = rw (ne_eqb l.watts watts e) refl

-- a limit that leaves other watts than the least is not the one that leaves them
pub others-leave : (watts : ℕ) (l m : Limited) (ls : List Limited) → (¬ (l.watts ≡ watts)) → watts ≡ left_by (l ∷ m ∷ ls) → watts ≡ left_by (m ∷ ls)
others-leave watts l m ls e k = omega (arith, k, e)

-- ---- outside an event: three stand before the others

module _ (e : Equipment) (s : Settings) (x : Slice) (r : Reading) (q : reading_of e x ≡ r) (share recovery watts : ℕ) (vars : ℤ) where
  abbrev rest : List Limited
  rest = last_limits e s x recovery vars

  abbrev from-share : List Limited
  from-share = leaves ramp_share share ∷ rest

  abbrev from-operator : List Limited
  from-operator = leaves operators_limit (operator_limit x) ∷ from-share

  available-is : r.available ≡ available x
  available-is = ap (λ (y : Reading). y.available) (sym q)

  operator-is : r.limit ≡ operator_limit x
  operator-is = ap (λ (y : Reading). y.limit) (sym q)

  pub by-available : r.available ≡ watts → WattsRule.AvailablePower ≡ first_leaving watts (calm_limits x share ++ rest)
  by-available a = sym (stops watts (leaves available_power (available x)) from-operator (sym available-is ∙ a))

  -- not the available power, and so on down the list
  module _ (not-available : ¬ (r.available ≡ watts)) where
    past-available : first_leaving watts (calm_limits x share ++ rest) ≡ first_leaving watts from-operator
    past-available = passes watts (leaves available_power (available x)) from-operator (λ k. not-available (available-is ∙ k))

    pub by-operator : r.limit ≡ watts → WattsRule.OperatorsLimit ≡ first_leaving watts (calm_limits x share ++ rest)
    by-operator o = sym (past-available ∙ stops watts (leaves operators_limit (operator_limit x)) from-share (sym operator-is ∙ o))

    module _ (not-operator : ¬ (r.limit ≡ watts)) where
      past-operator : first_leaving watts (calm_limits x share ++ rest) ≡ first_leaving watts from-share
      past-operator = past-available ∙ passes watts (leaves operators_limit (operator_limit x)) from-share (λ k. not-operator (operator-is ∙ k))

      pub by-share : share ≡ watts → WattsRule.RampShare ≡ first_leaving watts (calm_limits x share ++ rest)
      by-share h = sym (past-operator ∙ stops watts (leaves ramp_share share) rest h)

      module _ (not-share : ¬ (share ≡ watts)) where
        pub past-share : first_leaving watts rest ≡ first_leaving watts (calm_limits x share ++ rest)
        past-share = sym (past-operator ∙ passes watts (leaves ramp_share share) rest not-share)

        pub left-past-share : watts ≡ left_by (calm_limits x share ++ rest) → watts ≡ left_by rest
        left-past-share left =
            others-leave watts (leaves ramp_share share) (leaves volt_watt (watt_curve e s x)) (leaves nameplate_rating (nameplate vars) ∷ leaves cessation_recovery (recovery_limit recovery) ∷ []) not-share
            (others-leave watts (leaves operators_limit (operator_limit x)) (leaves ramp_share share) rest (λ k. not-operator (operator-is ∙ k))
            (others-leave watts (leaves available_power (available x)) (leaves operators_limit (operator_limit x)) from-share (λ k. not-available (available-is ∙ k)) left))

-- ---- in an event: droop does

module _ (e : Equipment) (s : Settings) (x : Slice) (r : Reading) (q : reading_of e x ≡ r) (held recovery watts : ℕ) (vars : ℤ) where
  abbrev droop : Limited
  droop = leaves frequency_droop (min (drooped (frequency x) held) (available x))

  abbrev behind-droop : List Limited
  behind-droop = last_limits e s x recovery vars

  -- what droop leaves of the reading is what it leaves of the sample
  droop-is : min (drooped (frequency x) held) (available x) ≡ min (drooped r.frequency held) r.available
  droop-is = ap (λ (y : Reading). min (drooped y.frequency held) y.available) q

  -- no limit leaves less than the watts
  pub by-droop : watts ≡ left_by (event_limits x held ++ behind-droop) → min (drooped r.frequency held) r.available ≤ watts
      → WattsRule.FrequencyDroop ≡ first_leaving watts (event_limits x held ++ behind-droop)
  by-droop left d = sym (stops watts droop behind-droop (omega (arith, droop-is, left, d)))

  module _ (more : watts < min (drooped r.frequency held) r.available) where
    not-droop : ¬ (min (drooped (frequency x) held) (available x) ≡ watts)
    not-droop k = omega (arith, droop-is, more, k)

    pub past-droop : first_leaving watts behind-droop ≡ first_leaving watts (event_limits x held ++ behind-droop)
    past-droop = sym (passes watts droop behind-droop not-droop)

    pub left-past-droop : watts ≡ left_by (event_limits x held ++ behind-droop) → watts ≡ left_by behind-droop
    left-past-droop left =
        others-leave watts droop (leaves volt_watt (watt_curve e s x)) (leaves nameplate_rating (nameplate vars) ∷ leaves cessation_recovery (recovery_limit recovery) ∷ [])
        not-droop left

-- ---- the last three, of which the watts are the least

module _ (e : Equipment) (s : Settings) (x : Slice) (r : Reading) (q : reading_of e x ≡ r) (recovery watts : ℕ) (vars : ℤ)
    (left : watts ≡ left_by (last_limits e s x recovery vars)) where
  abbrev from-recovery : List Limited
  from-recovery = leaves cessation_recovery (recovery_limit recovery) ∷ []

  abbrev from-nameplate : List Limited
  from-nameplate = leaves nameplate_rating (nameplate vars) ∷ from-recovery

  curve-is : nat_abs (curve s.watt (r.sum / 3)) ≡ watt_curve e s x
  curve-is = ap (λ (y : Reading). nat_abs (curve s.watt (y.sum / 3))) (sym q)

  pub by-curve : nat_abs (curve s.watt (r.sum / 3)) ≡ watts → WattsRule.VoltWatt ≡ first_leaving watts (last_limits e s x recovery vars)
  by-curve c = sym (stops watts (leaves volt_watt (watt_curve e s x)) from-nameplate (sym curve-is ∙ c))

  module _ (not-curve : ¬ (nat_abs (curve s.watt (r.sum / 3)) ≡ watts)) where
    past-curve : first_leaving watts (last_limits e s x recovery vars) ≡ first_leaving watts from-nameplate
    past-curve = passes watts (leaves volt_watt (watt_curve e s x)) from-nameplate (λ k. not-curve (curve-is ∙ k))

    -- the watts are not above the nameplate, so that one more fits beside the vars exactly where it leaves more
    pub by-nameplate : min (watts + 1) (nameplate vars) ≡ watts → WattsRule.NameplateRating ≡ first_leaving watts (last_limits e s x recovery vars)
    by-nameplate m = sym (past-curve ∙ stops watts (leaves nameplate_rating (nameplate vars)) from-recovery (omega (arith, m)))

    -- some limit leaves what the least is
    pub by-recovery : (¬ (min (watts + 1) (nameplate vars) ≡ watts)) → WattsRule.CessationRecovery ≡ first_leaving watts (last_limits e s x recovery vars)
    by-recovery m =
        let other = others-leave watts in
        let not-nameplate : ¬ (nameplate vars ≡ watts) = λ k. m (omega (arith, k)) in
        let last : watts ≡ recovery_limit recovery
        = other (leaves nameplate_rating (nameplate vars)) (leaves cessation_recovery (recovery_limit recovery)) [] not-nameplate
        (other (leaves volt_watt (watt_curve e s x)) (leaves nameplate_rating (nameplate vars)) from-recovery (λ k. not-curve (curve-is ∙ k)) left) in
        sym (past-curve ∙ passes watts (leaves nameplate_rating (nameplate vars)) from-recovery not-nameplate
        ∙ stops watts (leaves cessation_recovery (recovery_limit recovery)) [] (sym last))

-- ---- beside a report whose powers are those of spec 7, in a status that gives power

pub side-on : (e : Equipment) (x : Slice) (r : Reading) → reading_of e x ≡ r → side_of (frequency x) ≡ side_of r.frequency
side-on e x r q = ap (λ (y : Reading). side_of y.frequency) q

module _ (e : Equipment) (s : Settings) (x : Slice) (p : Report) (on : exports p.status ≡ true)
    (powers : p.watts ≡ watts_of e s x p.status p.share p.recovery p.held) (vars : p.vars ≡ vars_of e s x p.status) where
  abbrev limits : List Limited
  limits = power_limits e s x p.share p.recovery p.held p.vars

  left-all : p.watts ≡ left_by limits
  unfolding watts_of
  left-all = rw vars (powers ∙ rw on refl)

  named : (rule : WattsRule) → rule ≡ first_leaving p.watts limits → rule ≡ watts_rule p.status limits
  named rule k = rw on (k ∙ ap (λ (n : ℕ). first_leaving n limits) left-all)

  module _ (none : side_of (frequency x) ≡ no_side) where
    calm-limits : limits ≡ calm_limits x p.share ++ last_limits e s x p.recovery p.vars
    calm-limits = rw none refl

    pub calm-rule-is : (rule : WattsRule) → (p.watts ≡ left_by (calm_limits x p.share ++ last_limits e s x p.recovery p.vars)
        → rule ≡ first_leaving p.watts (calm_limits x p.share ++ last_limits e s x p.recovery p.vars)) → rule ≡ watts_rule p.status limits
    calm-rule-is rule k =
        named rule (k (left-all ∙ ap left_by calm-limits) ∙ ap (first_leaving p.watts) (sym calm-limits))

  module _ (some : ¬ (side_of (frequency x) ≡ no_side)) where
    event-limits : limits ≡ event_limits x p.held ++ last_limits e s x p.recovery p.vars
    event-limits = rw (ne_eqb (side_of (frequency x)) no_side some) refl

    pub event-rule-is : (rule : WattsRule) → (p.watts ≡ left_by (event_limits x p.held ++ last_limits e s x p.recovery p.vars)
        → rule ≡ first_leaving p.watts (event_limits x p.held ++ last_limits e s x p.recovery p.vars)) → rule ≡ watts_rule p.status limits
    event-rule-is rule k =
        named rule (k (left-all ∙ ap left_by event-limits) ∙ ap (first_leaving p.watts) (sym event-limits))
