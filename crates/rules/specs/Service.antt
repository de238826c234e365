-- Spec 6.10 to 6.15, 7.3 to 7.8: trip and return, ramp, status, share, recovery, and the powers.
-- Assumes nothing.
use Rattle.std.specs.Prelude.{Bool, true, false, cond, not, ◌&&◌, List, [], ◌∷◌, ◌++◌, map, ℕ, suc, ◌*◌, ◌/◌, min, eqb, ℤ, pos, nat_abs}
use Rattle.rules.specs.Statuses.{status_at}
use Rattle.rules.specs.Samples.{Slice, Equipment, frequency, available, operator_limit, mean}
use Rattle.rules.specs.Curves.{curve, nameplate}
use Rattle.rules.specs.Droop.{no_side, side_of, drooped}
use Rattle.rules.specs.declared.Settings.{Settings}
use Rattle.rules.specs.declared.Region.{Region}
use Rattle.rules.specs.declared.Region.TheVariants.{Continuous, Mandatory, Momentary, Cease}

-- spec 6.10, 6.12: in service after the step, from: in service before, permission, some limit's bit, ready.
abbrev pub serves : Bool → Bool → Bool → Bool → Bool
serves true permit trip ready = permit && not trip
serves false permit trip ready = ready

-- spec 6.11, 6.12: the ramp count after the step, from: in service before and after, the continuous region, the ramp length, the count before.
abbrev pub ramped : Bool → Bool → Bool → ℕ → ℕ → ℕ
ramped was false continuous length n = 0
ramped false true continuous length n = 0
ramped true true continuous length n = cond continuous (min length (suc n)) n

-- spec 6.13: the status, by its place in `statuses`, from: in service, the region, the ramp count full
abbrev pub status_of : Bool → Region → Bool → ℕ
status_of false region full = 0  -- tripped
status_of true Continuous false = 1  -- entering
status_of true Continuous true = 2  -- continuous
status_of true Mandatory full = 3  -- mandatory operation
status_of true Momentary full = 4  -- momentary cessation
status_of true Cease full = 5  -- cease to energize

-- in service; a status that spec 6.13 does not name is read as tripped (spec 5.4)
abbrev pub in_service : ℕ → Bool
in_service status = (status_at status).service

-- spec 7.3, 7.5, 7.6: it gives power; tripped, in momentary cessation and where it ceases to energize there is none
abbrev pub exports : ℕ → Bool
exports status = (status_at status).power

-- in service without power: momentary cessation or cease to energize
abbrev pub without_power : ℕ → Bool
without_power status = in_service status && not (exports status)

-- spec 6.14: the share that the ramp lets through
abbrev pub share_of : Settings → ℕ → ℕ
share_of st ramp = 10000 * ramp / st.ramp

-- spec 6.15: how many steps it takes until power is back after a cessation: 0.4 s
abbrev pub recovery_top : ℕ
recovery_top = 40

-- spec 6.15: the recovery count after the step, from: in service before and after, a region in which it ceases, the count before
abbrev pub recovering : Bool → Bool → Bool → ℕ → ℕ
recovering was false ceasing n = recovery_top
recovering false true ceasing n = recovery_top
recovering true true ceasing n = cond ceasing 0 (min recovery_top (suc n))

-- spec 7.7: the power that a recovery count lets through
abbrev pub recovery_limit : ℕ → ℕ
recovery_limit recovery = 10000 * recovery / recovery_top

-- spec 7.3, 7.6: vars
unfoldable pub vars_of : Equipment → Settings → Slice → ℕ → ℤ
vars_of e st x status = cond (exports status) (curve st.var (mean e x)) (pos 0)

-- the watt curve; an accepted sheet's has no negative power
abbrev pub watt_curve : Equipment → Settings → Slice → ℕ
watt_curve e st x = nat_abs (curve st.watt (mean e x))

-- spec 7.5, 7.8: what limits active power, by name
pub data PowerLimit : Type 0 where
  available_power operators_limit ramp_share volt_watt nameplate_rating cessation_recovery frequency_droop : PowerLimit

-- a limit, and the watts that it leaves
pub record Limited : Type 0 where
  pub limit : PowerLimit
  pub watts : ℕ

abbrev pub leaves : PowerLimit → ℕ → Limited
leaves limit watts = record { limit = limit; watts = watts }

-- spec 7.5: the first three limits outside an event, in their order
abbrev pub calm_limits : Slice → ℕ → List Limited
calm_limits x share = leaves available_power (available x) ∷ leaves operators_limit (operator_limit x) ∷ leaves ramp_share share ∷ []

-- spec 7.8: the one limit that takes their place in an event
abbrev pub event_limits : Slice → ℕ → List Limited
event_limits x held = leaves frequency_droop (min (drooped (frequency x) held) (available x)) ∷ []

-- spec 7.5, 7.8: those or this one; a board that gives power is in service, and so in an event where the frequency has a side
abbrev pub first_limits : Slice → ℕ → ℕ → List Limited
first_limits x share held = cond (eqb (side_of (frequency x)) no_side) (calm_limits x share) (event_limits x held)

-- spec 7.5, 7.8: the limits beside that of the recovery count, in their order, from the share, the held power and the vars
abbrev pub standing_limits : Equipment → Settings → Slice → ℕ → ℕ → ℤ → List Limited
standing_limits e st x share held vars =
    first_limits x share held ++ (leaves volt_watt (watt_curve e st x) ∷ leaves nameplate_rating (nameplate vars) ∷ [])

-- spec 7.5, 7.8: all limits of a sample, that of the recovery count last
abbrev pub power_limits : Equipment → Settings → Slice → ℕ → ℕ → ℕ → ℤ → List Limited
power_limits e st x share recovery held vars =
    standing_limits e st x share held vars ++ (leaves cessation_recovery (recovery_limit recovery) ∷ [])

-- the least number of a list
abbrev pub least : List ℕ → ℕ
least [] = 0
least (n ∷ []) = n
least (n ∷ m ∷ ns) = min n (least (m ∷ ns))

-- the least that limits leave
abbrev pub left_by : List Limited → ℕ
left_by limits = least (map (λ l. l.watts) limits)

-- spec 7.5, 7.6, 7.8: in a status that gives power the least that a limit leaves
unfoldable pub watts_of : Equipment → Settings → Slice → ℕ → ℕ → ℕ → ℕ → ℕ
watts_of e st x status share recovery held =
    cond (exports status) (left_by (power_limits e st x share recovery held (vars_of e st x status))) 0
