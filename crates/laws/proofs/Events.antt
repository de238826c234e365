-- The side and the held power of a history (spec 6.16, 6.17), and that no power is above the rating or the available power.
-- Assumes nothing.
use mathlib.Core.Path.{◌≡◌, refl, sym, ap, ◌∙◌}
use mathlib.Core.Bool.{Bool, true, false, cond, false≢true}
use mathlib.Core.List.{List, [], ◌∷◌, ◌++◌, append_assoc}
use mathlib.Core.Option.{Option, none, some}
use Prim.Native.Nat.{ℕ, ◌≤◌, ◌<◌, min}
use native.Mathlib.Omega.{arith}
use borrow.Author.Tests.{ne_eqb}
use lib.Dec.{ltb, eqb, lit≤}
use lib.IntN.{ℤ}
use lib.ListN.{length, length-append}
use Rattle.rules.specs.Samples.{Slice, Equipment, frequency, available, operator_limit}
use Rattle.rules.specs.Curves.{nameplate}
use Rattle.rules.specs.Droop.{deadband_high, deadband_low, no_side, side_of, side_after, known_side, held_after, drooped}
use Rattle.rules.specs.Service.{status_of, exports, recovery_top, recovery_limit, vars_of, watt_curve, Limited, available_power, operators_limit, ramp_share, frequency_droop, volt_watt, nameplate_rating, cessation_recovery, leaves}
use Rattle.rules.specs.Service.{calm_limits, event_limits, first_limits, standing_limits, power_limits, least, left_by, watts_of}
use Rattle.rules.specs.History.{History, serving, since_cessation, recovered_since, history_status, history_share, history_recovery, history_side, watts_holding, history_held, history_watts}
use Rattle.rules.specs.declared.Settings.{Settings}
use Rattle.rules.specs.declared.Region.{Region}
use Rattle.laws.proofs.Least.{left-first, left-last, left-then}

-- ---- sides

pub side-top : (f : ℕ) → side_of f ≤ 2
unfolding side_of
side-top f = by (ltb deadband_high f) (ltb f deadband_low)
  where
    by : (a b : Bool) → cond a 1 (cond b 2 0) ≤ 2
    by true b = lit≤ tt
    by false true = lit≤ tt
    by false false = lit≤ tt

pub after-top : (on : Bool) (f : ℕ) → side_after on f ≤ 2
after-top true f = side-top f
after-top false f = lit≤ tt

-- a recovery count is 40 at the most
pub since-top : (o : Option ℕ) → recovered_since o ≤ recovery_top
since-top none = omega arith
since-top (some n) = omega arith

-- no event, no held power
pub no-event : (was held watts : ℕ) → held_after was no_side held watts ≡ 0
no-event was held watts = refl

held-within : (was side held watts : ℕ) → held ≤ 10000 → watts ≤ 10000 → held_after was side held watts ≤ 10000
held-within was side held watts a b = by (eqb side no_side) (eqb side was)
  where
    by : (s t : Bool) → cond s 0 (cond t held watts) ≤ 10000
    by true t = omega arith
    by false true = a
    by false false = b

-- ---- what limits leave

-- the watts of a sample are not above what its recovery count lets through
pub watts-within : (e : Equipment) (st : Settings) (x : Slice) (status share recovery held : ℕ)
    → watts_of e st x status share recovery held ≤ recovery_limit recovery
unfolding watts_of
watts-within e st x status share recovery held = by (exports status)
  where
    vars : ℤ
    vars = vars_of e st x status

    by : (b : Bool) → cond b (left_by (power_limits e st x share recovery held vars)) 0 ≤ recovery_limit recovery
    by true = left-last (standing_limits e st x share held vars) (leaves cessation_recovery (recovery_limit recovery))
    by false = omega arith

-- the limits beside recovery leave no more than is available: in an event too, where that bounds the first of them
pub left-available : (e : Equipment) (st : Settings) (x : Slice) (share held : ℕ) (vars : ℤ) → left_by (standing_limits e st x share held vars) ≤ available x
left-available e st x share held vars = by (eqb (side_of (frequency x)) no_side)
  where
    rest : List Limited
    rest = leaves volt_watt (watt_curve e st x) ∷ leaves nameplate_rating (nameplate vars) ∷ []

    by : (t : Bool) → left_by (cond t (calm_limits x share) (event_limits x held) ++ rest) ≤ available x
    by true = left-first (leaves available_power (available x)) (leaves operators_limit (operator_limit x) ∷ leaves ramp_share share ∷ rest)
    by false = omega (arith, left-first (leaves frequency_droop (min (drooped (frequency x) held) (available x))) rest)

-- one limit more behind them
pub standing-then : (e : Equipment) (st : Settings) (x : Slice) (share held : ℕ) (vars : ℤ) (l : Limited)
    → left_by (standing_limits e st x share held vars ++ (l ∷ [])) ≡ min (left_by (standing_limits e st x share held vars)) l.watts
standing-then e st x share held vars l =
    let rest = leaves volt_watt (watt_curve e st x) ∷ leaves nameplate_rating (nameplate vars) ∷ [] in
    left-then (standing_limits e st x share held vars) l [] (omega (arith, length-append (first_limits x share held) rest))

-- nor are the watts of a sample above it
pub watts-available : (e : Equipment) (st : Settings) (x : Slice) (status share recovery held : ℕ) → watts_of e st x status share recovery held ≤ available x
unfolding watts_of
watts-available e st x status share recovery held = by (exports status)
  where
    vars : ℤ
    vars = vars_of e st x status

    by : (b : Bool) → cond b (left_by (power_limits e st x share recovery held vars)) 0 ≤ available x
    by true =
        let all = standing-then e st x share held vars (leaves cessation_recovery (recovery_limit recovery)) in
        omega (arith, all, left-available e st x share held vars)
    by false = omega arith

-- a board that gives power is in service, and on the frequency's side
pub giving-side : (on : Bool) (r : Region) (full : Bool) (f : ℕ) → exports (status_of on r full) ≡ true → side_after on f ≡ side_of f
giving-side false r full f p = absurd (false≢true p)
giving-side true r full f p = refl

-- the first of them, and then the others
pub first_then : (x : Slice) (share held : ℕ) (l : Limited) (ls : List Limited)
    → left_by (first_limits x share held ++ (l ∷ ls)) ≡ min (left_by (first_limits x share held)) (left_by (l ∷ ls))
first_then x share held l ls = left-then (first_limits x share held) l ls (by (eqb (side_of (frequency x)) no_side))
  where
    by : (t : Bool) → 0 < length (cond t (calm_limits x share) (event_limits x held))
    by true = omega arith
    by false = omega arith

pub calm-left : (x : Slice) (share held : ℕ) → side_of (frequency x) ≡ no_side
    → left_by (first_limits x share held) ≡ min (available x) (min (operator_limit x) share)
calm-left x share held p = rw p

pub event-left : (x : Slice) (share held : ℕ) → ¬ (side_of (frequency x) ≡ no_side)
    → left_by (first_limits x share held) ≡ min (drooped (frequency x) held) (available x)
event-left x share held p = rw (ne_eqb (side_of (frequency x)) no_side p)

-- there are limits
pub some-limits : (e : Equipment) (st : Settings) (x : Slice) (share recovery held : ℕ) (vars : ℤ) → 0 < length (power_limits e st x share recovery held vars)
some-limits e st x share recovery held vars =
    omega (arith, length-append (standing_limits e st x share held vars) (leaves cessation_recovery (recovery_limit recovery) ∷ []))

-- all limits: the first of them, and then the other three
pub all_then : (e : Equipment) (st : Settings) (x : Slice) (share recovery held : ℕ) (vars : ℤ)
    → left_by (power_limits e st x share recovery held vars)
    ≡ least (left_by (first_limits x share held) ∷ watt_curve e st x ∷ nameplate vars ∷ recovery_limit recovery ∷ [])
all_then e st x share recovery held vars =
    let a = leaves volt_watt (watt_curve e st x) in
    let b = leaves nameplate_rating (nameplate vars) in
    let c = leaves cessation_recovery (recovery_limit recovery) in
    ap left_by (append_assoc (first_limits x share held) (a ∷ b ∷ []) (c ∷ [])) ∙ first_then x share held a (b ∷ c ∷ [])

-- ---- of histories

module _ (e : Equipment) (st : Settings) where
  pub recovery-top : (h : History) → history_recovery e st h ≤ recovery_top
  unfolding history_recovery
  recovery-top h = since-top (since_cessation e st h)

  pub side-below : (h : History) → history_side e st h ≤ 2
  unfolding history_side
  side-below [] = lit≤ tt
  side-below (x ∷ h) = after-top (serving e st (x ∷ h)) (frequency x)

  pub tripped-side : (h : History) → serving e st h ≡ false → history_side e st h ≡ no_side
  unfolding history_side
  tripped-side [] p = refl
  tripped-side (x ∷ h) p = rw p

  pub side-none : (h : History) → history_side e st h ≡ no_side → history_held e st h ≡ 0
  unfolding history_held
  side-none [] p = refl
  side-none (x ∷ h) p = rw p

  -- no power is above the rating, accepted samples or not: the recovery count never lets more through
  holding-top : (h : History) (held : ℕ) → watts_holding e st h held ≤ 10000
  unfolding watts_holding
  holding-top [] held = omega arith
  holding-top (x ∷ h) held =
      let within = watts-within e st x (history_status e st (x ∷ h)) (history_share e st (x ∷ h)) (history_recovery e st (x ∷ h)) held in
      omega (arith, within, recovery-top (x ∷ h))

  pub watts-top : (h : History) → history_watts e st h ≤ 10000
  unfolding history_watts
  watts-top h = holding-top h (history_held e st h)

  pub held-top : (h : History) → history_held e st h ≤ 10000
  unfolding history_held
  held-top [] = omega arith
  held-top (x ∷ h) = held-within (history_side e st h) (history_side e st (x ∷ h)) _ _ (held-top h) (holding-top h (history_held e st h))
