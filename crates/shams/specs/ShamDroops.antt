-- Spec 13.14: sham droops, as reports of histories, which `Droops` must stop. Each has one fault and goes by its own side, held power and watts
-- from sample to sample; status, bits, share, recovery count and vars, on which droop has no bearing, are those of ours.
-- Assumes nothing.
use Rattle.std.specs.Prelude.{Bool, cond, ◌&&◌, List, [], ◌∷◌, ℕ, ◌+◌, ◌-◌, ◌*◌, ◌/◌, min, eqb, ltb}
use Rattle.rules.specs.Samples.{Slice, Equipment, frequency, available, operator_limit}
use Rattle.rules.specs.Droop.{deadband_high, no_side, side_of, side_after, held_after}
use Rattle.rules.specs.Service.{exports, least}
use Rattle.rules.specs.Reports.{Items}
use Rattle.rules.specs.History.{History, serving, watts_holding, history_report}
use Rattle.rules.specs.declared.Settings.{Settings}
use Rattle.claims.specs.Droop.{least_with}

-- what a sham goes by
pub record Drooping : Type 0 where
  pub side : ℕ
  pub held : ℕ
  pub watts : ℕ

abbrev drooping : ℕ → ℕ → ℕ → Drooping
drooping side held watts = record { side = side; held = held; watts = watts }

-- one sample more: the settings, the sample, the history before it, and how it stood after that
abbrev More : Type 0
More = Settings → Slice → History → Drooping → Drooping

-- how it stands after a history
unfoldable pub drooping_by : More → Settings → History → Drooping
drooping_by more st [] = drooping no_side 0 0
drooping_by more st (x ∷ h) = more st x h (drooping_by more st h)

-- the report of a history, with that side, held power and watts
abbrev report_by : Equipment → More → Settings → History → Items
report_by e more st h =
    let r = history_report e st h in
    let d = drooping_by more st h in
    record { status = r.status; bits = r.bits; share = r.share; recovery = r.recovery; side = d.side; held = d.held; watts = d.watts; vars = r.vars }

-- ---- as it should be

abbrev side_now : Equipment → Settings → Slice → History → ℕ
side_now e st x h = side_after (serving e st (x ∷ h)) (frequency x)

abbrev held_now : Drooping → ℕ → ℕ
held_now d side = held_after d.side side d.held d.watts

-- the watts of the sample where this power is held
abbrev watts_now : Equipment → Settings → Slice → History → ℕ → ℕ
watts_now e st x h held = watts_holding e st (x ∷ h) held

-- ---- another held power

-- taken anew at each step
unfoldable pub report_held_anew : Equipment → Settings → History → Items
report_held_anew e =
    report_by e (λ st x h d.
    let side = side_now e st x h in
    let held = held_after no_side side 0 d.watts in
    drooping side held (watts_now e st x h held))

-- where an event begins, the watts of that step and not those before it
unfoldable pub report_held_own : Equipment → Settings → History → Items
report_held_own e =
    report_by e (λ st x h d.
    let side = side_now e st x h in
    let watts = watts_now e st x h (held_now d side) in
    drooping side (held_after d.side side d.held watts) watts)

-- kept in a jump from side to side
unfoldable pub report_held_across : Equipment → Settings → History → Items
report_held_across e =
    report_by e (λ st x h d.
    let side = side_now e st x h in
    let held = cond (eqb side no_side) 0 (cond (eqb d.side no_side) d.watts d.held) in
    drooping side held (watts_now e st x h held))

-- ---- other watts

-- the operator's limit binds in an event too
unfoldable pub report_limited : Equipment → Settings → History → Items
report_limited e =
    report_by e (λ st x h d.
    let side = side_now e st x h in
    let held = held_now d side in
    drooping side held (min (watts_now e st x h held) (operator_limit x)))

-- a droop whose quotient is rounded up, above the deadband
abbrev rounded_up : Slice → ℕ → ℕ
rounded_up x held = min (held - ((frequency x - deadband_high) * 10 + 2) / 3) (available x)

unfoldable pub report_rounded_up : Equipment → Settings → History → Items
report_rounded_up e =
    report_by e (λ st x h d.
    let side = side_now e st x h in
    let held = held_now d side in
    let r = history_report e st (x ∷ h) in
    drooping side held
    (cond (exports r.status && ltb deadband_high (frequency x)) (least_with e st x r (rounded_up x held)) (watts_now e st x h held)))

-- ---- another side

-- what the limits outside an event leave where power is given
abbrev calm_watts : Equipment → Slice → Settings → Items → ℕ
calm_watts e x st r = cond (exports r.status) (least_with e st x r (least (available x ∷ operator_limit x ∷ r.share ∷ []))) 0

-- no event at 60037
unfoldable pub report_ended_early : Equipment → Settings → History → Items
report_ended_early e =
    report_by e (λ st x h d.
    let side = side_now e st x h in
    let held = held_now d side in
    cond (eqb (frequency x) 60037) (drooping no_side 0 (calm_watts e x st (history_report e st (x ∷ h)))) (drooping side held (watts_now e st x h held)))

-- kept through a trip, and what is held with it
unfoldable pub report_side_kept : Equipment → Settings → History → Items
report_side_kept e =
    report_by e (λ st x h d.
    let side = cond (serving e st (x ∷ h)) (side_of (frequency x)) d.side in
    let held = held_now d side in
    drooping side held (watts_now e st x h held))
