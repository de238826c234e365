-- Spec 12.3, 12.4: what a list of accepted samples gives. It looks at no record and at no step; that the record
-- gives the same is `demand2` of the crate `laws`.
-- Assumes nothing.
use Rattle.std.specs.Prelude.{Bool, true, false, cond, List, [], ◌∷◌, map, ℕ, suc, min, leb, ℤ, pos}
use Rattle.std.proofs.Math.Option.{Option, none, some}
use Rattle.rules.specs.Tests.{any}
use Rattle.rules.specs.Samples.{Slice, Equipment, frequency, permitted}
use Rattle.rules.specs.Counters.{Rule, trip_rules, ready_rule, rules}
use Rattle.rules.specs.Regions.{region_of, is_continuous, ceases}
use Rattle.rules.specs.Droop.{no_side, side_after, held_after}
use Rattle.rules.specs.Service.{serves, status_of, share_of, recovery_top, vars_of, watts_of}
use Rattle.rules.specs.Reports.{Items}
use Rattle.rules.specs.declared.Settings.{Settings}

-- the accepted samples of a list of calls, the newest first
abbrev pub History : Type 0
History = List Slice

-- samples put after a history, the oldest of them first
abbrev pub followed_by : History → List Slice → History
followed_by h [] = h
followed_by h (x ∷ run) = followed_by (x ∷ h) run

-- at how many samples in a row, up to the newest, the test has held
unfoldable pub streak : (Slice → Bool) → History → ℕ
streak test [] = 0
streak test (x ∷ h) = cond (test x) (suc (streak test h)) 0

-- what the rule counts has held for its whole time, ending at the newest sample
abbrev pub complete : History → Rule → Bool
complete h r = leb r.top (streak r.counts h)

-- in service after the history
unfoldable pub serving : Equipment → Settings → History → Bool
serving e st [] = false
serving e st (x ∷ h) =
    serves (serving e st h) (permitted x)
    (any (map (complete (x ∷ h)) (trip_rules e st)))
    (complete (x ∷ h) (ready_rule e st))

-- how many samples of the continuous region have come in service since the return
abbrev pub climbed_more : Bool → Bool → Bool → ℕ → ℕ
climbed_more was false continuous n = 0
climbed_more false true continuous n = 0
climbed_more true true continuous n = cond continuous (suc n) n

unfoldable pub climbed : Equipment → Settings → History → ℕ
climbed e st [] = 0
climbed e st (x ∷ h) =
    climbed_more (serving e st h) (serving e st (x ∷ h)) (is_continuous (region_of e st x)) (climbed e st h)

-- spec 6.15: how many samples have come in service since the last one in service in momentary cessation or where it ceases to energize;
-- none where there was no such one since the return
abbrev pub since_more : Bool → Bool → Bool → Option ℕ → Option ℕ
since_more was false ceasing n = none
since_more false true ceasing n = none
since_more true true true n = some 0
since_more true true false none = none
since_more true true false (some n) = some (suc n)

unfoldable pub since_cessation : Equipment → Settings → History → Option ℕ
since_cessation e st [] = none
since_cessation e st (x ∷ h) =
    since_more (serving e st h) (serving e st (x ∷ h)) (ceases (region_of e st x)) (since_cessation e st h)

-- that many, up to 40; 40 where there was none
abbrev pub recovered_since : Option ℕ → ℕ
recovered_since none = recovery_top
recovered_since (some n) = min recovery_top n

unfoldable pub history_status : Equipment → Settings → History → ℕ
history_status e st [] = 0
history_status e st (x ∷ h) = status_of (serving e st (x ∷ h)) (region_of e st x) (leb st.ramp (climbed e st (x ∷ h)))

unfoldable pub history_share : Equipment → Settings → History → ℕ
history_share e st h = share_of st (min st.ramp (climbed e st h))

unfoldable pub history_recovery : Equipment → Settings → History → ℕ
history_recovery e st h = recovered_since (since_cessation e st h)

-- spec 6.16: the side that the newest sample leaves a board in service on
unfoldable pub history_side : Equipment → Settings → History → ℕ
history_side e st [] = no_side
history_side e st (x ∷ h) = side_after (serving e st (x ∷ h)) (frequency x)

-- the watts after the history, where this power is held
unfoldable pub watts_holding : Equipment → Settings → History → ℕ → ℕ
watts_holding e st [] held = 0
watts_holding e st (x ∷ h) held =
    watts_of e st x (history_status e st (x ∷ h)) (history_share e st (x ∷ h)) (history_recovery e st (x ∷ h)) held

-- spec 6.17: the held power: a new event takes the watts of the report before
unfoldable pub history_held : Equipment → Settings → History → ℕ
history_held e st [] = 0
history_held e st (x ∷ h) =
    held_after (history_side e st h) (history_side e st (x ∷ h)) (history_held e st h) (watts_holding e st h (history_held e st h))

unfoldable pub history_watts : Equipment → Settings → History → ℕ
history_watts e st h = watts_holding e st h (history_held e st h)

unfoldable pub history_vars : Equipment → Settings → History → ℤ
history_vars e st [] = pos 0
history_vars e st (x ∷ h) = vars_of e st x (history_status e st (x ∷ h))

-- spec 12.4: the report of a history
unfoldable pub history_report : Equipment → Settings → History → Items
history_report e st h =
    record {
      status = history_status e st h;
      bits = map (complete h) (rules e st);
      share = history_share e st h;
      recovery = history_recovery e st h;
      side = history_side e st h;
      held = history_held e st h;
      watts = history_watts e st h;
      vars = history_vars e st h;
    }
