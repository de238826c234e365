-- Spec 13.11: sham rules, of a status and of the watts, that the claims of explain/specs/Explains.antt must stop.
-- Assumes nothing.
use Rattle.std.specs.Prelude.{Bool, cond, ◌&&◌, List, [], ◌∷◌, ◌++◌, map, ℕ, suc, eqb, leb}
use Rattle.rules.specs.Samples.{Slice, Equipment, frequency, lowest, highest}
use Rattle.rules.specs.Counters.{trip_rules}
use Rattle.rules.specs.Regions.{rank, frequency_region, region_in}
use Rattle.rules.specs.Droop.{no_side}
use Rattle.rules.specs.Service.{Limited, exports, first_limits, left_by}
use Rattle.rules.specs.History.{History, complete, serving, history_status, history_report}
use Rattle.rules.specs.declared.Settings.{Settings}
use Rattle.rules.specs.declared.Region.{Region}
use Rattle.explain.specs.Explained.{history_status_rule, history_limits}
use Rattle.wattsrules.specs.WattsRules.{limit_named, last_limits, watts_rule}
use Rattle.statusrules.specs.StatusRules.{first_worst}
use Rattle.explain.specs.Explained.{history_watts_rule}
use Rattle.reasons.specs.declared.StatusRule.{StatusRule}
use Rattle.reasons.specs.declared.WattsRule.{WattsRule}

-- ---- of a status

-- names the wait wherever the board is tripped, at the step of the trip too
unfoldable pub waits_at_trip : Equipment → Settings → History → StatusRule
waits_at_trip e st h = cond (serving e st h) (history_status_rule e st h) StatusRule.WaitNotFull

-- the place of the last test of a list that passes
abbrev last_place : ℕ → ℕ → List Bool → ℕ
last_place found i [] = found
last_place found i (passes ∷ tests) = last_place (cond passes i found) (suc i) tests

abbrev placed_at : ℕ → StatusRule → StatusRule
placed_at n StatusRule.Permission = StatusRule.Permission
placed_at n (StatusRule.TripLimit place) = StatusRule.TripLimit n
placed_at n StatusRule.WaitNotFull = StatusRule.WaitNotFull
placed_at n StatusRule.Returned = StatusRule.Returned
placed_at n StatusRule.LowestVoltage = StatusRule.LowestVoltage
placed_at n StatusRule.HighestVoltage = StatusRule.HighestVoltage
placed_at n StatusRule.Frequency = StatusRule.Frequency

-- names the last limit that has run out
unfoldable pub last_limit : Equipment → Settings → History → StatusRule
last_limit e st h = placed_at (last_place 0 1 (map (complete h) (trip_rules e st))) (history_status_rule e st h)

abbrev better : Region → Region → Region
better a b = cond (leb (rank a) (rank b)) a b

-- names what has the best of the three regions
abbrev best_cause : Equipment → Settings → Slice → StatusRule
best_cause e st x =
    let low = region_in e st (lowest e x) in
    let high = region_in e st (highest e x) in
    first_worst (better low (better high (frequency_region (frequency x)))) low high

unfoldable pub best_region : Equipment → Settings → History → StatusRule
best_region e st [] = history_status_rule e st []
best_region e st (x ∷ h) =
    cond (serving e st h && serving e st (x ∷ h)) (best_cause e st x) (history_status_rule e st (x ∷ h))

-- ---- of the watts

-- the last limit of a list that leaves so many watts
abbrev last_leaving : WattsRule → ℕ → List Limited → WattsRule
last_leaving found watts [] = found
last_leaving found watts (l ∷ limits) = last_leaving (cond (eqb l.watts watts) (limit_named l.limit) found) watts limits

unfoldable pub last_among_equals : Equipment → Settings → History → WattsRule
last_among_equals e st [] = WattsRule.Status
last_among_equals e st (x ∷ h) =
    let limits = history_limits e st x h in
    cond (exports (history_status e st (x ∷ h))) (last_leaving WattsRule.Status (left_by limits) limits) WattsRule.Status

-- lists droop last in an event, as it has the last number
unfoldable pub droop_last : Equipment → Settings → History → WattsRule
droop_last e st [] = WattsRule.Status
droop_last e st (x ∷ h) =
    let r = history_report e st (x ∷ h) in
    let turned = last_limits e st x r.recovery r.vars ++ first_limits x r.share r.held in
    cond (eqb r.side no_side) (history_watts_rule e st (x ∷ h)) (watts_rule r.status turned)

-- names the status in mandatory operation
unfoldable pub status_in_mandatory : Equipment → Settings → History → WattsRule
status_in_mandatory e st h = cond (eqb (history_status e st h) 3) WattsRule.Status (history_watts_rule e st h)
