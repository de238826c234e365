-- Sham rules are caught: there is no choice in the rules, and a short history tells each sham from ours.
-- Assumes nothing.
use mathlib.Core.Path.{◌≡◌, ap}
use mathlib.Core.List.{[], ◌∷◌, ◌++◌}
use Prim.Native.Nat.{ℕ}
use native.Mathlib.Omega.{arith}
use lib.ListN.{replicate}
use Rattle.rules.specs.Tests.{all}
use Rattle.rules.specs.Sensing.{voltage}
use Rattle.rules.specs.Samples.{Slice}
use Rattle.rules.specs.declared.Settings.{Settings}
use Rattle.reasons.specs.Numbers.{status_rule_number, limit_place, watts_rule_number}
use Rattle.explain.specs.Explained.{history_status_rule, history_watts_rule}
use Rattle.statusrules.specs.StatusRules.{region_cause}
use Rattle.explain.specs.Explains.{NamesStatusRule, NamesWattsRule}
use Rattle.explain.proofs.Naming.{one-status-rule, one-watts-rule}
use Rattle.equipment.specs.ExampleSheets.{example_sheet}
use Rattle.equipment.proofs.Examples.{tabled}
use Rattle.shams.proofs.Opened.{history_opened}
use Rattle.shams.specs.ShamRules.{waits_at_trip, last_limit, best_region, last_among_equals, droop_last, status_in_mandatory}

abbrev quick : Settings
quick = example_sheet 0

-- a sample with one phase at a code, and a frequency, permission and available power
abbrev sample : ℕ → ℕ → ℕ → ℕ → Slice
sample code frequency permit available = 1000 ∷ 1000 ∷ code ∷ frequency ∷ permit ∷ available ∷ 10000 ∷ []

abbrev nominal : Slice
nominal = sample 1000 60000 1 10000

-- permission off: ours says so
pub waits : ¬ NamesStatusRule tabled quick (waits_at_trip tabled quick)
unfolding waits_at_trip history_status_rule history_opened
waits d =
    let e : ◌≡◌ {A = ℕ} 3 1 = ap status_rule_number (one-status-rule tabled quick (waits_at_trip tabled quick) d (sample 1000 60000 0 10000 ∷ nominal ∷ [])) in
    omega arith

-- sixteen samples above 12000 and below 56500: ov2 and uf2 run out at once
pub turned : ¬ NamesStatusRule tabled quick (last_limit tabled quick)
unfolding last_limit history_status_rule history_opened
turned d =
    let e : ◌≡◌ {A = ℕ} 6 4 = ap limit_place (one-status-rule tabled quick (last_limit tabled quick) d
    (replicate 16 (sample 1441 56000 1 10000) ++ (nominal ∷ []))) in
    omega arith

-- voltages at nominal and a frequency in mandatory operation: ours names the frequency
pub best : ¬ NamesStatusRule tabled quick (best_region tabled quick)
unfolding best_region region_cause history_status_rule history_opened
best d =
    let e : ◌≡◌ {A = ℕ} 5 7 = ap status_rule_number (one-status-rule tabled quick (best_region tabled quick) d (sample 1000 58000 1 10000 ∷ nominal ∷ [])) in
    omega arith

-- a return with no power available: share and available power are both 0
pub last : ¬ NamesWattsRule tabled quick (last_among_equals tabled quick)
unfolding last_among_equals history_watts_rule history_opened
last d =
    let e : ◌≡◌ {A = ℕ} 4 2 = ap watts_rule_number (one-watts-rule tabled quick (last_among_equals tabled quick) d (sample 1000 60000 1 0 ∷ [])) in
    omega arith

-- mandatory operation by a voltage, right after a return: the share is 0
pub mandatory : ¬ NamesWattsRule tabled quick (status_in_mandatory tabled quick)
unfolding status_in_mandatory history_watts_rule history_opened
mandatory d =
    let e : ◌≡◌ {A = ℕ} 1 4 = ap watts_rule_number (one-watts-rule tabled quick (status_in_mandatory tabled quick) d (sample 700 60000 1 10000 ∷ nominal ∷ [])) in
    omega arith

-- in mandatory operation at 57000 after 200 watts: droop would give more than is available, and all four limits leave 10000
pub droop-last : ¬ NamesWattsRule tabled quick (droop_last tabled quick)
unfolding droop_last history_watts_rule history_opened
droop-last d =
    let e : ◌≡◌ {A = ℕ} 5 8 = ap watts_rule_number (one-watts-rule tabled quick (droop_last tabled quick) d (sample 1000 57000 1 10000 ∷ nominal ∷ nominal ∷ nominal ∷ [])) in
    omega arith
