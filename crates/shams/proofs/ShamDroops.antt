-- Sham droops are caught: a short history under the sheet of spec 10.11, on which antt computes what the sham shows.
-- Assumes nothing.
use mathlib.Core.Path.{◌≡◌, refl}
use mathlib.Core.List.{[], ◌∷◌}
use Prim.Native.Nat.{ℕ}
use native.Mathlib.Omega.{arith}
use Rattle.rules.specs.Tests.{all}
use Rattle.rules.specs.Sensing.{voltage}
use Rattle.rules.specs.Samples.{Slice}
use Rattle.rules.specs.History.{History}
use Rattle.rules.specs.declared.Settings.{Settings}
use Rattle.claims.specs.Droop.{Droops}
use Rattle.equipment.specs.ExampleSheets.{example_sheet}
use Rattle.equipment.proofs.Examples.{tabled}
use Rattle.shams.proofs.Opened.{history_opened}
use Rattle.shams.specs.ShamDroops.{drooping_by, report_held_anew, report_held_own, report_held_across, report_limited}
use Rattle.shams.specs.ShamDroops.{report_rounded_up, report_ended_early, report_side_kept}

abbrev quick : Settings
quick = example_sheet 0

-- at nominal voltage with all power available: the frequency, permission, the operator's limit
abbrev sample : ℕ → ℕ → ℕ → Slice
sample frequency permit limit = 1000 ∷ 1000 ∷ 1000 ∷ frequency ∷ permit ∷ 10000 ∷ limit ∷ []

abbrev at : ℕ → Slice
at frequency = sample frequency 1 10000

-- a return and a step of the ramp: 100 watts
abbrev steady : History
steady = at 60000 ∷ at 60000 ∷ []

-- the second step of an event: 97 held in place of 100
pub anew : ¬ Droops tabled quick (report_held_anew tabled quick)
unfolding report_held_anew drooping_by history_opened
anew d =
    let e : ◌≡◌ {A = ℕ} 97 100 = d.holds 1 (omega arith) steady (λ p. omega (arith, p)) (at 60037) (at 60037 ∷ []) (refl, (refl, tt)) in
    omega arith

-- the first step of one: the same
pub own : ¬ Droops tabled quick (report_held_own tabled quick)
unfolding report_held_own drooping_by history_opened
own d =
    let e : ◌≡◌ {A = ℕ} 97 100 = d.holds 1 (omega arith) steady (λ p. omega (arith, p)) (at 60037) [] (refl, tt) in
    omega arith

-- across to the other side: 97 watts were given before it
pub across : ¬ Droops tabled quick (report_held_across tabled quick)
unfolding report_held_across drooping_by history_opened
across d =
    let e : ◌≡◌ {A = ℕ} 100 97 = d.holds 2 (omega arith) (at 60037 ∷ steady) (λ p. omega (arith, p)) (at 59963) [] (refl, tt) in
    omega arith

-- an operator's limit of 50 in an event: some 97 are due
pub limited : ¬ Droops tabled quick (report_limited tabled quick)
unfolding report_limited drooping_by history_opened
limited d =
    let found = d.less (sample 60037 1 50) steady refl (omega arith) in
    omega (arith, found.2, found.1.not-below (omega arith))

-- 1 mHz above the deadband: 4 in place of 3 less
pub rounded-up : ¬ Droops tabled quick (report_rounded_up tabled quick)
unfolding report_rounded_up drooping_by history_opened
rounded-up d =
    let found = d.less (at 60037) steady refl (omega arith) in
    omega (arith, found.2, found.1.not-below (omega arith))

-- 60037 is above the deadband
pub ended-early : ¬ Droops tabled quick (report_ended_early tabled quick)
unfolding report_ended_early drooping_by history_opened
ended-early d =
    let e : ◌≡◌ {A = ℕ} 0 1 = d.high (at 60037) steady refl (omega arith) in
    omega arith

-- permission is withdrawn in an event
pub side-kept : ¬ Droops tabled quick (report_side_kept tabled quick)
unfolding report_side_kept drooping_by history_opened
side-kept d =
    let e : ◌≡◌ {A = ℕ} 1 0 = (d.tripped (sample 60037 0 10000 ∷ at 60037 ∷ steady) refl).0 in
    omega arith
