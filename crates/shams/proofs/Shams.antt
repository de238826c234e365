-- Each sham board is caught by demand 2: a list of one or two calls, on which antt computes what it shows and what a board must show.
-- Assumes nothing.
use mathlib.Core.Path.{◌≡◌, refl, ap}
use mathlib.Core.Bool.{true, false, false≢true}
use mathlib.Core.Logic.{inl, inr}
use mathlib.Core.List.{List, [], ◌∷◌}
use Prim.Native.Nat.{ℕ, ◌≤◌}
use native.Mathlib.Omega.{arith}
use lib.IntN.{pos}
use lib.ListN.{get_or, replicate}
use Rattle.rules.specs.Tests.{all, any}
use Rattle.rules.specs.Settings.{settings_accepted}
use Rattle.rules.specs.Samples.{Slice}
use Rattle.rules.specs.Counters.{broken, in_range}
use Rattle.rules.specs.Reports.{Items}
use Rattle.rules.specs.Images.{image, saved_into}
use Rattle.rules.specs.Records.{step_of}
use Rattle.rules.specs.History.{History, history_report}
use Rattle.rules.specs.declared.Settings.{Settings}
use Rattle.rules.specs.declared.Board.{Board}
use Rattle.rules.specs.declared.Report.{Report}
use Rattle.rules.specs.declared.Stepped.{Stepped}
use Rattle.causes.specs.Calls.{Call, ruled_by}
use Rattle.rules.specs.Refusals.{answer_number}
use Rattle.claims.specs.TripAndReturn.{record_of, TripAndReturn}
use Rattle.claims.specs.LentRecords.{ReadsRecords}
use Rattle.claims.specs.Recovery.{RestoresPower}
use Rattle.claims.specs.RideThroughEnds.{CeasesBeyondRideThrough}
use Rattle.claims.specs.TwoHistories.{TwoHistoriesBy}
use Rattle.theorems.proofs.RampPairs.{buffer}
use Rattle.equipment.specs.ExampleSheets.{example_sheet}
use Rattle.shams.specs.Shams.{trips_early, invents_counters, always_tripped, repeats_first, keeps_record, turns_away, takes_as_lent}
use Rattle.shams.specs.ShamRefusals.{refuses_last_code}
use Rattle.shams.specs.Shams.{turns_away_last_code, saved_without_ramp, saved_without_ninth, saved_without_recovery}
use Rattle.shams.specs.Shams.{saved_without_side, saved_without_held, report_without_bits}
use Rattle.shams.specs.Shams.{report_full_at_once, report_unheld, report_withheld, stops_counting, report_riding_on}
use Rattle.shams.specs.Shams.{report_ceasing_at, report_momentary}
use Rattle.equipment.proofs.Examples.{tabled}
use Rattle.shams.proofs.Opened.{check_opened, history_opened, image_opened, step_opened}
use Rattle.shams.proofs.ShamReport.{agree-without-bits}

abbrev quick : Settings
quick = example_sheet 0

pub quick-accepted : settings_accepted quick ≡ true
unfolding check_opened
quick-accepted = refl

pub waiting-accepted : settings_accepted (example_sheet 2) ≡ true
unfolding check_opened
waiting-accepted = refl

abbrev calls : ℕ → ℕ → Call
calls frequency permission = record { settings = quick; slice = 1000 ∷ 1000 ∷ 1000 ∷ frequency ∷ permission ∷ 10000 ∷ 10000 ∷ [] }

abbrev calm : Call
calm = calls 60000 1

-- in service and a limit broken once: ours rides through in mandatory operation
pub early : ¬ TripAndReturn tabled (trips_early tabled) quick
unfolding trips_early step_opened history_opened
early d =
    let e : ◌≡◌ {A = ℕ} 0 3 = ap (λ (r : Report). r.status) (d.shows (calm ∷ calls 61201 1 ∷ []) (inl refl, (inl refl, tt))) in
    omega arith

-- after a sample at nominal the ninth counter is 1
pub invented : ¬ TripAndReturn tabled (invents_counters tabled) quick
unfolding invents_counters record_of step_opened history_opened
invented d =
    let e : ◌≡◌ {A = ℕ} 2 1 = ap (λ (b : Board). get_or b.counters 8 0) (d.keeps (calm ∷ []) (inl refl, tt)) in
    omega arith

-- a wait of 0 is one step: ours enters service
pub tripped : ¬ TripAndReturn tabled (always_tripped tabled) quick
unfolding always_tripped step_opened history_opened
tripped d =
    let e : ◌≡◌ {A = ℕ} 0 1 = ap (λ (r : Report). r.status) (d.shows (calm ∷ []) (inl refl, tt)) in
    omega arith

-- permission off: ours trips
pub repeated : ¬ TripAndReturn tabled (repeats_first tabled) quick
unfolding repeats_first step_opened history_opened
repeated d =
    let e : ◌≡◌ {A = ℕ} 1 0 = ap (λ (r : Report). r.status) (d.shows (calm ∷ calls 60000 0 ∷ []) (inl refl, (inl refl, tt))) in
    omega arith

-- one step of the ramp: ours shows a share of 100
pub kept : ¬ TripAndReturn tabled (keeps_record tabled) quick
unfolding keeps_record step_opened history_opened
kept d =
    let e : ◌≡◌ {A = ℕ} 0 100 = ap (λ (r : Report). r.share) (d.shows (calm ∷ calm ∷ []) (inl refl, (inl refl, tt))) in
    omega arith

-- a second sample in service whose status stays: ours reports it
pub refusing : ¬ TripAndReturn tabled (turns_away tabled) quick
unfolding turns_away step_opened history_opened
refusing d =
    let e : ◌≡◌ {A = ℕ} 4 0 = ap answer_number (d.answers (calm ∷ []) calm (record { under = (inl refl, tt); lends = inl refl; accepted = refl })) in
    omega arith

-- a first sample with a code of 4095: ours reports it
abbrev last_code_once : Call
last_code_once = record { settings = quick; slice = 4095 ∷ 1000 ∷ 1000 ∷ 60000 ∷ 1 ∷ 10000 ∷ 10000 ∷ [] }

pub leaving : ¬ TripAndReturn tabled (turns_away_last_code tabled) quick
unfolding turns_away_last_code refuses_last_code any step_of check_opened
leaving d =
    let e : ◌≡◌ {A = ℕ} 4 0 = ap answer_number (d.answers [] last_code_once (record { under = tt; lends = inl refl; accepted = refl })) in
    omega arith

-- in service with a ramp count one above the ramp length, in mandatory operation, where the count stays
pub as_lent : ¬ ReadsRecords tabled (takes_as_lent tabled)
unfolding takes_as_lent step_opened
as_lent d =
    let b : Board = record { status = 3; counters = replicate 9 0; ramp = 101; watts = 0; vars = pos 0; recovery = 40; side = 0; held = 0 } in
    let e : ◌≡◌ {A = ℕ} 101 100 = ap (λ (t : Stepped). t.board.ramp) (d.steps b (calls 61201 1) refl) in
    omega arith

-- ---- sham images

-- a sample at nominal with no power available, so that the ramp shows in the share alone
abbrev idle : ℕ → Call
idle wait = record { settings = example_sheet wait; slice = 1000 ∷ 1000 ∷ 1000 ∷ 60000 ∷ 1 ∷ 0 ∷ 0 ∷ [] }

-- two ramp counts, one image: the shares differ at once
pub no-ramp : ¬ TwoHistoriesBy saved_without_ramp (history_report tabled) (ruled_by tabled) quick
unfolding saved_without_ramp step_opened history_opened image_opened
no-ramp d =
    let f = (d (idle 0 ∷ idle 0 ∷ []) (idle 0 ∷ idle 0 ∷ idle 0 ∷ []) (inl refl, (inl refl, tt)) (inl refl, (inl refl, (inl refl, tt))) buffer buffer
    (omega arith) (omega arith)).0 refl in
    let e : ◌≡◌ {A = ℕ} 100 200 = ap (λ (r : Items). r.share) (f [] (omega arith) tt) in
    omega arith

-- two counts of a wait of 2, one image: after one sample more one board is in service
pub no-ninth : ¬ TwoHistoriesBy saved_without_ninth (history_report tabled) (ruled_by tabled) (example_sheet 2)
unfolding saved_without_ninth step_opened history_opened image_opened
no-ninth d =
    let f = (d [] (idle 2 ∷ []) tt (inl refl, tt) buffer buffer (omega arith) (omega arith)).0 refl in
    let e : ◌≡◌ {A = ℕ} 0 1 = ap (λ (r : Items). r.status) (f ((idle 2).slice ∷ []) (omega arith) (refl, tt)) in
    omega arith

-- a step above 12000 with no power available, where it ceases to energize
abbrev swell : Call
swell = record { settings = quick; slice = 1000 ∷ 1000 ∷ 1441 ∷ 60000 ∷ 1 ∷ 0 ∷ 0 ∷ [] }

-- one sample after a cessation, and one with none before it, one image: the counts differ at once
pub no-recovery : ¬ TwoHistoriesBy saved_without_recovery (history_report tabled) (ruled_by tabled) quick
unfolding saved_without_recovery step_opened history_opened image_opened
no-recovery d =
    let f = (d (idle 0 ∷ swell ∷ idle 0 ∷ []) (idle 0 ∷ idle 0 ∷ []) (inl refl, (inl refl, (inl refl, tt))) (inl refl, (inl refl, tt)) buffer buffer
    (omega arith) (omega arith)).0 refl in
    let e : ◌≡◌ {A = ℕ} 1 40 = ap (λ (r : Items). r.recovery) (f [] (omega arith) tt) in
    omega arith

-- a sample at this frequency with no power available
abbrev idle_at : ℕ → Call
idle_at frequency = record { settings = quick; slice = 1000 ∷ 1000 ∷ 1000 ∷ frequency ∷ 1 ∷ 0 ∷ 0 ∷ [] }

-- a second sample above the deadband, and one at nominal, neither with power to hold, one image: the sides differ at once
pub no-side : ¬ TwoHistoriesBy saved_without_side (history_report tabled) (ruled_by tabled) quick
unfolding saved_without_side step_opened history_opened image_opened
no-side d =
    let f = (d (idle 0 ∷ idle_at 60037 ∷ []) (idle 0 ∷ idle 0 ∷ []) (inl refl, (inl refl, tt)) (inl refl, (inl refl, tt)) buffer buffer
    (omega arith) (omega arith)).0 refl in
    let e : ◌≡◌ {A = ℕ} 1 0 = ap (λ (r : Items). r.side) (f [] (omega arith) tt) in
    omega arith

-- an event with no power available, after 100 watts and after none, one image: the held powers differ at once
pub no-held : ¬ TwoHistoriesBy saved_without_held (history_report tabled) (ruled_by tabled) quick
unfolding saved_without_held step_opened history_opened image_opened
no-held d =
    let f = (d (calm ∷ calm ∷ idle_at 60037 ∷ []) (calm ∷ idle 0 ∷ idle_at 60037 ∷ []) (inl refl, (inl refl, (inl refl, tt))) (inl refl, (inl refl, (inl refl, tt))) buffer buffer
    (omega arith) (omega arith)).0 refl in
    let e : ◌≡◌ {A = ℕ} 100 0 = ap (λ (r : Items). r.held) (f [] (omega arith) tt) in
    omega arith

-- ---- sham recoveries

-- in cease the count is 0
pub full-at-once : ¬ RestoresPower tabled quick (report_full_at_once tabled quick)
unfolding report_full_at_once history_opened
full-at-once d =
    let e : ◌≡◌ {A = ℕ} 40 0 = d.ceased (swell.slice ∷ (idle 0).slice ∷ []) refl in
    omega arith

-- four samples at nominal, one above 12000, and one at nominal, the newest first, all with power available: the share is 400, and 250 is let through
abbrev power : ℕ → Slice
power code = 1000 ∷ 1000 ∷ code ∷ 60000 ∷ 1 ∷ 10000 ∷ 10000 ∷ []

abbrev back : History
back = power 1000 ∷ power 1441 ∷ power 1000 ∷ power 1000 ∷ power 1000 ∷ power 1000 ∷ []

pub unheld : ¬ RestoresPower tabled quick (report_unheld tabled quick)
unfolding report_unheld history_opened
unheld d =
    let e : 400 ≤ 250 = d.bound back in
    omega arith

pub withheld : ¬ RestoresPower tabled quick (report_withheld tabled quick)
unfolding report_withheld history_opened
withheld d =
    let e : ◌≡◌ {A = ℕ} 0 250 = d.lesser (power 1000) (power 1441 ∷ power 1000 ∷ power 1000 ∷ power 1000 ∷ power 1000 ∷ []) refl in
    omega arith

-- ---- shams where the frequency is far outside

-- in service, with no limit broken at nominal and of1 broken here: ours counts 1
pub stopped : ¬ TripAndReturn tabled (stops_counting tabled) quick
unfolding stops_counting record_of step_opened history_opened
stopped d =
    let e : ◌≡◌ {A = ℕ} 0 1 = ap (λ (b : Board). get_or b.counters 6 0) (d.keeps (calm ∷ calls 62001 1 ∷ []) (inl refl, (inl refl, tt))) in
    omega arith

-- two samples at nominal, and one at this frequency, all with power available: the share is 100; as much is held then, of which droop makes 9983 at 56999
abbrev hertz : ℕ → Slice
hertz f = 1000 ∷ 1000 ∷ 1000 ∷ f ∷ 1 ∷ 10000 ∷ 10000 ∷ []

abbrev steady : History
steady = hertz 60000 ∷ hertz 60000 ∷ []

pub riding-on : ¬ CeasesBeyondRideThrough tabled quick (report_riding_on tabled quick)
unfolding report_riding_on history_opened
riding-on d =
    let e : ◌≡◌ {A = ℕ} 9983 0 = (d.nothing (hertz 56999) steady (inl (omega arith))).0 in
    omega arith

pub low_end : ¬ CeasesBeyondRideThrough tabled quick (report_ceasing_at tabled 57000 quick)
unfolding report_ceasing_at history_opened
low_end d = false≢true ((d.rides (hertz 57000) steady (omega arith) (omega arith) refl).1 (refl, refl))

pub high_end : ¬ CeasesBeyondRideThrough tabled quick (report_ceasing_at tabled 62000 quick)
unfolding report_ceasing_at history_opened
high_end d = false≢true ((d.rides (hertz 62000) steady (omega arith) (omega arith) refl).1 (refl, refl))

pub momentary : ¬ CeasesBeyondRideThrough tabled quick (report_momentary tabled quick)
unfolding report_momentary history_opened
momentary d =
    let e : ◌≡◌ {A = ℕ} 4 5 = (d.ceased (hertz 56999) steady (inl (omega arith)) refl).0 in
    omega arith

-- ---- a sham report

-- all phases at 0, with permission off
abbrev dark : Call
dark = record { settings = quick; slice = 0 ∷ 0 ∷ 0 ∷ 60000 ∷ 0 ∷ 0 ∷ 0 ∷ [] }

dark-out : in_range tabled quick dark.slice ≡ false
unfolding in_range all
dark-out = refl

-- uv1's counter stands at 1 in one image and at 0 in the other, and without bits no run tells it
pub no_bits : ¬ TwoHistoriesBy saved_into (report_without_bits tabled) (ruled_by tabled) quick
unfolding step_opened history_opened image_opened
no_bits d =
    let same = (d [] (dark ∷ []) tt (inl refl, tt) buffer buffer (omega arith) (omega arith)).1 (agree-without-bits quick quick-accepted dark.slice dark-out) in
    let e : ◌≡◌ {A = ℕ} 0 1 = ap (λ (bytes : List ℕ). get_or bytes 4 0) same in
    omega arith
