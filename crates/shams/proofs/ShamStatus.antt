-- Shams that keep the record and show other reports: which part of demand 2 catches each, and that the others hold.
-- Assumes nothing.
use Rattle.std.specs.Prelude.{Ok, Err}
use mathlib.Core.Path.{◌≡◌, refl, sym, ap, ◌∙◌, subst}
use mathlib.Core.Bool.{Bool, true, false, cond, false≢true}
use mathlib.Core.Logic.{inl}
use mathlib.Core.List.{List, [], ◌∷◌}
use Prim.Native.Nat.{ℕ, max}
use native.Mathlib.Omega.{arith}
use Rattle.rules.specs.Tests.{within}
use Rattle.rules.specs.Settings.{settings_accepted}
use Rattle.rules.specs.Samples.{sample_accepted}
use Rattle.rules.specs.Refusals.{answer_number}
use Rattle.rules.specs.Service.{in_service}
use Rattle.rules.specs.Reports.{report_of}
use Rattle.rules.specs.Records.{fresh, each, next, shown, step_of}
use Rattle.rules.specs.History.{serving, history_status, history_report}
use Rattle.rules.specs.declared.Settings.{Settings}
use Rattle.rules.specs.declared.Board.{Board}
use Rattle.rules.specs.declared.Report.{Report}
use Rattle.rules.specs.Answers.{Answer}
use Rattle.rules.specs.declared.Stepped.{Stepped}
use Rattle.causes.specs.Calls.{Call, Run, ruled_by, last_report, called, called_all, run_of, call_accepted, accepted_samples, Under}
use Rattle.claims.specs.TripAndReturn.{status_before, status_now, Next, Shows, Refuses, Keeps, Trips, Returns}
use Rattle.claims.specs.TripAndReturn.{ReturnsContinuous, TripAndReturn}
use Rattle.basics.proofs.Bools.{both}
use Rattle.laws.proofs.FirstCause.{step-number}
use Rattle.theorems.proofs.Trace.{service-is}
use Rattle.theorems.proofs.Trip.{return-law, return-continuous}
use Rattle.theorems.proofs.Demand2.{demand2, service-of, statuses-trip, statuses-return}
use Rattle.laws.proofs.Steps.{accepted-step, refused-step}
use Rattle.theorems.proofs.Demand2.{statuses-continuous}
use Rattle.equipment.specs.ExampleSheets.{example_sheet}
use Rattle.shams.specs.Shams.{reshown, showing, turned_over, entering, tripped, invents_bits, hides_trips, says_tripped}
use Rattle.equipment.proofs.Examples.{tabled, tabled-sound}
use Rattle.shams.proofs.Opened.{step_opened, history_opened}
use Rattle.shams.proofs.Shams.{quick-accepted}

abbrev quick : Settings
quick = example_sheet 0

-- ours meets demand 2 on this sheet
right : TripAndReturn tabled (ruled_by tabled) quick
right = demand2 tabled tabled-sound quick quick-accepted

-- what our step answers
abbrev answer_of : Board → Call → Answer
answer_of b c = (step_of tabled b c.settings c.slice).answer

number_same : (g : Report → Report) (a : Answer) → answer_number (reshown g a) ≡ answer_number a
number_same g (Ok r) = refl
number_same g (Err cause) = refl

-- ---- a board that shows other reports: its record is ours, and it refuses as ours does

module _ (f : Bool → Report → Report) where
  boards-same : (cs : List Call) (r q : Run) → r.board ≡ q.board → (called_all (showing tabled f) r cs).board ≡ (called_all (ruled_by tabled) q cs).board
  boards-same [] r q e = e
  boards-same (c ∷ cs) r q e =
      boards-same cs (called (showing tabled f) r c) (called (ruled_by tabled) q c) (ap (λ (b : Board). (step_of tabled b c.settings c.slice).board) e)

  board-is : (cs : List Call) → (run_of (showing tabled f) cs).board ≡ (run_of (ruled_by tabled) cs).board
  board-is cs = boards-same cs _ _ refl

  refuses : Refuses (showing tabled f) quick
  refuses cs c u =
      let b = (run_of (showing tabled f) cs).board in
      number_same (f (in_service b.status)) (answer_of b c) ∙ step-number tabled b c.settings c.slice

  keeps : Keeps tabled (showing tabled f) quick
  keeps cs u = board-is cs ∙ right.keeps cs u

  -- the report of an accepted call is the right one, changed
  now-is : (cs : List Call) (c : Call) → Next quick cs c
      → status_now (showing tabled f) cs c
      ≡ (f (in_service (run_of (showing tabled f) cs).board.status) (report_of (history_report tabled quick (c.slice ∷ accepted_samples cs)))).status
  now-is cs c n =
      let r = run_of (showing tabled f) cs in
      ap (λ (a : Answer). (last_report r.report (reshown (f (in_service r.board.status)) a)).status)
      (ap (λ (b : Board). answer_of b c) (board-is cs) ∙ right.answers cs c n)

-- ---- other bits, the same statuses

statuses-same : (cs : List Call) (r q : Run) → r.board ≡ q.board → r.report.status ≡ q.report.status
    → (called_all (showing tabled turned_over) r cs).report.status ≡ (called_all (ruled_by tabled) q cs).report.status
statuses-same [] r q e s = s
statuses-same (c ∷ cs) r q e s =
    statuses-same cs (called (showing tabled turned_over) r c) (called (ruled_by tabled) q c)
    (ap (λ (b : Board). (step_of tabled b c.settings c.slice).board) e)
    (by (answer_of r.board c) ∙ ap (λ (b : Board). (last_report q.report (answer_of b c)).status) e)
  where
    by : (a : Answer) → (last_report r.report (reshown (turned_over (in_service r.board.status)) a)).status ≡ (last_report q.report a).status
    by (Ok x) = refl
    by (Err cause) = s

bits-before : (cs : List Call) → Under quick cs → status_before (showing tabled turned_over) cs ≡ history_status tabled quick (accepted_samples cs)
unfolding report_of history_report
bits-before cs u = statuses-same cs _ _ refl refl ∙ ap (λ (r : Report). r.status) (right.shows cs u)

bits-now : (cs : List Call) (c : Call) → Next quick cs c
    → status_now (showing tabled turned_over) cs c ≡ history_status tabled quick (c.slice ∷ accepted_samples cs)
unfolding report_of history_report
bits-now cs c n = now-is turned_over cs c n

abbrev calls : ℕ → ℕ → Call
calls frequency permission = record { settings = quick; slice = 1000 ∷ 1000 ∷ 1000 ∷ frequency ∷ permission ∷ 10000 ∷ 10000 ∷ [] }

abbrev calm : Call
calm = calls 60000 1

-- after a sample at nominal ready is the one bit
bits-told : ¬ Shows tabled (showing tabled turned_over) quick
unfolding step_opened history_opened
bits-told d =
    let e : ◌≡◌ {A = ℕ} 510 1 = ap (λ (r : Report). r.bits) (d (calm ∷ []) (inl refl, tt)) in
    omega arith

pub only-reports : (¬ Shows tabled (invents_bits tabled) quick) × Refuses (invents_bits tabled) quick × Keeps tabled (invents_bits tabled) quick
    × Trips tabled (invents_bits tabled) quick × Returns tabled (invents_bits tabled) quick × ReturnsContinuous tabled (invents_bits tabled) quick
unfolding invents_bits
only-reports = (
  bits-told,
  refuses turned_over,
  keeps turned_over,
  statuses-trip tabled quick (showing tabled turned_over) bits-before bits-now,
  statuses-return tabled quick (showing tabled turned_over) bits-before bits-now,
  statuses-continuous tabled quick (showing tabled turned_over) bits-before bits-now tabled-sound quick-accepted,
)

-- ---- trips that are hidden

-- where it says that it is tripped, its record is
abbrev Truthful : Run → Type 0
Truthful r = r.report.status ≡ 0 → in_service r.board.status ≡ false

-- a board at work, after a step of ours
abbrev shown_by : Run → Stepped → Run
shown_by r t = record { board = t.board; report = last_report r.report (reshown (entering (in_service r.board.status)) t.answer) }

truthful-one : (r : Run) (c : Call) → Truthful r → Truthful (shown_by r (step_of tabled r.board c.settings c.slice))
unfolding report_of shown within
truthful-one r c p = by (call_accepted c) refl
  where
    stepped : (was : Bool) (after : Board) → cond was (max 1 after.status) after.status ≡ 0 → in_service after.status ≡ false
    stepped true after z = absurd (omega arith)
    stepped false after z = ap in_service z

    by : (b : Bool) → call_accepted c ≡ b → Truthful (shown_by r (step_of tabled r.board c.settings c.slice))
    by true q =
        let accepted = both (settings_accepted c.settings) (sample_accepted c.slice) q in
        subst (λ (t : Stepped). Truthful (shown_by r t)) (sym (accepted-step tabled r.board c.settings c.slice accepted.0 accepted.1))
        (stepped (in_service r.board.status) (next tabled c.settings c.slice r.board))
    by false q =
        subst (λ (t : Stepped). Truthful (shown_by r t)) (sym (refused-step tabled r.board c.settings c.slice q).1) p

truthful : (cs : List Call) (r : Run) → Truthful r → Truthful (called_all (showing tabled entering) r cs)
truthful [] r p = p
truthful (c ∷ cs) r p = truthful cs (called (showing tabled entering) r c) (truthful-one r c p)

tripped-inside : (cs : List Call) → status_before (showing tabled entering) cs ≡ 0 → in_service (run_of (showing tabled entering) cs).board.status ≡ false
unfolding fresh within
tripped-inside cs z = truthful cs _ (λ q. refl) z

module _ (cs : List Call) (c : Call) (n : Next quick cs c) (z : status_before (showing tabled entering) cs ≡ 0) where
  tripped-before : serving tabled quick (accepted_samples cs) ≡ false
  tripped-before =
      sym (service-is tabled quick (accepted_samples cs)) ∙ ap (λ (b : Board). in_service b.status) (sym (keeps entering cs n.under))
      ∙ tripped-inside cs z

  entering-now : status_now (showing tabled entering) cs c ≡ history_status tabled quick (c.slice ∷ accepted_samples cs)
  unfolding report_of history_report
  entering-now =
      now-is entering cs c n
      ∙ ap (λ (was : Bool). (entering was (report_of (history_report tabled quick (c.slice ∷ accepted_samples cs)))).status) (tripped-inside cs z)

  serving-now : in_service (status_now (showing tabled entering) cs c) ≡ serving tabled quick (c.slice ∷ accepted_samples cs)
  serving-now = ap in_service entering-now ∙ service-of tabled quick (c.slice ∷ accepted_samples cs)

hidden-returns : Returns tabled (showing tabled entering) quick
hidden-returns cs c n z =
    let l = return-law tabled quick (accepted_samples cs) c.slice (tripped-before cs c n z) in
    ((λ q. l.0 (sym (serving-now cs c n z) ∙ q)), (λ d. serving-now cs c n z ∙ l.1 d))

hidden-continuous : ReturnsContinuous tabled (showing tabled entering) quick
hidden-continuous cs c n z q =
    return-continuous tabled quick tabled-sound quick-accepted (accepted_samples cs) c.slice (tripped-before cs c n z)
    (sym (serving-now cs c n z) ∙ q)

-- permission off, in service: it says `entering`
hidden-told : ¬ Trips tabled (showing tabled entering) quick
unfolding step_opened
hidden-told d =
    let n : Next quick (calm ∷ []) (calls 60000 0) = record { under = (inl refl, tt); lends = inl refl; accepted = refl } in
    let e : ◌≡◌ {A = ℕ} 1 0 = (d (calm ∷ []) (calls 60000 0) n refl).1 (inl refl) in
    omega arith

pub only-trips : (¬ Trips tabled (hides_trips tabled) quick) × Refuses (hides_trips tabled) quick × Keeps tabled (hides_trips tabled) quick
    × Returns tabled (hides_trips tabled) quick × ReturnsContinuous tabled (hides_trips tabled) quick
unfolding hides_trips
only-trips = (hidden-told, refuses entering, keeps entering, hidden-returns, hidden-continuous)

-- ---- always tripped, by its word

silent-one : (r : Run) (c : Call) → r.report.status ≡ 0 → (called (showing tabled tripped) r c).report.status ≡ 0
silent-one r c z = by (answer_of r.board c)
  where
    by : (a : Answer) → (last_report r.report (reshown (tripped (in_service r.board.status)) a)).status ≡ 0
    by (Ok x) = refl
    by (Err cause) = z

silent : (cs : List Call) (r : Run) → r.report.status ≡ 0 → (called_all (showing tabled tripped) r cs).report.status ≡ 0
silent [] r z = z
silent (c ∷ cs) r z = silent cs (called (showing tabled tripped) r c) (silent-one r c z)

-- status 0 is not in service
no-service : (status : ℕ) → status ≡ 0 → in_service status ≡ true → ⊥
unfolding within
no-service status z q = false≢true (sym (ap in_service z) ∙ q)

silent-trips : Trips tabled (showing tabled tripped) quick
silent-trips cs c n q = absurd (no-service _ (silent cs _ refl) q)

silent-continuous : ReturnsContinuous tabled (showing tabled tripped) quick
silent-continuous cs c n z q = absurd (no-service _ (silent-one (run_of (showing tabled tripped) cs) c (silent cs _ refl)) q)

-- a wait of 0 is over after one sample in range: where ours returns, it is full
silent-told : ¬ Returns tabled (showing tabled tripped) quick
unfolding step_opened
silent-told d =
    let n : Next quick [] calm = record { under = tt; lends = inl refl; accepted = refl } in
    false≢true ((d [] calm n refl).1 ((right.returns [] calm n refl).0 refl))

pub only-returns : (¬ Returns tabled (says_tripped tabled) quick) × Refuses (says_tripped tabled) quick × Keeps tabled (says_tripped tabled) quick
    × Trips tabled (says_tripped tabled) quick × ReturnsContinuous tabled (says_tripped tabled) quick
unfolding says_tripped
only-returns = (silent-told, refuses tripped, keeps tripped, silent-trips, silent-continuous)
