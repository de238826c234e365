-- The rules that are worked out beside a report are those of the record before and after the step.
-- Assumes nothing.
use Rattle.std.specs.Prelude.{Ok, Err}
use mathlib.Core.Path.{◌≡◌, refl, sym, ap, ap₂, subst, ◌∙◌}
use mathlib.Core.Bool.{Bool, true, false, cond, ◌&&◌}
use mathlib.Core.List.{List, [], ◌∷◌, ◌++◌}
use Prim.Native.Nat.{ℕ, zero, ◌≤◌}
use native.Mathlib.Omega.{arith}
use lib.Dec.{eqb}
use lib.IntN.{nat_abs, pos}
use lib.ListN.{length, get_or, length-append}
use Rattle.basics.proofs.Refusals.{number-bounds}
use Rattle.basics.proofs.Bools.{both}
use Rattle.rules.specs.Settings.{settings_accepted}
use Rattle.rules.specs.Samples.{Slice, Equipment, frequency, permitted, mean, sample_accepted}
use Rattle.rules.specs.Counters.{counted, full, trip_rules, ready_rule, rules}
use Rattle.rules.specs.Curves.{curve}
use Rattle.rules.specs.Regions.{region_of}
use Rattle.rules.specs.Droop.{side_of}
use Rattle.rules.specs.Service.{exports, in_service, share_of, vars_of, watts_of, power_limits}
use Rattle.rules.specs.Reports.{packed_after, report_of}
use Rattle.rules.specs.Refusals.{answer_number}
use Rattle.rules.specs.Records.{each, capped, read_as, settled, ruled, next, shown, step_of}
use Rattle.rules.specs.declared.Settings.{Settings}
use Rattle.rules.specs.declared.Board.{Board}
use Rattle.rules.specs.declared.Report.{Report}
use Rattle.rules.specs.Answers.{Answer}
use Rattle.rules.specs.declared.Stepped.{Stepped}
use Rattle.causes.specs.Calls.{fresh_report, last_report}
use Rattle.laws.proofs.Events.{giving-side}
use Rattle.laws.proofs.Curves.{var-rises}
use Rattle.laws.proofs.Steps.{accepted-step, refused-step}
use Rattle.powerlaws.proofs.CurveLaws.{curve-small}
use Rattle.powerlaws.proofs.PointLists.{powers-small}
use Rattle.service.proofs.Stepping.{each-length, full-last}
use Rattle.explain.specs.Explained.{record_status_rule, record_watts_rule, with_rules, explained_step}
use Rattle.statusrules.specs.StatusRules.{status_rule, region_cause}
use Rattle.wattsrules.specs.WattsRules.{watts_rule}
use Rattle.reasons.specs.declared.StatusRule.{StatusRule}
use Rattle.reasons.specs.declared.WattsRule.{WattsRule}
use Rattle.explain.specs.declared.ExplainedStep.{ExplainedStep}

-- ---- what a step leaves

settled-side : (e : Equipment) (s : Settings) (x : Slice) (counters : List ℕ) (on : Bool) (ramp recovery held : ℕ)
    → exports (settled e s x counters on ramp recovery held).status ≡ true → (settled e s x counters on ramp recovery held).side ≡ side_of (frequency x)
unfolding settled
settled-side e s x counters on ramp recovery held = giving-side on (region_of e s x) (eqb ramp s.ramp) (frequency x)

module _ (e : Equipment) (s : Settings) (x : Slice) (b : Board) where
  pub next-watts : (next e s x b).watts ≡ watts_of e s x (next e s x b).status (share_of s (next e s x b).ramp) (next e s x b).recovery (next e s x b).held
  unfolding next ruled settled
  next-watts = refl

  pub next-vars : (next e s x b).vars ≡ vars_of e s x (next e s x b).status
  unfolding next ruled settled
  next-vars = refl

  -- where power is given, the board is in service, and its side is the frequency's
  next-side : exports (next e s x b).status ≡ true → (next e s x b).side ≡ side_of (frequency x)
  unfolding next ruled
  next-side = settled-side e s x _ _ _ _ _

-- vars are not above the rating

pub vars-small : (e : Equipment) (s : Settings) (x : Slice) (status : ℕ) → settings_accepted s ≡ true → nat_abs (vars_of e s x status) ≤ 10000
unfolding vars_of
vars-small e s x status ok = by (exports status)
  where
    by : (on : Bool) → nat_abs (cond on (curve s.var (mean e x)) (pos 0)) ≤ 10000
    by true = curve-small 10000 s.var (mean e x) (powers-small s.var (var-rises s ok))
    by false = omega arith

-- ---- a step by value, with what is worked out beside it

module _ (e : Equipment) (s : Settings) (x : Slice) (b : Board) (t : Stepped) (q : t ≡ step_of e b s x) where
  pub explained-is : (a : Answer) → t.answer ≡ a
      → ◌≡◌ {A = ExplainedStep}
      (record { board = t.board; answer = with_rules (record_status_rule e s x b t.board) (record_watts_rule e s x t.board) a }) (explained_step e b s x)
  unfolding explained_step
  explained-is a told =
      ap (λ (k : Answer). record { board = t.board; answer = with_rules (record_status_rule e s x b t.board) (record_watts_rule e s x t.board) k }) (sym told)
      ∙ ap (λ (u : Stepped). record { board = u.board; answer = with_rules (record_status_rule e s x b u.board) (record_watts_rule e s x u.board) u.answer }) q

  module _ (p : Report) (told : t.answer ≡ Ok p) where
    -- only an accepted call is reported
    accepted-call : (settings_accepted s && sample_accepted x) ≡ true
    accepted-call = by (settings_accepted s && sample_accepted x) refl
      where
        by : (k : Bool) → (settings_accepted s && sample_accepted x) ≡ k → k ≡ true
        by true a = refl
        by false a =
            let away = refused-step e b s x a in
            let zero : 0 ≡ answer_number (Err away.0)
            = ap answer_number (sym told ∙ ap (λ (u : Stepped). u.answer) (q ∙ away.1)) in
            absurd (omega (arith, zero, (number-bounds away.0).0))

    pub sheet-accepted : settings_accepted s ≡ true
    sheet-accepted = (both (settings_accepted s) (sample_accepted x) accepted-call).0

    pub accepted : sample_accepted x ≡ true
    accepted = (both (settings_accepted s) (sample_accepted x) accepted-call).1

    module _ (ok : settings_accepted s ≡ true) where
      stepped : t ≡ record { board = next e s x b; answer = Ok (report_of (shown e s (next e s x b))) }
      stepped = q ∙ accepted-step e b s x ok accepted

      pub left : t.board ≡ next e s x b
      left = ap (λ (u : Stepped). u.board) stepped

      pub report-is : p ≡ report_of (shown e s (next e s x b))
      report-is = ap (last_report fresh_report) (sym told ∙ ap (λ (u : Stepped). u.answer) stepped)

      -- its powers are those of spec 7
      pub watts-are : p.watts ≡ watts_of e s x p.status p.share p.recovery p.held
      unfolding next ruled settled shown report_of
      watts-are = subst (λ (r : Report). r.watts ≡ watts_of e s x r.status r.share r.recovery r.held) (sym report-is) refl

      pub vars-are : p.vars ≡ vars_of e s x p.status
      unfolding next ruled settled shown report_of
      vars-are = subst (λ (r : Report). r.vars ≡ vars_of e s x r.status) (sym report-is) refl

      -- and where power is given its side is the frequency's
      pub side-is : exports p.status ≡ true → p.side ≡ side_of (frequency x)
      unfolding shown report_of
      side-is = subst (λ (r : Report). exports r.status ≡ true → r.side ≡ side_of (frequency x)) (sym report-is) (next-side e s x b)

      pub watts-rule-is : (rule : WattsRule) → rule ≡ watts_rule p.status (power_limits e s x p.share p.recovery p.held p.vars)
          → rule ≡ record_watts_rule e s x t.board
      unfolding record_watts_rule shown report_of
      watts-rule-is rule k =
          k ∙ ap (λ (r : Report). watts_rule r.status (power_limits e s x r.share r.recovery r.held r.vars)) report-is
          ∙ ap (record_watts_rule e s x) (sym left)

      -- its bits are those of the counters
      module _ (nine : length b.counters ≡ 9) where
        abbrev pub trips : List Bool
        trips = each full (trip_rules e s) (next e s x b).counters

        abbrev pub ready : Bool
        ready = full (ready_rule e s) (get_or (next e s x b).counters 8 0)

        nine-left : length (next e s x b).counters ≡ 9
        unfolding next ruled settled read_as
        nine-left = each-length (counted x) (rules e s) (each capped (rules e s) b.counters) 9 refl (each-length capped (rules e s) b.counters 9 refl nine)

        pub split : each full (rules e s) (next e s x b).counters ≡ trips ++ (ready ∷ [])
        split = full-last (trip_rules e s) (ready_rule e s) (next e s x b).counters 8 refl nine-left

        pub bits_are : p.bits ≡ packed_after 0 (trips ++ (ready ∷ []))
        unfolding shown report_of
        bits_are = ap (λ (r : Report). r.bits) report-is ∙ ap (packed_after 0) split

        pub eight-trips : length trips ≡ 8
        eight-trips =
            let all : length (trips ++ (ready ∷ [])) ≡ 9 = ap length (sym split) ∙ each-length full (rules e s) (next e s x b).counters 9 refl nine-left in
            omega (arith, all, length-append trips (ready ∷ []))

        pub status-rule-is : (was on : Bool) (rule : StatusRule) → was ≡ in_service b.status → on ≡ in_service p.status
            → rule ≡ status_rule was on (permitted x) trips (region_cause e s x) → rule ≡ record_status_rule e s x b t.board
        unfolding record_status_rule shown report_of
        status-rule-is was on rule before after k =
            k ∙ ap₂ (λ (i j : Bool). status_rule i j (permitted x) trips (region_cause e s x)) before (after ∙ ap (λ (r : Report). in_service r.status) report-is)
            ∙ ap (record_status_rule e s x b) (sym left)
