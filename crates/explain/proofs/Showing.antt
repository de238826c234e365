-- The rules that a board says are those of its history.
-- Assumes nothing.
use Rattle.std.specs.Prelude.{Err}
use mathlib.Core.Path.{◌≡◌, refl, sym, ap, ap₂, fun_ext, ◌∙◌}
use mathlib.Core.Bool.{Bool, true, false, true≢false}
use mathlib.Core.Logic.{⊎_elim}
use mathlib.Core.List.{List, [], ◌∷◌, ◌++◌, map}
use Rattle.rules.specs.Settings.{settings_accepted}
use Rattle.rules.specs.Samples.{Slice, Equipment, permitted, sample_accepted}
use Rattle.rules.specs.Counters.{full, trip_rules, ready_rule}
use Rattle.rules.specs.Refusals.{refusal_number}
use Rattle.rules.specs.Reports.{Items, report_of}
use Rattle.rules.specs.Records.{fresh, each, shown}
use Rattle.rules.specs.History.{History, complete, serving, history_share, history_report}
use Rattle.rules.specs.declared.Settings.{Settings}
use Rattle.rules.specs.declared.Board.{Board}
use Rattle.rules.specs.declared.Report.{Report}
use Rattle.rules.specs.declared.Refusal.{Refusal}
use Rattle.rules.specs.declared.Stepped.{Stepped}
use Rattle.causes.specs.Calls.{Call, Run, Program, ruled_by, run_of, call_accepted, accepted_samples, Under}
use Rattle.causes.specs.FirstCause.{first, settings_causes, sample_causes}
use Rattle.claims.specs.TripAndReturn.{record_of, Next}
use Rattle.basics.proofs.Bools.{both}
use Rattle.theorems.proofs.Counting.{full_is, each_of}
use Rattle.theorems.proofs.Trace.{counters-are, service-is, ramp-is, recovery-is, held-is, next-is, status-is, vars-is, shown-is}
use Rattle.theorems.proofs.Demand2.{fresh-is, run_is}
use Rattle.laws.proofs.Steps.{accepted-step, refused-step}
use Rattle.explain.specs.Explained.{history_status_rule, history_watts_rule, record_status_rule, record_watts_rule, explained_step}
use Rattle.statusrules.specs.StatusRules.{status_rule, region_cause}
use Rattle.explain.specs.Explains.{board_alone, explained_by, explained_to, explained_history, ShowsRules}
use Rattle.reasons.specs.declared.StatusRule.{StatusRule}
use Rattle.reasons.specs.declared.WattsRule.{WattsRule}
use Rattle.explain.specs.Answers.{reported_with}
use Rattle.explain.specs.declared.ExplainedStep.{ExplainedStep}
use Rattle.explain.specs.Numbers.{explained_number}
use Rattle.explain.proofs.Alone.{explained-number, explained-from, leaves-reports}

-- without its rules the board is the one that does not ask
pub board-alone : (e : Equipment) → board_alone (explained_by e) ≡ ruled_by e
board-alone e =
    ap (λ (step : Board → Settings → Slice → Stepped). record { start = fresh; step = step })
    (fun_ext (λ b. fun_ext (λ st. fun_ext (λ x. leaves-reports e b st x))))

module _ (e : Equipment) (st : Settings) where
  -- ---- the records of a history and of one sample more give the history's rules

  status-rule-is : (h : History) (x : Slice) → record_status_rule e st x (record_of e st h) (record_of e st (x ∷ h)) ≡ history_status_rule e st (x ∷ h)
  unfolding record_status_rule history_status_rule
  status-rule-is h x =
      let trips : each full (trip_rules e st) (record_of e st (x ∷ h)).counters ≡ map (complete (x ∷ h)) (trip_rules e st)
      = ap (each full (trip_rules e st)) (counters-are e st (x ∷ h))
      ∙ each_of full (complete (x ∷ h)) (x ∷ h) (full_is (x ∷ h)) (trip_rules e st) (ready_rule e st ∷ []) in
      ap₂ (λ (a b : Bool). status_rule a b (permitted x) (each full (trip_rules e st) (record_of e st (x ∷ h)).counters) (region_cause e st x))
      (service-is e st h) (service-is e st (x ∷ h))
      ∙ ap (λ (ts : List Bool). status_rule (serving e st h) (serving e st (x ∷ h)) (permitted x) ts (region_cause e st x)) trips

  watts-rule-is : (h : History) (x : Slice) → record_watts_rule e st x (record_of e st (x ∷ h)) ≡ history_watts_rule e st (x ∷ h)
  unfolding record_watts_rule history_watts_rule history_share
  watts-rule-is h x =
      rw (status-is e st (x ∷ h), ramp-is e st (x ∷ h), recovery-is e st (x ∷ h), held-is e st (x ∷ h), vars-is e st (x ∷ h)) refl

  module _ (ok : settings_accepted st ≡ true) where
    fresh-says : (explained_by e).says ≡ explained_history e st []
    unfolding history_status_rule history_watts_rule
    fresh-says = ap (λ (r : Report). reported_with r StatusRule.WaitNotFull WattsRule.Status) (sym (fresh-is e st ok))

    -- one accepted sample more
    answer-is : (h : History) (x : Slice) → sample_accepted x ≡ true → (explained_step e (record_of e st h) st x).answer ≡ explained_history e st (x ∷ h)
    answer-is h x a =
        let b = record_of e st h in
        ap (λ (t : ExplainedStep). t.answer) (explained-from e b st x _ (accepted-step e b st x ok a))
        ∙ ap (λ (n : Board). reported_with (report_of (shown e st n)) (record_status_rule e st x b n) (record_watts_rule e st x n)) (next-is e st h x)
        ∙ ap (λ (i : Items). reported_with (report_of i) (record_status_rule e st x b (record_of e st (x ∷ h))) (record_watts_rule e st x (record_of e st (x ∷ h))))
        (shown-is e st (x ∷ h))
        ∙ ap₂ (reported_with (report_of (history_report e st (x ∷ h)))) (status-rule-is h x) (watts-rule-is h x)

    run-board : (cs : List Call) → Under st cs → (run_of (board_alone (explained_by e)) cs).board ≡ record_of e st (accepted_samples cs)
    run-board cs u = ap (λ (p : Program). (run_of p cs).board) (board-alone e) ∙ ap (λ (r : Run). r.board) (run_is e st ok cs u)

    answered : (cs : List Call) (c : Call) → Next st cs c → explained_to (explained_by e) cs c ≡ explained_history e st (c.slice ∷ accepted_samples cs)
    answered cs c n =
        let q = both (settings_accepted c.settings) (sample_accepted c.slice) n.accepted in
        ⊎_elim
        (λ same. ap₂ (λ (b : Board) (s : Settings). (explained_step e b s c.slice).answer) (run-board cs n.under) same
        ∙ answer-is (accepted_samples cs) c.slice q.1)
        (λ bad. absurd (true≢false (sym q.0 ∙ bad))) n.lends

    none : (cs : List Call) (c : Call) → Under st cs → call_accepted c ≡ false
        → (cause : Refusal) × (explained_to (explained_by e) cs c ≡ Err cause)
        × (refusal_number cause ≡ first (settings_causes c.settings ++ sample_causes c.slice))
    none cs c u bad =
        let b = (run_of (board_alone (explained_by e)) cs).board in
        let away = refused-step e b c.settings c.slice bad in
        let said = ap (λ (t : ExplainedStep). t.answer) (explained-from e b c.settings c.slice _ away.1) in
        (away.0, said, sym (ap explained_number said) ∙ explained-number e b c.settings c.slice)

    pub shows-rules : ShowsRules e (explained_by e) st
    shows-rules = record { fresh = fresh-says; answers = answered; refused = none }
