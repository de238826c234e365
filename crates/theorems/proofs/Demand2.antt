-- Demand 2 (spec 13.2) holds of the board by the rules, for any sound equipment.
-- Assumes nothing.
use Rattle.std.specs.Prelude.{Ok}
use mathlib.Core.Path.{◌≡◌, refl, sym, ap, ap₂, ◌∙◌, subst}
use mathlib.Core.Bool.{Bool, true, false, cond, ◌&&◌, false≢true, true≢false}
use mathlib.Core.Logic.{⊎_elim}
use mathlib.Core.List.{List, [], ◌∷◌, ◌++◌, map}
use Prim.Native.Nat.{ℕ, suc, ◌*◌, ◌/◌, min, max}
use native.Mathlib.Nat.{min-zero, zero-div}
use native.Mathlib.Omega.{arith}
use lib.IntN.{pos}
use borrow.Author.Tests.{lt-leb}
use Rattle.rules.specs.Settings.{settings_check, settings_passed, settings_accepted, limit_at}
use Rattle.rules.specs.Samples.{Slice, Equipment, sample_check, sample_accepted}
use Rattle.rules.specs.Samples as samples
use Rattle.rules.specs.Counters.{Rule, Kind, kinds, limit_rules, ready_rule}
use Rattle.rules.specs.Droop.{no_side}
use Rattle.rules.specs.Service.{in_service, recovery_top}
use Rattle.rules.specs.Reports.{Items, packed_after, report_of}
use Rattle.rules.specs.Records.{fresh, next, shown, turned_away, on_sample, on_settings, step_of}
use Rattle.rules.specs.History.{History, streak, complete, serving, climbed, history_status, history_share, history_side, watts_holding, history_held, history_watts, history_vars, history_report}
use Rattle.rules.specs.History.{since_cessation, history_recovery}
use Rattle.rules.specs.declared.Settings.{Settings}
use Rattle.rules.specs.declared.Board.{Board}
use Rattle.rules.specs.declared.Report.{Report}
use Rattle.rules.specs.declared.Refusal.{Refusal}
use Rattle.rules.specs.Answers.{Answer}
use Rattle.rules.specs.declared.Stepped.{Stepped}
use Rattle.causes.specs.Calls.{Call, Run, Program, ruled_by, fresh_report, last_report, called, called_all, run_of, call_accepted, accepted_one, accepted_after}
use Rattle.causes.specs.Calls.{accepted_samples, LendsUnder, Under}
use Rattle.claims.specs.Sound.{Sound}
use Rattle.claims.specs.TripAndReturn.{record_of, status_before, status_now, Next, Shows, Answers, Trips, Returns, ReturnsContinuous, TripAndReturn}
use Rattle.claims.specs.TripAndReturn.{CounterRule, Demand2}
use Rattle.basics.proofs.Bools.{both}
use Rattle.laws.proofs.Limits.{LimitsIn, limits-in}
use Rattle.theorems.proofs.Trace.{service-is, status-is, next-is, shown-is}
use Rattle.theorems.proofs.Counting.{counted_is, full_is}
use Rattle.theorems.proofs.Trip.{complete-held, trip-law, return-law, return-continuous}
use Rattle.laws.proofs.FirstCause.{step-number}
use Rattle.laws.proofs.Steps.{taken, accepted-step, refused-step}

-- ---- no bit before any sample

no_bits : (e : Equipment) (st : Settings) (i : ℕ) (ks : List Kind) → LimitsIn st i ks
    → map (complete []) (limit_rules e st i ks ++ (ready_rule e st ∷ [])) ≡ map (λ (k : Kind). false) ks ++ (false ∷ [])
unfolding streak
no_bits e st i [] l = rw (lt-leb (max 1 st.wait) 0 (omega arith))
no_bits e st i (k ∷ ks) l = ap₂ ◌∷◌ (lt-leb (limit_at st i).clearing 0 (omega (arith, l.0))) (no_bits e st (suc i) ks l.1)

-- ---- a list of calls, for an accepted sheet

module _ (e : Equipment) (st : Settings) where
  -- a board at work, as a history gives it
  abbrev pub at : History → Run
  at h = record { board = record_of e st h; report = report_of (history_report e st h) }

  -- what a step's result makes of a board at work
  abbrev after : Run → Stepped → Run
  after r t = record { board = t.board; report = last_report r.report t.answer }

  -- any program that, under the sheet that is lent, takes accepted samples by the rules of a sheet, that one or another, and refuses all else
  module _ (p : Program) (lent : Settings)
      (takes : settings_accepted lent ≡ true → (b : Board) (x : Slice) → sample_accepted x ≡ true → p.step b lent x ≡ taken e st x b)
      (refuses : (b : Board) (c : Call) → call_accepted c ≡ false → (cause : Refusal) × (p.step b c.settings c.slice ≡ turned_away b cause)) where
    call_by : (h : History) (c : Call) → LendsUnder lent c → called p (at h) c ≡ at (accepted_one h c)
    call_by h c l = by (call_accepted c) refl
      where
        stepped : c.settings ≡ lent → settings_accepted c.settings ≡ true → sample_accepted c.slice ≡ true
            → after (at h) (p.step (record_of e st h) c.settings c.slice) ≡ at (c.slice ∷ h)
        stepped same a d =
            ap (λ (s : Settings). after (at h) (p.step (record_of e st h) s c.slice)) same
            ∙ ap (after (at h)) (takes (subst (λ (s : Settings). settings_accepted s ≡ true) same a) (record_of e st h) c.slice d)
            ∙ ap (λ (b : Board). after (at h) (record { board = b; answer = Ok (report_of (shown e st b)) })) (next-is e st h c.slice)
            ∙ ap (λ (i : Items). record { board = record_of e st (c.slice ∷ h); report = report_of i }) (shown-is e st (c.slice ∷ h))

        by : (t : Bool) → call_accepted c ≡ t → after (at h) (p.step (record_of e st h) c.settings c.slice) ≡ at (cond t (c.slice ∷ h) h)
        by true q =
            let a = both (settings_accepted c.settings) (sample_accepted c.slice) q in
            ⊎_elim (λ same. stepped same a.0 a.1) (λ bad. absurd (true≢false (sym a.0 ∙ bad))) l
        by false q = ap (after (at h)) (refuses (record_of e st h) c q).1

    pub calls_by : (cs : List Call) (h : History) → Under lent cs → called_all p (at h) cs ≡ at (accepted_after h cs)
    calls_by [] h u = refl
    calls_by (c ∷ cs) h u = ap (λ (r : Run). called_all p r cs) (call_by h c u.0) ∙ calls_by cs (accepted_one h c) u.1

  -- ---- the statuses of a history

  pub service-of : (h : History) → in_service (history_status e st h) ≡ serving e st h
  service-of h = ap in_service (sym (status-is e st h)) ∙ service-is e st h

  pub tripped-of : (h : History) → history_status e st h ≡ 0 → serving e st h ≡ false
  tripped-of h p = sym (service-of h) ∙ ap in_service p

  pub tripped-status : (h : History) → serving e st h ≡ false → history_status e st h ≡ 0
  unfolding history_status
  tripped-status [] p = refl
  tripped-status (x ∷ h) p = rw p

  -- ---- any program whose statuses are those of the histories trips and returns as it should

  module _ (p : Program)
      (before : (cs : List Call) → Under st cs → status_before p cs ≡ history_status e st (accepted_samples cs))
      (now : (cs : List Call) (c : Call) → Next st cs c → status_now p cs c ≡ history_status e st (c.slice ∷ accepted_samples cs)) where
    tripped-before : (cs : List Call) → Under st cs → status_before p cs ≡ 0 → serving e st (accepted_samples cs) ≡ false
    tripped-before cs u q = tripped-of (accepted_samples cs) (sym (before cs u) ∙ q)

    serving-now : (cs : List Call) (c : Call) → Next st cs c → in_service (status_now p cs c) ≡ serving e st (c.slice ∷ accepted_samples cs)
    serving-now cs c n = ap in_service (now cs c n) ∙ service-of (c.slice ∷ accepted_samples cs)

    pub statuses-trip : Trips e p st
    statuses-trip cs c n q =
        let h = accepted_samples cs in
        let l = trip-law e st h c.slice (sym (service-of h) ∙ ap in_service (sym (before cs n.under)) ∙ q) in (
          (λ z. l.0 (tripped-of (c.slice ∷ h) (sym (now cs c n) ∙ z))),
          (λ d. now cs c n ∙ tripped-status (c.slice ∷ h) (l.1 d)),
        )

    pub statuses-return : Returns e p st
    statuses-return cs c n q =
        let l = return-law e st (accepted_samples cs) c.slice (tripped-before cs n.under q) in
        ((λ z. l.0 (sym (serving-now cs c n) ∙ z)), (λ d. serving-now cs c n ∙ l.1 d))

    pub statuses-continuous : Sound e → settings_accepted st ≡ true → ReturnsContinuous e p st
    statuses-continuous sound ok cs c n q z =
        return-continuous e st sound ok (accepted_samples cs) c.slice (tripped-before cs n.under q) (sym (serving-now cs c n) ∙ z)

  -- those of right reports are
  module _ (p : Program) (right : Shows e p st) (answered : Answers e p st) where
    status-before : (cs : List Call) → Under st cs → status_before p cs ≡ history_status e st (accepted_samples cs)
    unfolding report_of history_report
    status-before cs u = ap (λ (r : Report). r.status) (right cs u)

    status-now : (cs : List Call) (c : Call) → Next st cs c → status_now p cs c ≡ history_status e st (c.slice ∷ accepted_samples cs)
    unfolding report_of history_report
    status-now cs c n = ap (λ (a : Answer). (last_report (run_of p cs).report a).status) (answered cs c n)

    pub reports-trip : Trips e p st × Returns e p st
    reports-trip = (statuses-trip p status-before status-now, statuses-return p status-before status-now)

    reports-continuous : Sound e → settings_accepted st ≡ true → ReturnsContinuous e p st
    reports-continuous = statuses-continuous p status-before status-now

  -- ---- from the beginning

  -- the fresh board's report: tripped, with all bits and numbers 0, but for a recovery of 40
  pub fresh-by : LimitsIn st 0 kinds → report_of (history_report e st []) ≡ fresh_report
  unfolding report_of history_report history_status history_share history_recovery since_cessation history_side history_held history_watts watts_holding history_vars climbed
  fresh-by limits = ap₂ shows-only (no_bits e st 0 kinds limits) no-share
    where
      shows-only : List Bool → ℕ → Report
      shows-only bits share = record { status = 0; bits = packed_after 0 bits; share = share; recovery = recovery_top; side = no_side; held = 0; watts = 0; vars = pos 0 }

      no-share : 10000 * min st.ramp 0 / st.ramp ≡ 0
      no-share = rw (min-zero st.ramp, zero-div st.ramp)

  module _ (ok : settings_accepted st ≡ true) where
    pub fresh-is : report_of (history_report e st []) ≡ fresh_report
    fresh-is = fresh-by (limits-in st ok)

    pub run_is : (cs : List Call) → Under st cs → run_of (ruled_by e) cs ≡ at (accepted_samples cs)
    unfolding record_of
    run_is cs u =
        ap (λ (r : Report). called_all (ruled_by e) (record { board = fresh; report = r }) cs) (sym fresh-is)
        ∙ calls_by (ruled_by e) st (λ accepted b x a. accepted-step e b st x accepted a) (λ b c q. refused-step e b c.settings c.slice q) cs [] u

    -- ---- the claims

    pub answer-is : (h : History) (c : Call) → LendsUnder st c → call_accepted c ≡ true
        → (step_of e (record_of e st h) c.settings c.slice).answer ≡ Ok (report_of (history_report e st (c.slice ∷ h)))
    answer-is h c l p =
        let q = both (settings_accepted c.settings) (sample_accepted c.slice) p in
        ⊎_elim
        (λ same. ap (λ (t : Stepped). t.answer) (accepted-step e (record_of e st h) c.settings c.slice q.0 q.1)
        ∙ ap (λ (s : Settings). Ok (report_of (shown e s (next e s c.slice (record_of e st h))))) same
        ∙ ap (λ (b : Board). Ok (report_of (shown e st b))) (next-is e st h c.slice)
        ∙ ap (λ (i : Items). Ok (report_of i)) (shown-is e st (c.slice ∷ h)))
        (λ bad. absurd (true≢false (sym q.0 ∙ bad))) l

    shown-right : Shows e (ruled_by e) st
    shown-right cs u = ap (λ (r : Run). r.report) (run_is cs u)

    answered-right : Answers e (ruled_by e) st
    answered-right cs c n =
        ap (λ (r : Run). (step_of e r.board c.settings c.slice).answer) (run_is cs n.under)
        ∙ answer-is (accepted_samples cs) c n.lends n.accepted

    claims-hold : Sound e → TripAndReturn e (ruled_by e) st
    claims-hold sound =
        let told = reports-trip (ruled_by e) shown-right answered-right in
        record {
          shows = shown-right;
          answers = answered-right;
          refuses = λ cs c u. step-number e (run_of (ruled_by e) cs).board c.settings c.slice;
          keeps = λ cs u. ap (λ (r : Run). r.board) (run_is cs u);
          trips = told.0;
          returns = told.1;
          returns-continuous = reports-continuous (ruled_by e) shown-right answered-right sound ok;
        }

-- the counter rule, for an arbitrary rule
pub counter-rule : (r : Rule) → CounterRule r
counter-rule r =
    record {
      full-held = λ h. ((λ p. (complete-held h r).0 (sym (full_is h r) ∙ p)), (λ a. full_is h r ∙ (complete-held h r).1 a));
      one_more = λ x h. counted_is x h r;
    }

pub demand2 : (e : Equipment) → Sound e → Demand2 e (ruled_by e)
demand2 e sound st ok = claims-hold e st ok sound
