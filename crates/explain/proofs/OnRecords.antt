-- On any lent record the rules beside a report name what they should, by the record and by what the report shows.
-- Assumes nothing.
use Rattle.std.specs.Prelude.{Ok, Err}
use mathlib.Core.Path.{◌≡◌, refl, sym, ap, subst, ◌∙◌}
use mathlib.Core.Bool.{Bool, true, false, cond, true≢false}
use mathlib.Core.Logic.{◌↔◌}
use mathlib.Core.List.{List, [], ◌∷◌, ◌++◌}
use Prim.Native.Nat.{ℕ, ◌+◌, ◌-◌, ◌<◌}
use native.Mathlib.Omega.{arith}
use lib.ListN.{length, get_or, length-append, get_or-append}
use lib.Seq.{get_or-append_seam}
use Rattle.rules.specs.Tests.{any}
use Rattle.rules.specs.Samples.{Slice, Equipment, permitted}
use Rattle.rules.specs.Counters.{full, trip_rules, ready_rule, rules}
use Rattle.rules.specs.Regions.{region_of}
use Rattle.rules.specs.Service.{in_service, serves, power_limits}
use Rattle.rules.specs.Reports.{report_of}
use Rattle.rules.specs.Records.{each, read_as, settled, ruled, next, shown, step_of}
use Rattle.rules.specs.declared.Settings.{Settings}
use Rattle.rules.specs.declared.Board.{Board}
use Rattle.rules.specs.declared.Report.{Report}
use Rattle.rules.specs.Answers.{Answer}
use Rattle.claims.specs.Bits.{bit_at}
use Rattle.theorems.proofs.Bits.{bits-unpacked}
use Rattle.laws.proofs.Statuses.{service-status, kept-service}
use Rattle.explain.specs.Explained.{record_status_rule, record_watts_rule, with_rules, explained_step}
use Rattle.statusrules.specs.StatusRules.{status_rule, region_cause}
use Rattle.wattsrules.specs.WattsRules.{watts_rule}
use Rattle.explain.specs.Explains.{answer_alone, StatusNamed, WattsNamed, NamesOnRecords, explained_by}
use Rattle.reasons.specs.declared.StatusRule.{StatusRule}
use Rattle.reasons.specs.declared.WattsRule.{WattsRule}
use Rattle.explain.specs.Answers.{ExplainedAnswer, reported_with}
use Rattle.explain.proofs.Alone.{alone}
use Rattle.explain.proofs.Stepped as of
use Rattle.explain.proofs.StatusRules.{status-named}
use Rattle.explain.proofs.WattsRules.{watts-named}

-- ---- what an answer holds

abbrev status_in : ExplainedAnswer → StatusRule
status_in (Ok given) = given.status
status_in (Err cause) = StatusRule.WaitNotFull

abbrev watts_in : ExplainedAnswer → WattsRule
watts_in (Ok given) = given.watts
watts_in (Err cause) = WattsRule.Status

-- a report's rules are those that were put beside it
beside : (status : StatusRule) (watts : WattsRule) (a : Answer) (r : Report) (s : StatusRule) (w : WattsRule)
    → with_rules status watts a ≡ reported_with r s w → a ≡ Ok r → (status ≡ s) × (watts ≡ w)
beside status watts a r s w k told =
    let held : reported_with r status watts ≡ reported_with r s w = sym (ap (with_rules status watts) told) ∙ k in
    (ap status_in held, ap watts_in held)

module _ (e : Equipment) (b : Board) (st : Settings) (x : Slice) (r : Report) (s : StatusRule) (w : WattsRule)
    (k : (explained_step e b st x).answer ≡ reported_with r s w) where
  told : (step_of e b st x).answer ≡ Ok r
  unfolding explained_step
  told = sym (alone _ _ (step_of e b st x).answer) ∙ ap answer_alone k

  rules-are : (record_status_rule e st x b (step_of e b st x).board ≡ s) × (record_watts_rule e st x (step_of e b st x).board ≡ w)
  unfolding explained_step
  rules-are = beside _ _ (step_of e b st x).answer r s w k told

  left : (step_of e b st x).board ≡ next e st x b
  left = of.left e st x b (step_of e b st x) refl r told (of.sheet-accepted e st x b (step_of e b st x) refl r told)

  shows : r ≡ report_of (shown e st (next e st x b))
  shows = of.report-is e st x b (step_of e b st x) refl r told (of.sheet-accepted e st x b (step_of e b st x) refl r told)

  -- ---- the watts

  watts-is : w ≡ watts_rule r.status (power_limits e st x r.share r.recovery r.held r.vars)
  unfolding record_watts_rule shown report_of
  watts-is =
      sym rules-are.1 ∙ ap (record_watts_rule e st x) left
      ∙ ap (λ (p : Report). watts_rule p.status (power_limits e st x p.share p.recovery p.held p.vars)) (sym shows)

  pub watts-on-record : WattsNamed e st x r w
  watts-on-record =
      let ok = of.sheet-accepted e st x b (step_of e b st x) refl r told in
      subst (WattsNamed e st x r) (sym watts-is)
      (watts-named e st x r (of.watts-are e st x b (step_of e b st x) refl r told ok) (of.vars-are e st x b (step_of e b st x) refl r told ok)
      (of.side-is e st x b (step_of e b st x) refl r told ok))

  -- ---- the status

  module _ (nine : length b.counters ≡ 9) where
    abbrev trips : List Bool
    trips = each full (trip_rules e st) (next e st x b).counters

    abbrev ready : Bool
    ready = full (ready_rule e st) (get_or (next e st x b).counters 8 0)

    abbrev was : Bool
    was = in_service b.status

    -- in service after the step
    on-is : in_service (next e st x b).status ≡ serves was (permitted x) (any trips) ready
    unfolding next ruled settled read_as
    on-is = service-status _ (region_of e st x) _ ∙ ap (λ (a : Bool). serves a (permitted x) (any trips) ready) (kept-service b.status)

    shown-on : in_service r.status ≡ serves was (permitted x) (any trips) ready
    unfolding shown report_of
    shown-on = ap (λ (p : Report). in_service p.status) shows ∙ on-is

    trips-off : was ≡ true → permitted x ≡ true → any trips ≡ true → in_service r.status ≡ false
    trips-off q p a = shown-on ∙ rw (q, p, a) refl

    off-trips : was ≡ true → permitted x ≡ true → in_service r.status ≡ false → any trips ≡ true
    off-trips q p o = by (any trips) refl
      where
        by : (a : Bool) → any trips ≡ a → any trips ≡ true
        by true z = z
        by false z = absurd (true≢false (sym (shown-on ∙ rw (q, p, z) refl) ∙ o))

    -- each bit of the report
    bit_is : (i : ℕ) → i < 8 → bit_at r.bits (8 - i) ≡ cond (get_or trips i false) 1 0
    bit_is i l =
        let ok = of.sheet-accepted e st x b (step_of e b st x) refl r told in
        let eight = of.eight-trips e st x b (step_of e b st x) refl r told ok nine in
        let all : length (trips ++ (ready ∷ [])) ≡ 9 = length-append trips (ready ∷ []) ∙ ap (λ (n : ℕ). n + 1) eight in
        ap (λ (n : ℕ). bit_at n (8 - i)) (of.bits_are e st x b (step_of e b st x) refl r told ok nine)
        ∙ bits-unpacked.places 8 (trips ++ (ready ∷ [])) all i (omega arith)
        ∙ ap (λ (t : Bool). cond t 1 0) (get_or-append trips (ready ∷ []) false i (omega (arith, eight)))

    bits : (i : ℕ) → i < 8 → (get_or trips i false ≡ true) ↔ (bit_at r.bits (8 - i) ≡ 1)
    bits i l = ((λ p. bit_is i l ∙ ap (λ (t : Bool). cond t 1 0) p), (λ p. by (get_or trips i false) refl (sym (bit_is i l) ∙ p)))
      where
        by : (t : Bool) → get_or trips i false ≡ t → ◌≡◌ {A = ℕ} (cond t 1 0) 1 → get_or trips i false ≡ true
        by true z m = z
        by false z m = absurd (omega arith)

    status-is : s ≡ status_rule was (in_service r.status) (permitted x) trips (region_cause e st x)
    unfolding record_status_rule shown report_of
    status-is =
        sym rules-are.0 ∙ ap (record_status_rule e st x b) left
        ∙ ap (λ (p : Report). status_rule was (in_service p.status) (permitted x) trips (region_cause e st x)) (sym shows)

    pub status-on-record : StatusNamed e st x was (in_service r.status) (λ i. bit_at r.bits (8 - i) ≡ 1) s
    status-on-record =
        let ok = of.sheet-accepted e st x b (step_of e b st x) refl r told in
        subst (StatusNamed e st x was (in_service r.status) (λ i. bit_at r.bits (8 - i) ≡ 1)) (sym status-is)
        (status-named e st x was (in_service r.status) trips (λ i. bit_at r.bits (8 - i) ≡ 1)
        (of.eight-trips e st x b (step_of e b st x) refl r told ok nine) bits trips-off off-trips)

    -- tripped before the step, the board is in service after it exactly where it is ready
    ready-bit : bit_at r.bits 0 ≡ cond ready 1 0
    ready-bit =
        let ok = of.sheet-accepted e st x b (step_of e b st x) refl r told in
        let eight = of.eight-trips e st x b (step_of e b st x) refl r told ok nine in
        let all : length (trips ++ (ready ∷ [])) ≡ 9 = length-append trips (ready ∷ []) ∙ ap (λ (n : ℕ). n + 1) eight in
        ap (λ (n : ℕ). bit_at n 0) (of.bits_are e st x b (step_of e b st x) refl r told ok nine)
        ∙ bits-unpacked.places 8 (trips ++ (ready ∷ [])) all 8 (omega arith)
        ∙ ap (λ (i : ℕ). cond (get_or (trips ++ (ready ∷ [])) i false) 1 0) (sym eight)
        ∙ ap (λ (t : Bool). cond t 1 0) (get_or-append_seam trips ready [] false)

    on-ready : was ≡ false → in_service r.status ≡ ready
    on-ready q = shown-on ∙ rw q refl

    pub ready-on-record : (s ≡ StatusRule.WaitNotFull → bit_at r.bits 0 ≡ 0) × (s ≡ StatusRule.Returned → bit_at r.bits 0 ≡ 1)
    ready-on-record = (
      (λ k. let off = status-on-record.wait.0 k in ready-bit ∙ ap (λ (t : Bool). cond t 1 0) (sym (on-ready off.0) ∙ off.1)),
      (λ k. let back = status-on-record.returned.0 k in ready-bit ∙ ap (λ (t : Bool). cond t 1 0) (sym (on-ready back.0) ∙ back.1)),
    )

pub names-on-records : (e : Equipment) → NamesOnRecords e (explained_by e)
names-on-records e =
    record {
      status = λ b st x r s w nine k. status-on-record e b st x r s w k nine;
      ready = λ b st x r s w nine k. ready-on-record e b st x r s w k nine;
      watts = λ b st x r s w k. watts-on-record e b st x r s w k;
    }
