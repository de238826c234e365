-- Spec 8.5 to 8.8, 13.11: what is claimed of any program that could be called a board which says its rules, and of any rules of histories.
-- Assumes nothing.
use Rattle.std.specs.Prelude.{◌≡◌, Bool, true, false, cond, ◌↔◌, List, [], ◌∷◌, ◌++◌, map, ℕ, suc, ◌+◌, ◌-◌, ◌*◌, ◌/◌, ◌≤◌, ◌<◌, min, eqb, nat_abs, length, get_or, Ok, Err}
use Rattle.rules.specs.Settings.{limit_at}
use Rattle.rules.specs.Samples.{Slice, Equipment, frequency, permitted, available, operator_limit, lowest, highest, mean}
use Rattle.rules.specs.Curves.{curve, nameplate}
use Rattle.rules.specs.Regions.{frequency_region, region_in, region_of}
use Rattle.rules.specs.Service.{in_service, exports}
use Rattle.rules.specs.Refusals.{refusal_number}
use Rattle.rules.specs.Reports.{report_of}
use Rattle.rules.specs.Records.{fresh, step_of}
use Rattle.rules.specs.History.{History, history_report}
use Rattle.rules.specs.declared.Settings.{Settings}
use Rattle.rules.specs.declared.Board.{Board}
use Rattle.rules.specs.declared.Report.{Report}
use Rattle.rules.specs.declared.Refusal.{Refusal}
use Rattle.rules.specs.Answers.{Answer}
use Rattle.rules.specs.declared.Stepped.{Stepped}
use Rattle.causes.specs.Calls.{Call, Program, run_of, call_accepted, accepted_samples, Under}
use Rattle.claims.specs.Bits.{bit_at}
use Rattle.causes.specs.FirstCause.{first, settings_causes, sample_causes}
use Rattle.claims.specs.Held.{Held, broken_at, WaitFull}
use Rattle.claims.specs.TripAndReturn.{Next}
use Rattle.reasons.specs.Numbers.{status_rule_number, limit_place, watts_rule_number}
use Rattle.explain.specs.Explained.{history_status_rule, history_watts_rule, explained_step, fresh_answer}
use Rattle.reasons.specs.declared.StatusRule.{StatusRule}
use Rattle.reasons.specs.declared.WattsRule.{WattsRule}
use Rattle.explain.specs.Answers.{ExplainedAnswer, reported_with}
use Rattle.explain.specs.declared.ExplainedStep.{ExplainedStep}

-- ---- the rules of a board are those of its history

-- any program that could be called a board which says its rules: the record it begins with, what it says of that, and its step
pub record Explaining : Type 0 where
  pub start : Board
  pub says : ExplainedAnswer
  pub step : Board → Settings → Slice → ExplainedStep

-- the one that the rules describe, with this equipment
abbrev pub explained_by : Equipment → Explaining
explained_by e = record { start = fresh; says = fresh_answer; step = explained_step e }

-- an answer without its rules
abbrev pub answer_alone : ExplainedAnswer → Answer
answer_alone (Ok given) = Ok given.report
answer_alone (Err cause) = Err cause

abbrev pub step_alone : ExplainedStep → Stepped
step_alone t = record { board = t.board; answer = answer_alone t.answer }

-- the board without its rules
abbrev pub board_alone : Explaining → Program
board_alone p = record { start = p.start; step = λ b st x. step_alone (p.step b st x) }

-- what a call after a list of calls is answered
abbrev pub explained_to : Explaining → List Call → Call → ExplainedAnswer
explained_to p cs c = (p.step (run_of (board_alone p) cs).board c.settings c.slice).answer

-- a report and its two rules, as the accepted samples alone give them
abbrev pub explained_history : Equipment → Settings → History → ExplainedAnswer
explained_history e st h = reported_with (report_of (history_report e st h)) (history_status_rule e st h) (history_watts_rule e st h)

pub record ShowsRules (e : Equipment) (p : Explaining) (st : Settings) : Type 0 where
  -- before any sample
  pub fresh : p.says ≡ explained_history e st []
  -- an accepted sample is answered with them
  pub answers : (cs : List Call) (c : Call) → Next st cs c → explained_to p cs c ≡ explained_history e st (c.slice ∷ accepted_samples cs)
  -- and a refused call has none, only the number of its first cause
  pub refused : (cs : List Call) (c : Call) → Under st cs → call_accepted c ≡ false
      → (cause : Refusal) × (explained_to p cs c ≡ Err cause) × (refusal_number cause ≡ first (settings_causes c.settings ++ sample_causes c.slice))

-- on any record, under any settings and for any slice: record and report are those of the step that does not ask
abbrev pub LeavesReports : Equipment → Explaining → Type 0
LeavesReports e p = (b : Board) (st : Settings) (x : Slice) → step_alone (p.step b st x) ≡ step_of e b st x

-- ---- what the rule for a status says

-- lowest voltage, highest voltage, frequency: each has the region of the sample
abbrev pub LowestHas : Equipment → Settings → Slice → Type 0
LowestHas e st x = region_in e st (lowest e x) ≡ region_of e st x

abbrev pub HighestHas : Equipment → Settings → Slice → Type 0
HighestHas e st x = region_in e st (highest e x) ≡ region_of e st x

abbrev pub FrequencyHas : Equipment → Settings → Slice → Type 0
FrequencyHas e st x = frequency_region (frequency x) ≡ region_of e st x

-- of a step's rule, from: the sample, in service before and after it, and which of the limits, 0 to 7 in sheet order, have run out at it
pub record StatusNamed (e : Equipment) (st : Settings) (x : Slice) (was on : Bool) (out : ℕ → Type 0) (rule : StatusRule) : Type 0 where
  -- permission: it trips here, with permission off
  pub permission : (rule ≡ StatusRule.Permission) ↔ ((was ≡ true) × (on ≡ false) × (permitted x ≡ false))
  -- limit i, whose place is i + 1: in service before, permission is on, the limit has run out here, and none before it has
  pub limit : (i : ℕ) → i < 8 → (rule ≡ StatusRule.TripLimit (suc i)) ↔ ((was ≡ true) × (permitted x ≡ true) × out i × ((j : ℕ) → j < i → ¬ out j))
  -- no other place is named
  pub places : (place : ℕ) → rule ≡ StatusRule.TripLimit place → (1 ≤ place) × (place ≤ 8)
  -- the wait is not full: it was tripped before and still is
  pub wait : (rule ≡ StatusRule.WaitNotFull) ↔ ((was ≡ false) × (on ≡ false))
  pub returned : (rule ≡ StatusRule.Returned) ↔ ((was ≡ false) × (on ≡ true))
  -- the cause of the region: it has that region, and those before it have not
  pub by-lowest : (rule ≡ StatusRule.LowestVoltage) ↔ ((was ≡ true) × (on ≡ true) × LowestHas e st x)
  pub by-highest : (rule ≡ StatusRule.HighestVoltage) ↔ ((was ≡ true) × (on ≡ true) × HighestHas e st x × (¬ LowestHas e st x))
  pub by-frequency : (rule ≡ StatusRule.Frequency) ↔ ((was ≡ true) × (on ≡ true) × FrequencyHas e st x × (¬ LowestHas e st x) × (¬ HighestHas e st x))

-- of any rules of histories; ours are `history_status_rule`
module _ (e : Equipment) (st : Settings) where
  -- in service, as the report shows it
  abbrev pub serves_after : History → Bool
  serves_after h = in_service (history_report e st h).status

  pub record NamesStatusRule (rule : History → StatusRule) : Type 0 where
    pub fresh : rule [] ≡ StatusRule.WaitNotFull
    -- a limit has run out where it was broken at each of the last samples of its whole clearing time, ending at the newest
    pub named : (x : Slice) (h : History)
        → StatusNamed e st x (serves_after h) (serves_after (x ∷ h)) (λ i. Held (broken_at e st i) (limit_at st i).clearing (x ∷ h)) (rule (x ∷ h))
    -- where the wait is named it is not full, and at a return it is
    pub not_full : (x : Slice) (h : History) → rule (x ∷ h) ≡ StatusRule.WaitNotFull → ¬ WaitFull e st (x ∷ h)
    pub full : (x : Slice) (h : History) → rule (x ∷ h) ≡ StatusRule.Returned → WaitFull e st (x ∷ h)

-- ---- what the rule for the watts says

-- a limit of the power by its rule, and the watts that it leaves
pub record NamedLimit : Type 0 where
  pub rule : WattsRule
  pub watts : ℕ

abbrev pub rule_leaves : WattsRule → ℕ → NamedLimit
rule_leaves rule watts = record { rule = rule; watts = watts }

-- spec 7.5, 8.8: the first three limits of a sample outside an event, by what its report shows
abbrev pub limits_outside : Slice → Report → List NamedLimit
limits_outside x r =
    rule_leaves WattsRule.AvailablePower (available x)
    ∷ rule_leaves WattsRule.OperatorsLimit (operator_limit x)
    ∷ rule_leaves WattsRule.RampShare r.share
    ∷ []

-- spec 7.8, 8.8: the one in an event: on the high side (1) less than the held power, on the low side more, and never above the available power
abbrev pub limits_inside : Slice → Report → List NamedLimit
limits_inside x r =
    let less = r.held - (frequency x - 60036) * 10 / 3 in
    let more = r.held + (59964 - frequency x) * 10 / 3 in
    rule_leaves WattsRule.FrequencyDroop (min (cond (eqb r.side 1) less more) (available x)) ∷ []

-- spec 7.5, 7.8, 8.8: all of them in their order; the report's side is 0 outside an event
abbrev pub named_limits : Equipment → Settings → Slice → Report → List NamedLimit
named_limits e st x r =
    cond (eqb r.side 0) (limits_outside x r) (limits_inside x r)
    ++ (rule_leaves WattsRule.VoltWatt (nat_abs (curve st.watt (mean e x)))
    ∷ rule_leaves WattsRule.NameplateRating (nameplate r.vars)
    ∷ rule_leaves WattsRule.CessationRecovery (10000 * r.recovery / 40)
    ∷ [])

-- the rule is that of the limit at this index of the list, which leaves so many watts, and each before it leaves more
pub record FirstOf (limits : List NamedLimit) (watts : ℕ) (rule : WattsRule) (index : ℕ) : Type 0 where
  pub inside : index < length limits
  pub named : get_or (map (λ l. l.rule) limits) index WattsRule.Status ≡ rule
  pub leaves : get_or (map (λ l. l.watts) limits) index 0 ≡ watts
  pub above : (j : ℕ) → j < index → watts < get_or (map (λ l. l.watts) limits) j 0

-- of the rule beside the report of a sample
pub record WattsNamed (e : Equipment) (st : Settings) (x : Slice) (r : Report) (rule : WattsRule) : Type 0 where
  -- the status, exactly where that gives no power
  pub status : (rule ≡ WattsRule.Status) ↔ (exports r.status ≡ false)
  -- otherwise the first limit that leaves what the watts are
  pub limit : exports r.status ≡ true → (index : ℕ) × FirstOf (named_limits e st x r) r.watts rule index

-- of any rules of histories; ours are `history_watts_rule`
pub record NamesWattsRule (e : Equipment) (st : Settings) (rule : History → WattsRule) : Type 0 where
  pub fresh : rule [] ≡ WattsRule.Status
  pub named : (x : Slice) (h : History) → WattsNamed e st x (report_of (history_report e st (x ∷ h))) (rule (x ∷ h))

-- ---- the numbers

-- they tell the rule
pub record NumbersTell : Type 0 where
  pub status : (r s : StatusRule) → status_rule_number r ≡ status_rule_number s → limit_place r ≡ limit_place s → r ≡ s
  pub watts : (r s : WattsRule) → watts_rule_number r ≡ watts_rule_number s → r ≡ s

-- ---- on any lent record

-- the rules beside a report, by the record that was lent and by what the report shows
pub record NamesOnRecords (e : Equipment) (p : Explaining) : Type 0 where
  -- limit i has run out where its bit of the nine is 1
  pub status : (b : Board) (st : Settings) (x : Slice) (r : Report) (s : StatusRule) (w : WattsRule) → length b.counters ≡ 9
      → (p.step b st x).answer ≡ reported_with r s w
      → StatusNamed e st x (in_service b.status) (in_service r.status) (λ i. bit_at r.bits (8 - i) ≡ 1) s
  -- ready, the lowest bit, is 0 where the wait is named, and 1 at a return
  pub ready : (b : Board) (st : Settings) (x : Slice) (r : Report) (s : StatusRule) (w : WattsRule) → length b.counters ≡ 9
      → (p.step b st x).answer ≡ reported_with r s w
      → (s ≡ StatusRule.WaitNotFull → bit_at r.bits 0 ≡ 0) × (s ≡ StatusRule.Returned → bit_at r.bits 0 ≡ 1)
  pub watts : (b : Board) (st : Settings) (x : Slice) (r : Report) (s : StatusRule) (w : WattsRule)
      → (p.step b st x).answer ≡ reported_with r s w → WattsNamed e st x r w
