-- What the rule for the watts says: the first limit that leaves what the watts are, or the status, and there is no choice in it.
-- Assumes nothing.
use mathlib.Core.Path.{◌≡◌, refl, sym, ap, ◌∙◌}
use mathlib.Core.Bool.{Bool, true, false}
use mathlib.Core.List.{List, [], ◌∷◌, map}
use Prim.Native.Nat.{ℕ, zero, suc, ◌≤◌, ◌<◌}
use native.Mathlib.Nat.{not-suc-le-zero, le_of_suc-le-suc, lt_of_not-le}
use native.Mathlib.Decide.{dec_le}
use native.Mathlib.Omega.{arith}
use lib.Dec.{ltb, eqb}
use lib.ListN.{length, get_or}
use borrow.Author.Tests.{eqb-true, eqb-false}
use Rattle.rules.specs.Samples.{Slice, Equipment, frequency}
use Rattle.rules.specs.Droop.{deadband_high, deadband_low, side_of, drooped}
use Rattle.rules.specs.Service.{PowerLimit, available_power, operators_limit, ramp_share, volt_watt, nameplate_rating, cessation_recovery, frequency_droop}
use Rattle.rules.specs.Service.{Limited, power_limits, left_by, exports, vars_of, watts_of}
use Rattle.rules.specs.declared.Settings.{Settings}
use Rattle.rules.specs.declared.Report.{Report}
use Rattle.reasons.specs.Numbers.{watts_rule_number}
use Rattle.wattsrules.specs.WattsRules.{limit_named, first_leaving, watts_rule}
use Rattle.explain.specs.Explains.{NamedLimit, rule_leaves, named_limits, FirstOf, WattsNamed}
use Rattle.reasons.specs.declared.WattsRule.{WattsRule}
use Rattle.laws.proofs.Events.{some-limits}
use Rattle.wattsrules.proofs.Binding.{stops, passes, others-leave}

-- the limits of a list, each by its rule
abbrev by_rule : Limited → NamedLimit
by_rule l = rule_leaves (limit_named l.limit) l.watts

-- ---- the first that leaves the least

-- the first of the list
first_stops : (watts : ℕ) (l : Limited) (ls : List Limited) → l.watts ≡ watts → FirstOf (map by_rule (l ∷ ls)) watts (first_leaving watts (l ∷ ls)) 0
first_stops watts l ls e =
    record { inside = omega arith; named = sym (stops watts l ls e); leaves = e; above = λ j m. absurd (not-suc-le-zero m) }

-- one that is not the first
first-later : (watts : ℕ) (l : Limited) (ls : List Limited) (index : ℕ) → watts < l.watts → FirstOf (map by_rule ls) watts (first_leaving watts ls) index
    → FirstOf (map by_rule (l ∷ ls)) watts (first_leaving watts (l ∷ ls)) (suc index)
first-later watts l ls index more f =
    record {
      inside = omega (arith, f.inside);
      named = f.named ∙ sym (passes watts l ls (λ e. omega arith));
      leaves = f.leaves;
      above = before;
    }
  where
    before : (j : ℕ) → j < suc index → watts < get_or (map (λ (m : NamedLimit). m.watts) (map by_rule (l ∷ ls))) j 0
    before zero m = more
    before (suc j) m = f.above j (le_of_suc-le-suc m)

first_of : (watts : ℕ) (l : Limited) (ls : List Limited) → watts ≡ left_by (l ∷ ls)
    → (index : ℕ) × FirstOf (map by_rule (l ∷ ls)) watts (first_leaving watts (l ∷ ls)) index
first_of watts l [] e = (0, first_stops watts l [] (sym e))
first_of watts l (m ∷ ls) e = by (eqb l.watts watts) refl (first_of watts m ls)
  where
    by : (t : Bool) → eqb l.watts watts ≡ t
        → (watts ≡ left_by (m ∷ ls) → (index : ℕ) × FirstOf (map by_rule (m ∷ ls)) watts (first_leaving watts (m ∷ ls)) index)
        → (index : ℕ) × FirstOf (map by_rule (l ∷ m ∷ ls)) watts (first_leaving watts (l ∷ m ∷ ls)) index
    by true p rest = (0, first_stops watts l (m ∷ ls) (eqb-true l.watts watts p))
    by false p rest =
        let other = eqb-false l.watts watts p in
        let more : watts < l.watts = omega (arith, e, other) in
        let f = rest (others-leave watts l m ls other e) in
        (suc f.0, first-later watts l (m ∷ ls) f.0 more f.1)

first-in : (watts : ℕ) (ls : List Limited) → 0 < length ls → watts ≡ left_by ls
    → (index : ℕ) × FirstOf (map by_rule ls) watts (first_leaving watts ls) index
first-in watts [] some e = absurd (not-suc-le-zero some)
first-in watts (l ∷ ls) some e = first_of watts l ls e

-- ---- a limit's name is not the status

limit-number : (l : PowerLimit) → 1 < watts_rule_number (limit_named l)
limit-number available_power = omega arith
limit-number operators_limit = omega arith
limit-number ramp_share = omega arith
limit-number volt_watt = omega arith
limit-number nameplate_rating = omega arith
limit-number cessation_recovery = omega arith
limit-number frequency_droop = omega arith

named-number : (ls : List Limited) (index : ℕ) → index < length (map by_rule ls)
    → 1 < watts_rule_number (get_or (map (λ (l : NamedLimit). l.rule) (map by_rule ls)) index WattsRule.Status)
named-number [] index l = absurd (not-suc-le-zero l)
named-number (m ∷ ls) zero l = limit-number m.limit
named-number (m ∷ ls) (suc index) l = named-number ls index (le_of_suc-le-suc l)

no-status : (ls : List Limited) (watts : ℕ) (rule : WattsRule) (index : ℕ) → FirstOf (map by_rule ls) watts rule index → ¬ (rule ≡ WattsRule.Status)
no-status ls watts rule index f e = omega (arith, named-number ls index f.inside, ap watts_rule_number (f.named ∙ e))

-- ---- beside a report whose powers are those of spec 7

module _ (e : Equipment) (st : Settings) (x : Slice) (r : Report)
    (powers : r.watts ≡ watts_of e st x r.status r.share r.recovery r.held) (vars : r.vars ≡ vars_of e st x r.status)
    (side : exports r.status ≡ true → r.side ≡ side_of (frequency x)) where
  abbrev limits : List Limited
  limits = power_limits e st x r.share r.recovery r.held r.vars

  left : exports r.status ≡ true → r.watts ≡ left_by limits
  unfolding watts_of
  left on = rw vars (powers ∙ rw on refl)

  limit-named : exports r.status ≡ true → (index : ℕ) × FirstOf (map by_rule limits) r.watts (watts_rule r.status limits) index
  limit-named on = rw (on, ← left on) (first-in r.watts limits (some-limits e st x r.share r.recovery r.held r.vars) (left on))

  gives_none : watts_rule r.status limits ≡ WattsRule.Status → exports r.status ≡ false
  gives_none k = by (exports r.status) refl
    where
      by : (t : Bool) → exports r.status ≡ t → exports r.status ≡ false
      by true on = let f = limit-named on in absurd (no-status limits r.watts (watts_rule r.status limits) f.0 f.1 k)
      by false off = off

  status-named : exports r.status ≡ false → watts_rule r.status limits ≡ WattsRule.Status
  status-named off = rw off refl

  -- by what the report shows they are the same
  same-limits : exports r.status ≡ true → named_limits e st x r ≡ map by_rule limits
  unfolding side_of drooped
  same-limits on = by (ltb deadband_high (frequency x)) refl (ltb (frequency x) deadband_low) refl
    where
      by : (a : Bool) → ltb deadband_high (frequency x) ≡ a → (b : Bool) → ltb (frequency x) deadband_low ≡ b → named_limits e st x r ≡ map by_rule limits
      by true p b q = rw (side on, p) refl
      by false p true q = rw (side on, p, q) refl
      by false p false q = rw (side on, p, q) refl

  pub watts-named : WattsNamed e st x r (watts_rule r.status limits)
  watts-named =
      record {
        status = (gives_none, status-named);
        limit = λ on. rw (same-limits on) (limit-named on);
      }

-- ---- there is no choice in it

not-later : (ls : List NamedLimit) (watts : ℕ) (r k : WattsRule) (i j : ℕ) → FirstOf ls watts r i → FirstOf ls watts k j → i ≤ j
not-later ls watts r k i j f g = by (dec_le i j)
  where
    by : Dec (i ≤ j) → i ≤ j
    by (yes p) = p
    by (no p) = absurd (omega (arith, f.above j (lt_of_not-le p), g.leaves))

-- two that are the first are the same
same-rule : (ls : List NamedLimit) (watts : ℕ) (r k : WattsRule) (i j : ℕ) → FirstOf ls watts r i → FirstOf ls watts k j → r ≡ k
same-rule ls watts r k i j f g =
    let same : i ≡ j = omega (arith, not-later ls watts r k i j f g, not-later ls watts k r j i g f) in
    sym f.named ∙ ap (λ (n : ℕ). get_or (map (λ (l : NamedLimit). l.rule) ls) n WattsRule.Status) same ∙ g.named

pub one-watts-named : (e : Equipment) (st : Settings) (x : Slice) (r : Report) (one other : WattsRule) → WattsNamed e st x r one → WattsNamed e st x r other
    → one ≡ other
one-watts-named e st x r one other n m = by (exports r.status) refl
  where
    by : (t : Bool) → exports r.status ≡ t → one ≡ other
    by true on = let f = n.limit on in let g = m.limit on in same-rule _ r.watts one other f.0 g.0 f.1 g.1
    by false off = n.status.1 off ∙ sym (m.status.1 off)
