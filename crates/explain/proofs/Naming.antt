-- The rules of histories name what they should, and nothing else names as much.
-- Assumes nothing.
use mathlib.Core.Path.{◌≡◌, refl, sym, ap, subst, ◌∙◌}
use mathlib.Core.Bool.{Bool, true, false, true≢false}
use mathlib.Core.Logic.{◌↔◌, ⊎_elim, inr}
use mathlib.Core.List.{List, [], ◌∷◌, map}
use Prim.Native.Nat.{ℕ, ◌<◌}
use native.Mathlib.Nat.{zero-add}
use lib.ListN.{get_or}
use Rattle.rules.specs.Tests.{any}
use Rattle.rules.specs.Settings.{limit_at}
use Rattle.rules.specs.Samples.{Slice, Equipment, frequency, permitted}
use Rattle.rules.specs.Counters.{kinds, undervoltage, limit_rule, trip_rules}
use Rattle.rules.specs.Reports.{report_of}
use Rattle.rules.specs.History.{History, complete, serving, history_status, history_side, watts_holding, history_watts, history_vars, history_report}
use Rattle.rules.specs.declared.Settings.{Settings}
use Rattle.claims.specs.Held.{Held, broken_at, WaitFull}
use Rattle.rules.specs.Regions.{region_of}
use Rattle.laws.proofs.Events.{giving-side}
use Rattle.theorems.proofs.Trip.{complete-held, ran_out, trip-law, return-law}
use Rattle.theorems.proofs.Demand2.{service-of}
use Rattle.explain.specs.Explained.{history_status_rule, history_watts_rule}
use Rattle.explain.specs.Explains.{serves_after, StatusNamed, NamesStatusRule, WattsNamed, NamesWattsRule}
use Rattle.reasons.specs.declared.StatusRule.{StatusRule}
use Rattle.reasons.specs.declared.WattsRule.{WattsRule}
use Rattle.explain.proofs.FirstPlaces.{limit-test}
use Rattle.explain.proofs.StatusRules.{status-named, one-named}
use Rattle.explain.proofs.WattsRules.{watts-named, one-watts-named}

module _ (e : Equipment) (st : Settings) where
  -- ---- the status

  served : (h : History) → serving e st h ≡ serves_after e st h
  unfolding history_report
  served h = sym (service-of e st h)

  module _ (x : Slice) (h : History) where
    abbrev trips : List Bool
    trips = map (complete (x ∷ h)) (trip_rules e st)

    abbrev out : ℕ → Type 0
    out i = Held (broken_at e st i) (limit_at st i).clearing (x ∷ h)

    bits : (i : ℕ) → i < 8 → (get_or trips i false ≡ true) ↔ out i
    bits i l =
        let told : get_or trips i false ≡ complete (x ∷ h) (limit_rule e st (get_or kinds i undervoltage) i)
        = limit-test (complete (x ∷ h)) e st 0 kinds i l ∙ ap (λ (j : ℕ). complete (x ∷ h) (limit_rule e st (get_or kinds i undervoltage) j)) (zero-add i) in
        let held = complete-held (x ∷ h) (limit_rule e st (get_or kinds i undervoltage) i) in
        ((λ p. held.0 (sym told ∙ p)), (λ r. told ∙ held.1 r))

    trips-off : serving e st h ≡ true → permitted x ≡ true → any trips ≡ true → serving e st (x ∷ h) ≡ false
    trips-off q p a = (trip-law e st h x q).1 (inr ((ran_out e st (x ∷ h)).0 a))

    off-trips : serving e st h ≡ true → permitted x ≡ true → serving e st (x ∷ h) ≡ false → any trips ≡ true
    off-trips q p r = ⊎_elim (λ f. absurd (true≢false (sym p ∙ f))) (λ o. (ran_out e st (x ∷ h)).1 o) ((trip-law e st h x q).0 r)

    named : StatusNamed e st x (serving e st h) (serving e st (x ∷ h)) out (history_status_rule e st (x ∷ h))
    unfolding history_status_rule
    named = status-named e st x (serving e st h) (serving e st (x ∷ h)) trips out refl bits trips-off off-trips

    one : (other : StatusRule) → StatusNamed e st x (serving e st h) (serving e st (x ∷ h)) out other → other ≡ history_status_rule e st (x ∷ h)
    unfolding history_status_rule
    one = one-named e st x (serving e st h) (serving e st (x ∷ h)) trips out refl bits trips-off off-trips

    shown-named : (rule : StatusRule) → StatusNamed e st x (serving e st h) (serving e st (x ∷ h)) out rule
        → StatusNamed e st x (serves_after e st h) (serves_after e st (x ∷ h)) out rule
    shown-named rule n =
        subst (λ (b : Bool). StatusNamed e st x (serves_after e st h) b out rule) (served (x ∷ h))
        (subst (λ (b : Bool). StatusNamed e st x b (serving e st (x ∷ h)) out rule) (served h) n)

    named-shown : (rule : StatusRule) → StatusNamed e st x (serves_after e st h) (serves_after e st (x ∷ h)) out rule
        → StatusNamed e st x (serving e st h) (serving e st (x ∷ h)) out rule
    named-shown rule n =
        subst (λ (b : Bool). StatusNamed e st x (serving e st h) b out rule) (sym (served (x ∷ h)))
        (subst (λ (b : Bool). StatusNamed e st x b (serves_after e st (x ∷ h)) out rule) (sym (served h)) n)

    not_full : history_status_rule e st (x ∷ h) ≡ StatusRule.WaitNotFull → ¬ WaitFull e st (x ∷ h)
    not_full k full = let off = named.wait.0 k in true≢false (sym ((return-law e st h x off.0).1 full) ∙ off.1)

    full : history_status_rule e st (x ∷ h) ≡ StatusRule.Returned → WaitFull e st (x ∷ h)
    full k = let back = named.returned.0 k in (return-law e st h x back.0).0 back.1

  fresh-status : history_status_rule e st [] ≡ StatusRule.WaitNotFull
  unfolding history_status_rule
  fresh-status = refl

  pub names-status : NamesStatusRule e st (history_status_rule e st)
  names-status = record { fresh = fresh-status; named = λ x h. shown-named x h _ (named x h); not_full = not_full; full = full }

  pub one-status-rule : (rule : History → StatusRule) → NamesStatusRule e st rule → (h : History) → rule h ≡ history_status_rule e st h
  one-status-rule rule n [] = n.fresh ∙ sym fresh-status
  one-status-rule rule n (x ∷ h) = one x h (rule (x ∷ h)) (named-shown x h (rule (x ∷ h)) (n.named x h))

  -- ---- the watts

  fresh-watts : history_watts_rule e st [] ≡ WattsRule.Status
  unfolding history_watts_rule
  fresh-watts = refl

  watts : (x : Slice) (h : History) → WattsNamed e st x (report_of (history_report e st (x ∷ h))) (history_watts_rule e st (x ∷ h))
  unfolding history_watts_rule history_report report_of history_watts watts_holding history_vars history_side history_status
  watts x h = watts-named e st x (report_of (history_report e st (x ∷ h))) refl refl (giving-side (serving e st (x ∷ h)) (region_of e st x) _ (frequency x))

  pub names-watts : NamesWattsRule e st (history_watts_rule e st)
  names-watts = record { fresh = fresh-watts; named = watts }

  pub one-watts-rule : (rule : History → WattsRule) → NamesWattsRule e st rule → (h : History) → rule h ≡ history_watts_rule e st h
  one-watts-rule rule n [] = n.fresh ∙ sym fresh-watts
  one-watts-rule rule n (x ∷ h) =
      one-watts-named e st x (report_of (history_report e st (x ∷ h))) (rule (x ∷ h)) (history_watts_rule e st (x ∷ h)) (n.named x h) (watts x h)
