-- Equipments that no accepted sample tells apart name the same rules.
-- Assumes nothing.
use mathlib.Core.Path.{◌≡◌, refl, sym, ap, ap₂, ◌∙◌}
use mathlib.Core.Bool.{Bool, true, false, ◌&&◌}
use mathlib.Core.List.{List}
use Rattle.rules.specs.Settings.{settings_accepted}
use Rattle.rules.specs.Samples.{Slice, Equipment, lowest, highest, permitted, sample_accepted}
use Rattle.rules.specs.Counters.{trip_rules}
use Rattle.rules.specs.Service.{in_service}
use Rattle.rules.specs.Records.{step_of}
use Rattle.rules.specs.declared.Settings.{Settings}
use Rattle.rules.specs.declared.Board.{Board}
use Rattle.rules.specs.declared.Stepped.{Stepped}
use Rattle.causes.specs.Alike.{Alike}
use Rattle.basics.proofs.Bools.{both}
use Rattle.laws.proofs.Accepted.{SampleRight, sample-right}
use Rattle.laws.proofs.Alike.{lowest-alike, highest-alike, mean-alike, region-alike, trips-alike, step-alike}
use Rattle.laws.proofs.SameRules.{full-same}
use Rattle.laws.proofs.Steps.{refused-step}
use Rattle.explain.specs.Explained.{record_status_rule, record_watts_rule, with_rules, explained_step}
use Rattle.statusrules.specs.StatusRules.{status_rule, region_cause}
use Rattle.reasons.specs.declared.StatusRule.{StatusRule}
use Rattle.reasons.specs.declared.WattsRule.{WattsRule}
use Rattle.explain.specs.declared.ExplainedStep.{ExplainedStep}
use Rattle.explain.proofs.Alone.{explained-from}

module _ (e f : Equipment) (a : Alike e f) (b : Board) (st : Settings) (x : Slice) where
  module _ (r : SampleRight x) where
    cause-alike : region_cause e st x ≡ region_cause f st x
    unfolding region_cause
    cause-alike =
        rw (region-alike e f a x r st, lowest-alike e f a x r, highest-alike e f a x r, a.region (lowest f x), a.region (highest f x)) refl

    status-alike : (after : Board) → record_status_rule e st x b after ≡ record_status_rule f st x b after
    unfolding record_status_rule
    status-alike after =
        ap₂ (λ (trips : List Bool) (cause : StatusRule). status_rule (in_service b.status) (in_service after.status) (permitted x) trips cause)
        (full-same x x (trip_rules e st) (trip_rules f st) after.counters (trips-alike e f a x r st)) cause-alike

    watts-alike : (after : Board) → record_watts_rule e st x after ≡ record_watts_rule f st x after
    unfolding record_watts_rule
    watts-alike after = rw (mean-alike e f a x r) refl

  abbrev result : Equipment → Stepped → ExplainedStep
  result g t = record { board = t.board; answer = with_rules (record_status_rule g st x b t.board) (record_watts_rule g st x t.board) t.answer }

  results-alike : (k : Bool) → (settings_accepted st && sample_accepted x) ≡ k → result e (step_of f b st x) ≡ result f (step_of f b st x)
  results-alike true q =
      let r = sample-right x (both (settings_accepted st) (sample_accepted x) q).1 in
      ap₂ (λ (status : StatusRule) (watts : WattsRule). record { board = (step_of f b st x).board; answer = with_rules status watts (step_of f b st x).answer })
      (status-alike r (step_of f b st x).board) (watts-alike r (step_of f b st x).board)
  results-alike false q =
      let away = (refused-step f b st x q).1 in
      ap (result e) away ∙ sym (ap (result f) away)

  pub explained-alike : explained_step e b st x ≡ explained_step f b st x
  explained-alike =
      explained-from e b st x (step_of f b st x) (step-alike e f a b st x) ∙ results-alike (settings_accepted st && sample_accepted x) refl
      ∙ sym (explained-from f b st x (step_of f b st x) refl)
