-- What an explained step answers and stores: its numbers are those of its report and rules, and it is refused as the step without rules is.
-- Assumes nothing.
use Rattle.std.specs.Prelude.{Ok, Err}
use mathlib.Core.Path.{◌≡◌, refl, sym, ap, ◌∙◌}
use Prim.Native.Nat.{ℕ, ◌<◌}
use native.Mathlib.Omega.{arith}
use Rattle.rules.specs.Samples.{Slice, Equipment}
use Rattle.rules.specs.Regions.{our_equipment}
use Rattle.rules.specs.Refusals.{refusal_number}
use Rattle.rules.specs.Records.{step_of}
use Rattle.rules.specs.declared.Board.{Board}
use Rattle.rules.specs.declared.Report.{Report}
use Rattle.rules.specs.declared.Settings.{Settings}
use Rattle.rules.specs.declared.Refusal.{Refusal}
use Rattle.basics.proofs.Refusals.{number-bounds}
use Rattle.explain.specs.Numbers.{explained_number}
use Rattle.explain.specs.Explained.{explained_step}
use Rattle.reasons.specs.declared.StatusRule.{StatusRule}
use Rattle.reasons.specs.declared.WattsRule.{WattsRule}
use Rattle.explain.specs.Answers.{ExplainedAnswer, reported_with}
use Rattle.explain.specs.declared.ExplainedStep.{ExplainedStep}
use Rattle.explain.proofs.Alone.{numbered}
use Rattle.stepcalls.specs.StepAnswers.{record_after, step_number, record_after_by, step_number_by}
use Rattle.stepcalls.specs.ExplainedCalls.{in_numbers, explained_or, explained_fresh, explained_after, explained_after_by}
use Rattle.stepcalls.specs.declared.Explained.{Explained}

module _ (e : Equipment) (b : Board) (s : Settings) (x : Slice) where
  -- the number is that of the step without rules
  pub number_is : explained_number (explained_step e b s x).answer ≡ step_number_by e b s x
  unfolding step_number_by explained_step
  number_is = numbered _ _ (step_of e b s x).answer

  -- a refused call stores nothing
  pub explained-untouched : (before : Explained) → 0 < step_number_by e b s x → explained_after_by e before b s x ≡ before
  unfolding explained_after_by
  explained-untouched before some = by (explained_step e b s x).answer (omega (arith, some, number_is))
    where
      by : (a : ExplainedAnswer) → 0 < explained_number a → explained_or before a ≡ before
      by (Ok given) k = absurd (omega (arith, k))
      by (Err cause) k = refl
