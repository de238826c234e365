-- What an exported step leaves, from what the step by value says: its record and its report where it is not refused, and nothing else.
-- Assumes nothing.
use Rattle.std.specs.Prelude.{Ok, Err}
use mathlib.Core.Path.{◌≡◌, sym, ap, ◌∙◌, subst}
use Prim.Native.Nat.{ℕ, ◌<◌}
use Rattle.rules.specs.Samples.{Slice}
use Rattle.rules.specs.Regions.{our_equipment}
use Rattle.rules.specs.Refusals.{refusal_number, answer_number}
use Rattle.rules.specs.Records.{step_of}
use Rattle.rules.specs.declared.Board.{Board}
use Rattle.rules.specs.declared.Report.{Report}
use Rattle.rules.specs.declared.Refusal.{Refusal}
use Rattle.rules.specs.Answers.{Answer}
use Rattle.rules.specs.declared.Stepped.{Stepped}
use Rattle.rules.specs.declared.Settings.{Settings}
use Rattle.basics.proofs.Refusals.{number-bounds}
use Rattle.explain.specs.Numbers.{explained_number}
use Rattle.explain.specs.Explained.{explained_step}
use Rattle.explain.specs.Answers.{ExplainedAnswer}
use Rattle.explain.specs.declared.ExplainedReport.{ExplainedReport}
use Rattle.explain.specs.declared.ExplainedStep.{ExplainedStep}
use Rattle.stepcalls.specs.StepAnswers.{report_or, step_number, record_after_by, report_after_by, step_number_by, StepLeaves}
use Rattle.stepcalls.specs.ExplainedCalls.{in_numbers, explained_or, explained_after_by, ExplainedLeaves}
use Rattle.stepcalls.specs.declared.Explained.{Explained}
use Rattle.stepcalls.proofs.Refusals.{record-kept}
use Rattle.stepcalls.proofs.Explaining.{number_is}

module _ (b : Board) (s : Settings) (x : Slice) where
  -- a refused step is numbered, and so leaves the record
  kept : (cause : Refusal) → refusal_number cause ≡ step_number b s x → b ≡ record_after_by our_equipment b s x
  kept cause e = sym (record-kept our_equipment b s x (subst (λ (n : ℕ). 0 < n) e (number-bounds cause).0))

  -- ---- a step

  module _ (t : Stepped) (e : t ≡ step_of our_equipment b s x) (before : Report) where
    answered : (a : Answer) → t.answer ≡ a → (report_or before a ≡ report_after_by our_equipment before b s x) × (answer_number a ≡ step_number b s x)
    unfolding report_after_by step_number_by
    answered a told =
        let same : a ≡ (step_of our_equipment b s x).answer = sym told ∙ ap (λ (u : Stepped). u.answer) e in
        (ap (report_or before) same, ap answer_number same)

    pub step-stored : (r : Report) → t.answer ≡ Ok r → StepLeaves b s x before t.board r 0
    unfolding record_after_by
    step-stored r told = let all = answered (Ok r) told in (ap (λ (u : Stepped). u.board) e, all.0, all.1)

    pub step-kept : (cause : Refusal) → t.answer ≡ Err cause → StepLeaves b s x before b before (refusal_number cause)
    step-kept cause told = let all = answered (Err cause) told in (kept cause all.1, all.0, all.1)

  -- ---- a step with its rules

  module _ (t : ExplainedStep) (e : t ≡ explained_step our_equipment b s x) (before : Explained) where
    explained : (a : ExplainedAnswer) → t.answer ≡ a
        → (explained_or before a ≡ explained_after_by our_equipment before b s x) × (explained_number a ≡ step_number b s x)
    unfolding explained_after_by
    explained a told =
        let same : a ≡ (explained_step our_equipment b s x).answer = sym told ∙ ap (λ (u : ExplainedStep). u.answer) e in
        (ap (explained_or before) same, ap explained_number same ∙ number_is our_equipment b s x)

    pub explained-stored : (g : ExplainedReport) → t.answer ≡ Ok g → ExplainedLeaves b s x before t.board (in_numbers g.report g.status g.watts) 0
    unfolding record_after_by explained_step
    explained-stored g told = let all = explained (Ok g) told in (ap (λ (u : ExplainedStep). u.board) e, all.0, all.1)

    pub explained-kept : (cause : Refusal) → t.answer ≡ Err cause → ExplainedLeaves b s x before b before (refusal_number cause)
    explained-kept cause told = let all = explained (Err cause) told in (kept cause all.1, all.0, all.1)
