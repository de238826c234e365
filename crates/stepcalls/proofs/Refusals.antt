-- Demand 1 of a step: it is refused with the first cause in the order of spec 11.2, and a refused one leaves what was lent to it as it was.
-- Assumes nothing.
use Rattle.std.specs.Prelude.{Ok, Err}
use mathlib.Core.Path.{◌≡◌, refl}
use mathlib.Core.List.{◌++◌}
use Prim.Native.Nat.{◌<◌}
use native.Mathlib.Omega.{arith}
use Rattle.rules.specs.Samples.{Slice, Equipment}
use Rattle.rules.specs.Refusals.{answer_number}
use Rattle.rules.specs.Records.{step_of}
use Rattle.rules.specs.declared.Board.{Board}
use Rattle.rules.specs.declared.Report.{Report}
use Rattle.rules.specs.Answers.{Answer}
use Rattle.rules.specs.declared.Settings.{Settings}
use Rattle.causes.specs.FirstCause.{first, settings_causes, sample_causes}
use Rattle.laws.proofs.FirstCause.{refuses-rightly}
use Rattle.stepcalls.specs.StepAnswers.{report_or, record_after_by, report_after_by, step_number_by}
use Rattle.stepcalls.specs.Refuses.{StepRefuses}
use Rattle.stepcalls.proofs.Explaining.{explained-untouched}

module _ (e : Equipment) (b : Board) (s : Settings) (x : Slice) where
  pub step-cause : step_number_by e b s x ≡ first (settings_causes s ++ sample_causes x)
  unfolding step_number_by
  step-cause = (refuses-rightly e).step b s x

  pub record-kept : 0 < step_number_by e b s x → record_after_by e b s x ≡ b
  unfolding step_number_by record_after_by
  record-kept h = (refuses-rightly e).step_keeps b s x h

  pub report-kept : (before : Report) → 0 < step_number_by e b s x → report_after_by e before b s x ≡ before
  unfolding step_number_by report_after_by
  report-kept before h = by (step_of e b s x).answer h
    where
      by : (a : Answer) → 0 < answer_number a → report_or before a ≡ before
      by (Ok r) k = absurd (omega (arith, k))
      by (Err cause) k = refl

pub step-refuses : (e : Equipment) → StepRefuses e
step-refuses e = record { number = step-cause e; record-kept = record-kept e; report-kept = report-kept e; explained-kept = explained-untouched e }
