-- Demand 1 (spec 11, 13.1) of a step, in the words of its contracts: it is refused by the number of its first cause in the order of spec 11.2, and
-- a refused one leaves what was lent as it was (spec 11.4).
-- Assumes nothing.
use Rattle.std.specs.Prelude.{◌≡◌, ◌++◌, ◌<◌}
use Rattle.rules.specs.Samples.{Slice, Equipment}
use Rattle.rules.specs.declared.Board.{Board}
use Rattle.rules.specs.declared.Report.{Report}
use Rattle.rules.specs.declared.Settings.{Settings}
use Rattle.causes.specs.FirstCause.{first, settings_causes, sample_causes}
use Rattle.stepcalls.specs.StepAnswers.{record_after_by, report_after_by, step_number_by}
use Rattle.stepcalls.specs.ExplainedCalls.{explained_after_by}
use Rattle.stepcalls.specs.declared.Explained.{Explained}

-- `saltdelta_step` and `saltdelta_step_explained`: settings by 2 and 3, then the sample by 8, 4, 5, 6, 7
pub record StepRefuses (e : Equipment) : Type 0 where
  pub number : (b : Board) (st : Settings) (x : Slice) → step_number_by e b st x ≡ first (settings_causes st ++ sample_causes x)
  pub record-kept : (b : Board) (st : Settings) (x : Slice) → 0 < step_number_by e b st x → record_after_by e b st x ≡ b
  pub report-kept : (b : Board) (st : Settings) (x : Slice) (before : Report) → 0 < step_number_by e b st x → report_after_by e before b st x ≡ before
  pub explained-kept : (b : Board) (st : Settings) (x : Slice) (before : Explained) → 0 < step_number_by e b st x
      → explained_after_by e before b st x ≡ before
