-- Spec 8.5 to 8.8: what a host is told by the exported functions that say their rules.
-- Assumes nothing.
use Rattle.std.specs.Prelude.{◌≡◌, List, [], ◌∷◌}
use Rattle.rules.specs.Samples.{Equipment}
use Rattle.rules.specs.Reports.{report_of}
use Rattle.rules.specs.History.{History, history_report}
use Rattle.rules.specs.declared.Report.{Report}
use Rattle.rules.specs.declared.Settings.{Settings}
use Rattle.explain.specs.Explained.{history_status_rule, history_watts_rule}
use Rattle.causes.specs.Calls.{Call, run_of, accepted_samples}
use Rattle.claims.specs.TripAndReturn.{Next}
use Rattle.exported.specs.Exported.{exported_board_by}
use Rattle.stepcalls.specs.declared.Explained.{Explained}
use Rattle.stepcalls.specs.ExplainedCalls.{in_numbers, explained_fresh, explained_after_by}

-- the report and the rules of a history, in numbers
abbrev pub history_numbers : Equipment → Settings → History → Explained
history_numbers e st h = in_numbers (report_of (history_report e st h)) (history_status_rule e st h) (history_watts_rule e st h)

-- on the record that a list of calls leaves (`exported_board_by`, with `report` lent to them): `saltdelta_step` and
-- `saltdelta_step_explained` both promise `record_after`, so that a host may ask at some calls and not at others
pub record ExplainsInNumbers (e : Equipment) (st : Settings) : Type 0 where
  pub fresh : explained_fresh ≡ history_numbers e st []
  pub answers : (report : Report) (cs : List Call) (c : Call) (before : Explained) → Next st cs c
      → explained_after_by e before (run_of (exported_board_by e report) cs).board c.settings c.slice
      ≡ history_numbers e st (c.slice ∷ accepted_samples cs)
