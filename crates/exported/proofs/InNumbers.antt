-- The numbers that an exported step gives are those of the accepted samples' report and rules.
-- Assumes nothing.
use mathlib.Core.Path.{◌≡◌, sym, ap, ◌∙◌}
use mathlib.Core.Bool.{true}
use Rattle.rules.specs.Settings.{settings_accepted}
use Rattle.rules.specs.Samples.{Equipment}
use Rattle.rules.specs.declared.Settings.{Settings}
use Rattle.explain.specs.Explained.{explained_step}
use Rattle.causes.specs.Calls.{Program, run_of}
use Rattle.explain.proofs.Showing.{board-alone, shows-rules}
use Rattle.exported.proofs.Exported.{board-is}
use Rattle.stepcalls.specs.ExplainedCalls.{explained_or, explained_fresh, explained_after_by}
use Rattle.exported.specs.InNumbers.{ExplainsInNumbers}

pub explains-in-numbers : (e : Equipment) (st : Settings) → settings_accepted st ≡ true → ExplainsInNumbers e st
unfolding explained_after_by
explains-in-numbers e st ok =
    let shows = shows-rules e st ok in
    record {
      fresh = ap (explained_or explained_fresh) shows.fresh;
      answers = λ report cs c before n.
          ap (λ (p : Program). explained_or before (explained_step e (run_of p cs).board c.settings c.slice).answer)
          (board-is e report ∙ sym (board-alone e))
          ∙ ap (explained_or before) (shows.answers cs c n);
    }
