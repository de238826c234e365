-- `settings::check` meets its contract: the first thirteen lines are all, and so the number and the line are those of the first cause.
-- Assumes nothing.
use mathlib.Core.Path.{◌≡◌, ap, ◌∙◌}
use Rattle.rules.specs.Settings.{settings_check}
use Rattle.rules.specs.Refusals.{settings_number, line_of}
use Rattle.laws.proofs.FirstCause.{settings-number, settings-line}
use Rattle.settings.proofs.Steps.{all_lines}
use borrow.Author.Rules.{rules}
use Rattle.settings.proofs.check.Goals as goal

pub returns : goal.returns
returns c =
    let s = c.args.s in
    let all : c.check_first.result ≡ settings_check s = c.check_first.ensures ∙ all_lines s in
    record { value = all; result_value = (ap settings_number all ∙ settings-number s, ap line_of all ∙ settings-line s) }
