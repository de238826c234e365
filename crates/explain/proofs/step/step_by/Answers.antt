-- `explain::step::step_by` meets its contract: refused settings change nothing and have no rules, and under accepted ones the sample decides.
-- Assumes nothing.
use mathlib.Core.Path.{◌≡◌, sym, ap, ◌∙◌}
use mathlib.Core.List.{◌++◌}
use Rattle.rules.specs.Settings.{settings_passed}
use Rattle.rules.specs.Regions.{equipped_with}
use Rattle.rules.specs.Samples.{Slice, Equipment}
use Rattle.rules.specs.declared.Board.{Board}
use Rattle.rules.specs.declared.Settings.{Settings}
use Rattle.causes.specs.FirstCause.{first, settings_causes, sample_causes}
use Rattle.explain.specs.Numbers.{explained_number}
use Rattle.explain.specs.Explained.{explained_step}
use Rattle.explain.specs.declared.ExplainedStep.{ExplainedStep}
use Rattle.explain.proofs.Alone.{explained-number, explained-refused}
use borrow.Author.Rules.{rules}
use Rattle.explain.proofs.step.step_by.Goals as goal

-- the step, and so the number of its answer
promised : (e : Equipment) (b : Board) (s : Settings) (x : Slice) (t : ExplainedStep) → t ≡ explained_step e b s x
    → (t ≡ explained_step e b s x) × (explained_number t.answer ≡ first (settings_causes s ++ sample_causes x))
promised e b s x t is = (is, ap (λ (u : ExplainedStep). explained_number u.answer) is ∙ explained-number e b s x)

pub returns-in-Err : goal.returns-in-Err
returns-in-Err c =
    let e = equipped_with c.args.table.now in
    let p = promised e c.args.b c.args.s c.args.x.now _
    (sym (explained-refused e c.args.b c.args.s c.args.x.now _ _ c.in-Err.ensures.refused)) in
    record { value = p.0; answer_value = p.1 }

pub returns-in-Ok : goal.returns-in-Ok
returns-in-Ok c =
    let e = equipped_with c.args.table.now in
    let is = c.explained.ensures ∙ ap (λ (s : Settings). explained_step e c.args.b s c.args.x.now) c.in-Ok.ensures.accepted.0 in
    let p = promised e c.args.b c.args.s c.args.x.now _ is in
    record { value = p.0; answer_value = p.1 }
