-- `service::step::step_by` meets its contract: refused settings change nothing, and under accepted ones the sample decides.
-- Assumes nothing.
use Rattle.std.specs.Prelude.{Err}
use mathlib.Core.Path.{◌≡◌, sym, ap, ◌∙◌}
use mathlib.Core.List.{◌++◌}
use Rattle.rules.specs.Settings.{settings_passed}
use Rattle.rules.specs.Regions.{equipped_with}
use Rattle.rules.specs.Samples.{Slice, Equipment}
use Rattle.rules.specs.Refusals.{answer_number}
use Rattle.rules.specs.Records.{step_of}
use Rattle.rules.specs.declared.Board.{Board}
use Rattle.rules.specs.declared.Settings.{Settings}
use Rattle.rules.specs.declared.Stepped.{Stepped}
use Rattle.causes.specs.FirstCause.{first, settings_causes, sample_causes}
use Rattle.laws.proofs.FirstCause.{step-number}
use Rattle.service.proofs.Stepping.{settings-refused}
use borrow.Author.Rules.{rules}
use Rattle.service.proofs.step.step_by.Goals as goal

-- the step, and so the number of its answer
numbered : (e : Equipment) (b : Board) (s : Settings) (x : Slice) (t : Stepped) → t ≡ step_of e b s x
    → answer_number t.answer ≡ first (settings_causes s ++ sample_causes x)
numbered e b s x t is = ap (λ (u : Stepped). answer_number u.answer) is ∙ step-number e b s x

pub returns-in-Err : goal.returns-in-Err
returns-in-Err c =
    let e = equipped_with c.args.table.now in
    let t : Stepped = record { board = c.args.b; answer = Err c.in-Err.refused.cause } in
    let is : t ≡ step_of e c.args.b c.args.s c.args.x.now
    = sym (settings-refused e c.args.s c.args.x.now c.args.b _ _ c.in-Err.ensures.refused) in
    record { value = is; answer_value = numbered e c.args.b c.args.s c.args.x.now t is }

pub returns-in-Ok : goal.returns-in-Ok
returns-in-Ok c =
    let e = equipped_with c.args.table.now in
    let is : c.step_accepted.result ≡ step_of e c.args.b c.args.s c.args.x.now
    = c.step_accepted.ensures ∙ ap (λ (s : Settings). step_of e c.args.b s c.args.x.now) c.in-Ok.ensures.accepted.0 in
    record { value = is; answer_value = numbered e c.args.b c.args.s c.args.x.now _ is }
