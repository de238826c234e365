-- `sampleline::answer_to` meets its contract: where the settings are refused the step turns away what their check turns away.
-- Assumes nothing.
use Rattle.std.specs.Prelude.{◌≡◌, Err, IfErr}
use Rattle.std.proofs.Common.{rules, sym, subst}
use Rattle.rules.specs.Settings.{settings_check}
use Rattle.rules.specs.Regions.{equipped_with}
use Rattle.service.proofs.Stepping.{settings-refused}
use Rattle.sampleline.proofs.answer_to.Goals as goal

pub returns-in-Err : goal.returns-in-Err
returns-in-Err c = λ s from.
    let a = c.args in
    let away = c.in-Err.away in
    let refused : settings_check s ≡ Err away = subst (λ r. IfErr r (λ k. settings_check s ≡ Err k)) c.in-Err.is from.1 in
    rw c.in-Some.is (sym (settings-refused (equipped_with a.table.now) s c.in-Some.slice a.b away.cause away.line refused))
