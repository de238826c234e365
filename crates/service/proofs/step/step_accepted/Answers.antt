-- `service::step::step_accepted` meets its contract: an accepted sample is a step, and a refused one changes nothing.
-- Assumes nothing.
use mathlib.Core.Path.{◌≡◌, refl, sym, ap, ◌∙◌}
use mathlib.Core.Bool.{true}
use Rattle.rules.specs.Samples.{sample_passed, sample_accepted}
use Rattle.rules.specs.Regions.{equipped_with}
use Rattle.laws.proofs.Accepted.{sample-right}
use Rattle.laws.proofs.Steps.{accepted-step}
use Rattle.service.proofs.Stepping.{sample-refused}
use borrow.Author.Rules.{rules}
use Rattle.service.proofs.step.step_accepted.Goals as goal

pub advance-requires : goal.advance-requires
advance-requires c =
    let ok : sample_accepted c.args.x.now ≡ true = ap sample_passed (sym c.in-Ok.ensures) in
    let right = sample-right c.args.x.now ok in
    rw c.read.ensures (record { frequency-top = right.frequency-high; available-top = right.available-top; limit-top = right.limit-top })

pub returns-in-Err : goal.returns-in-Err
returns-in-Err c =
    let e = equipped_with c.args.table.now in
    let refused = sym c.in-Err.ensures in
    sym (sample-refused e c.args.s c.args.x.now c.args.b _ c.requires.1 refused)

pub returns-in-Ok : goal.returns-in-Ok
returns-in-Ok c =
    let ok : sample_accepted c.args.x.now ≡ true
    = ap sample_passed (sym c.in-Ok.ensures) in
    let e = equipped_with c.args.table.now in
    c.advance.ensures e c.args.x.now refl (sym c.read.ensures)
    ∙ sym (accepted-step e c.args.b c.args.s c.args.x.now c.requires.1 ok)
