-- `buffers::put_digits` meets its contract.
-- Assumes nothing.
use mathlib.Core.Path.{refl, sym, ◌∙◌}
use native.Mathlib.Omega.{arith}
use Rattle.buffers.proofs.Digits.{digits-length, digit-stored, none-left}
use Rattle.buffers.proofs.put_digits.Goals as goal

pub loop-left-preserved : goal.loop-left-preserved
loop-left-preserved g c =
    let turn = c.loop-left in
    digit-stored g.row.BASE g.row.ZERO turn.out c.args.at turn.left turn.rest (omega arith) (omega arith) ∙ turn.invariant

pub returns : goal.returns
returns g c =
    let turn = c.loop-left in
    let bytes = sym (none-left g.row.BASE g.row.ZERO turn.out _ turn.left turn.rest (omega arith)) ∙ turn.invariant in
    record { wrote = record { after = rw digits-length; inside = omega arith; bytes = bytes }; value = refl }
