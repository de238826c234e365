-- `fastfields::fast_field` meets its contract: the byte after the number is the one that closes it.
-- Assumes nothing.
use Rattle.std.proofs.Common.{arith}
use Rattle.fastfields.proofs.Fields.{field-taken}
use Rattle.fastfields.proofs.fast_field.Goals as goal

pub returns : goal.returns
returns c =
    let x = c.in_ok-x in
    field-taken c.args.s.now c.args.at c.args.close x.x x.ensures c.requires.1 (omega (arith, x.ensures.few, c.requires.0)) c.if-s-x.false
