-- `lines::put_front` meets its contract: the steady front is the one that the pieces make.
-- Assumes nothing.
use mathlib.Core.Path.{sym, ◌∙◌}
use native.Mathlib.Omega.{arith}
use Rattle.buffers.proofs.Writing.{and_then}
use Rattle.lines.specs.Fronts.{report_front}
use Rattle.lines.proofs.Whole.{steady-front}
use Rattle.lines.proofs.put_front.Goals as goal

pub returns-then-is_steady : goal.returns-then-is_steady
returns-then-is_steady c =
    let steady = sym c.is_steady.ensures ∙ c.if-is_steady.true in
    let wrote = c.put.ensures in
    record { wrote = rw (steady-front c.args.report steady) wrote; upper_bound = omega (arith, wrote.after) }

pub returns : goal.returns
unfolding report_front
returns c =
    record { wrote = and_then c.put_head-a.ensures.wrote (and_then c.put_number-b.ensures.wrote (rw c.from.ensures at c.put_number.ensures.wrote)); upper_bound = omega (arith, c.put_head-a.ensures.upper_bound, c.put_number-b.ensures.upper_bound, c.put_number.ensures.upper_bound) }
