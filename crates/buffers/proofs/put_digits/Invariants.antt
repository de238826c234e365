-- `buffers::put_digits` meets its contract. The loop's invariant: with the digits that are left written too, all are.
-- Assumes nothing.
use mathlib.Core.Path.{◌≡◌}
use Rattle.buffers.specs.Digits.{digits_in}
use Rattle.buffers.specs.Written.{written}
use Rattle.buffers.proofs.put_digits.Given as goal

abbrev pub invariant-loop-left : goal.invariant-loop-left
invariant-loop-left g l = written l.out l.at (digits_in g.row.BASE g.row.ZERO l.left l.rest) ≡ written l.initial.out l.at (digits_in g.row.BASE g.row.ZERO l.width l.n)
