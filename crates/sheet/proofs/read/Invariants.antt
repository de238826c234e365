-- `sheet::read` meets its contract. The loop's invariant: i lines are read, and the rest is read from here on (`Reading.antt`).
-- Assumes nothing.
use Rattle.sheet.proofs.Reading.{Going}
use Rattle.sheet.proofs.read.Given as goal

abbrev pub invariant-loop-i : goal.invariant-loop-i
invariant-loop-i l = Going l.s l.settings l.at l.i
