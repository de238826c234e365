-- `points::points` meets its contract: at each turn the places before `i` hold the points of the numbers there.
-- Assumes nothing.
use Rattle.std.proofs.Common.{◌≡◌, length, take}
use Rattle.points.specs.Points.{points_in}
use Rattle.points.proofs.points.Given as goal

abbrev pub invariant-loop-i : goal.invariant-loop-i
invariant-loop-i g l = (take l.i l.points ≡ points_in l.n l.i) × (length l.points ≡ g.row.N)
