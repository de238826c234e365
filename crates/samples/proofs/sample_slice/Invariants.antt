-- `samples::sample_slice` meets its contract: at each turn the places before `i` hold the magnitudes of the numbers there.
-- Assumes nothing.
use Rattle.std.proofs.Common.{◌≡◌, length, map, take, nat_abs}
use Rattle.samples.proofs.sample_slice.Given as goal

abbrev pub invariant-loop-i : goal.invariant-loop-i
invariant-loop-i l = (take l.i l.slice ≡ map nat_abs (take l.i l.n)) × (length l.slice ≡ 7)
