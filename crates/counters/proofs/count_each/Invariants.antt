-- `counters::count_each` meets its contract. The loop's invariant: the counters and bits of the rules passed (`Counting.antt`).
-- Assumes nothing.
use mathlib.Core.Path.{◌≡◌, refl}
use Prim.Native.Nat.{◌-◌, ◌≤◌}
use native.Mathlib.Omega.{arith}
use lib.ListN.{length}
use borrow.Author.Rules.{rules}
use Rattle.counters.proofs.Counting.{Passed, turn, all-counters, all-bits, bits_small, each_up_to}
use Rattle.counters.proofs.count_each.Given as goal

abbrev pub invariant-loop-i : goal.invariant-loop-i
invariant-loop-i l = (l.i ≤ 9) × Passed l.r l.s l.initial.next.n l.i l.next.n l.next.bits
