-- `counters::count_each` meets its contract. The loop's invariant: the counters and bits of the rules passed (`Counting.antt`).
-- Assumes nothing.
use mathlib.Core.Path.{◌≡◌, refl}
use Prim.Native.Nat.{◌-◌, ◌≤◌}
use native.Mathlib.Omega.{arith}
use lib.ListN.{length}
use borrow.Author.Rules.{rules}
use Rattle.counters.proofs.Counting.{Passed, turn, all-counters, all-bits, bits_small, each_up_to}
use Rattle.counters.proofs.count_each.Goals as goal

pub marked-requires : goal.marked-requires
marked-requires c =
    let at = c.loop-i in
    let args = c.args in
    let long : length args.old ≡ 9 = search rules in
    omega (arith, bits_small args.r args.s args.old long at.i at.next.n at.next.bits (omega arith) at.invariant.1)

pub loop-i-init : goal.loop-i-init
unfolding each_up_to
loop-i-init c = (omega arith, record { counters = refl; packed = refl })

pub loop-i-preserved : goal.loop-i-preserved
loop-i-preserved c =
    let at = c.loop-i in
    let args = c.args in
    let long : length args.old ≡ 9 = search rules in (
      omega arith,
      turn args.r args.s args.old long at.i at.next.n at.next.bits (omega arith) at.invariant.1 c.count-n.result
          c.top-most.result c.counts.result c.top-most.ensures
          c.counts.ensures c.count-n.ensures c.marked.result c.marked.ensures,
    )

pub returns-clause-n_value : goal.returns-clause-n_value
returns-clause-n_value c =
    let at = c.loop-i in
    let args = c.args in
    let long : length args.old ≡ 9 = search rules in
    let end : at.i ≡ 9 = omega arith in all-counters args.r args.s args.old long at.i at.next.n at.next.bits end at.invariant.1

pub returns-clause-bits_value : goal.returns-clause-bits_value
returns-clause-bits_value c =
    let at = c.loop-i in
    let args = c.args in
    let long : length args.old ≡ 9 = search rules in
    let end : at.i ≡ 9 = omega arith in all-bits args.r args.s args.old long at.i at.next.n at.next.bits end at.invariant.1
