-- `imagefields::put_counters` meets its contract. The loop's invariant: the counters before `i` are written.
-- Assumes nothing.
-- the fields up to place i, and the one there
use borrow.Author.Rules.{rules}
use mathlib.Core.Path.{◌≡◌, refl, ◌∙◌}
use mathlib.Core.List.{List, [], ◌∷◌, ◌++◌, map, map-append}
use Prim.Native.Nat.{ℕ, ◌+◌, ◌-◌, ◌*◌, ◌≤◌, ◌<◌}
use native.Mathlib.Numerals.{add-one}
use native.Mathlib.Omega.{arith}
use lib.ListN.{length, take, get_or}
use lib.Seq.{take-suc, take_all}
use Rattle.rules.specs.Images.{field, field_bytes}
use Rattle.buffers.specs.Written.{Wrote}
use Rattle.buffers.proofs.Writing.{wrote_none}
use Rattle.imagefields.proofs.Fields.{and-fields}
use Rattle.imagefields.proofs.put_counters.Goals as goal

one_more : (width : ℕ) (ns : List ℕ) (i : ℕ) → i < length ns
    → map (field width) (take i ns) ++ (field width (get_or ns i 0) ∷ []) ≡ map (field width) (take (i + 1) ns)
one_more width ns i below = rw (add-one, take-suc ns i 0 below, map-append)

pub loop-i-init : goal.loop-i-init
unfolding field_bytes
loop-i-init c = (omega arith, refl, omega arith, wrote_none (omega arith))

pub loop-i-preserved : goal.loop-i-preserved
loop-i-preserved c =
    let put = c.put_field-place in
    let turn = c.loop-i in
    let nine : length c.args.b.counters ≡ 9 = search rules in
    let more = one_more 4 c.args.b.counters turn.i (omega arith) in
    (omega arith, put.auto.out ∙ turn.invariant.1, omega arith, and-fields _ _ more turn.invariant.3 put.ensures.wrote)
