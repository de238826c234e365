-- `imagefields::put_counters` meets its contract. The loop's invariant: the counters before `i` are written.
-- Assumes nothing.
-- the fields up to place i, and the one there
use borrow.Author.Rules.{rules}
use mathlib.Core.Path.{◌≡◌, refl, ◌∙◌}
use mathlib.Core.List.{List, [], ◌∷◌, ◌++◌, map, map-append}
use Prim.Native.Nat.{ℕ, ◌+◌, ◌-◌, ◌*◌, ◌≤◌, ◌<◌}
use native.Mathlib.Numerals.{add-one}
use native.Mathlib.Omega.{arith}
use lib.ListN.{length, take, get_or}
use lib.Seq.{take-suc, take_all}
use Rattle.rules.specs.Images.{field, field_bytes}
use Rattle.buffers.specs.Written.{Wrote}
use Rattle.buffers.proofs.Writing.{wrote_none}
use Rattle.imagefields.proofs.Fields.{and-fields}
use Rattle.imagefields.proofs.put_counters.Given as goal

abbrev pub invariant-loop-i : goal.invariant-loop-i
invariant-loop-i l =
    (l.i ≤ 9) × (length l.out ≡ length l.initial.out) × (l.place ≡ l.at + 4 * l.i) × Wrote l.initial.out l.at l.out l.place (field_bytes (map (field 4) (take l.i l.b.counters)))

abbrev pub decreases-loop-i : goal.decreases-loop-i
decreases-loop-i l = 9 - l.i
