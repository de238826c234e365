-- `imagefields::put_field` meets its contract. The loop's invariant: with the bytes that are left written too, all are.
-- Assumes nothing.
use borrow.Author.Rules.{rules}
use mathlib.Core.Path.{◌≡◌, refl, sym, ◌∙◌}
use mathlib.Core.List.{List, [], ◌∷◌, append-nil}
use Prim.Native.Nat.{ℕ, zero, suc, ◌+◌, ◌-◌, ◌/◌, ◌%◌, ◌≤◌, ◌<◌}
use native.Mathlib.Numerals.{sub-one}
use native.Mathlib.Omega.{arith}
use lib.ListN.{length, set, length-set}
use Rattle.rules.specs.Images.{number_bytes, field, field_bytes}
use Rattle.laws.proofs.Images.{number-length}
use Rattle.buffers.specs.Written.{written}
use Rattle.buffers.proofs.Writing.{written_none, last-first}
use Rattle.imagefields.proofs.put_field.Given as goal

abbrev pub invariant-loop-left : goal.invariant-loop-left
invariant-loop-left l =
    (l.left ≤ l.width) × (length l.out ≡ length l.initial.out) × (written l.out l.at (number_bytes l.left l.rest) ≡ written l.initial.out l.at (number_bytes l.width l.value))

abbrev pub decreases-loop-left : goal.decreases-loop-left
decreases-loop-left l = l.left
