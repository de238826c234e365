-- `imagefields::put_field` meets its contract. The loop's invariant: with the bytes that are left written too, all are.
-- Assumes nothing.
use borrow.Author.Rules.{rules}
use mathlib.Core.Path.{◌≡◌, refl, sym, ◌∙◌}
use mathlib.Core.List.{List, [], ◌∷◌, append-nil}
use Prim.Native.Nat.{ℕ, zero, suc, ◌+◌, ◌-◌, ◌/◌, ◌%◌, ◌≤◌, ◌<◌}
use native.Mathlib.Numerals.{sub-one}
use native.Mathlib.Omega.{arith}
use lib.ListN.{length, set, length-set}
use Rattle.rules.specs.Images.{number_bytes, field, field_bytes}
use Rattle.laws.proofs.Images.{number-length}
use Rattle.buffers.specs.Written.{written}
use Rattle.buffers.proofs.Writing.{written_none, last-first}
use Rattle.imagefields.proofs.put_field.Goals as goal

byte-stored : (d : List ℕ) (at k n : ℕ) → 0 < k → at + k ≤ length d
    → written (set d (at + (k - 1)) (n % 256)) at (number_bytes (k - 1) (n / 256)) ≡ written d at (number_bytes k n)
unfolding number_bytes
byte-stored d at zero n some h = absurd (omega arith)
byte-stored d at (suc k) n some h = rw sub-one (last-first d at (number_bytes k (n / 256)) _ (rw number-length) (omega arith))

none_left : (d : List ℕ) (at k n : ℕ) → k ≡ 0 → written d at (number_bytes k n) ≡ d
unfolding number_bytes
none_left d at zero n e = written_none d at
none_left d at (suc k) n e = absurd (omega arith)

one_field : (width value : ℕ) → field_bytes (field width value ∷ []) ≡ number_bytes width value
unfolding field_bytes
one_field width value = append-nil (number_bytes width value)

pub loop-left-preserved : goal.loop-left-preserved
loop-left-preserved c =
    let turn = c.loop-left in
    let stored = byte-stored turn.out c.args.at turn.left turn.rest (omega arith) (omega arith) in
    (omega arith, simp length-set turn.invariant.1, stored ∙ turn.invariant.2)

pub returns : goal.returns
returns c =
    let turn = c.loop-left in
    let bytes = sym (none_left turn.out _ turn.left turn.rest (omega arith)) ∙ turn.invariant.2 in
    record { wrote = rw one_field (record { after = rw number-length; inside = omega arith; bytes = bytes }); value = refl }
