-- Writes into the lent buffer: nothing written, and the length kept.
-- Assumes nothing.
use mathlib.Core.Path.{◌≡◌, sym, ap, ◌∙◌}
use mathlib.Core.List.{List, []}
use Prim.Native.Nat.{ℕ, ◌≤◌}
use native.Mathlib.Omega.{arith}
use lib.ListN.{length}
use Rattle.buffers.specs.Written.{Wrote}
use Rattle.buffers.proofs.Writing.{written_none, length-written}

pub wrote_none : (d : List ℕ) (at : ℕ) → at ≤ length d → Wrote d at d at []
wrote_none d at h = record { after = omega arith; inside = h; bytes = sym (written_none d at) }

pub wrote-length : {d d' x : List ℕ} {at r : ℕ} → Wrote d at d' r x → length d' ≡ length d
wrote-length {d} {d'} {x} {at} w =
    ap length w.bytes ∙ length-written d at x (omega (arith, w.after, w.inside))
