-- The image's fields and the writes: what is written field after field is the fields' bytes.
-- Assumes nothing.
use mathlib.Core.Path.{◌≡◌}
use mathlib.Core.List.{List, ◌++◌}
use Prim.Native.Nat.{ℕ}
use Rattle.rules.specs.Images.{Field, field_bytes}
use Rattle.laws.proofs.Images.{fields-then}
use Rattle.buffers.specs.Written.{Wrote}
use Rattle.buffers.proofs.Writing.{and_then}

-- some fields, and those after them at the place that was handed back
pub and-fields : {d d₁ d₂ : List ℕ} {at r₁ r₂ : ℕ} (fs gs : List Field) {all : List Field} → fs ++ gs ≡ all
    → Wrote d at d₁ r₁ (field_bytes fs) → Wrote d₁ r₁ d₂ r₂ (field_bytes gs) → Wrote d at d₂ r₂ (field_bytes all)
and-fields fs gs e w₁ w₂ = rw (← e, fields-then) (and_then w₁ w₂)
