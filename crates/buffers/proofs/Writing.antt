-- Writes into a buffer: the length is kept, two writes in a row are one, and stores and copies are writes.
-- Assumes nothing.
use mathlib.Core.Path.{◌≡◌, sym, ap, ◌∙◌}
use mathlib.Core.List.{List, [], ◌∷◌, ◌++◌, append_assoc, append-nil}
use Prim.Native.Nat.{ℕ, suc, ◌+◌, ◌≤◌, ◌<◌}
use native.Mathlib.Nat.{add_assoc, add-zero}
use native.Mathlib.Numerals.{add-one}
use native.Mathlib.Omega.{arith}
use lib.ListN.{length, take, drop, get_or, set, length-append, take-append-drop}
use lib.Seq.{length-take-le, take_at, drop_at, drop-drop, take-length, take-set-le, set_split, append_snoc, sets, sets-eq, paste, paste-suc, length-paste}
use Rattle.buffers.specs.Written.{written, Wrote}

-- a copy of all of x is a write of x
pub copy-all : (d : List ℕ) (at : ℕ) (x : List ℕ) → paste d at x (length x) ≡ written d at x
unfolding written
copy-all d at x = rw take-length

-- one byte more of a copy of x
pub copy_more : (d : List ℕ) (at : ℕ) (x : List ℕ) (i : ℕ) {place : ℕ} {d' : List ℕ} → at + i < length d → i < length x
    → place ≡ at + i → d' ≡ paste d at x i → set d' place (get_or x i 0) ≡ paste d at x (i + 1)
copy_more d at x i h below e copied = rw (e, copied, add-one) (paste-suc d at x i 0 h below)

-- stores of x, byte by byte, are a write of x
pub stores : (d : List ℕ) (at : ℕ) (x : List ℕ) → at + length x ≤ length d → sets d at x ≡ written d at x
unfolding written
stores d at x h = sets-eq x d at h

pub written_none : (d : List ℕ) (at : ℕ) → written d at [] ≡ d
unfolding written
written_none d at = rw (add-zero, append-nil) (take-append-drop at d)

-- from a place that was stored to
drop-set : (d : List ℕ) (i b : ℕ) → i < length d → drop i (set d i b) ≡ b ∷ drop (suc i) d
drop-set d i b h = rw set_split (drop_at (take i d) _ i (length-take-le i d (omega arith)))

module _ (d : List ℕ) (at : ℕ) (x : List ℕ) (h : at + length x ≤ length d) where
  pub length-written : length (written d at x) ≡ length d
  length-written = ap length (sym (copy-all d at x)) ∙ length-paste d at x (length x) h (omega arith)

  head-length : length (take at d ++ x) ≡ at + length x
  head-length = length-append (take at d) x ∙ ap (λ (n : ℕ). n + length x) (length-take-le at d (omega arith))

  head : take (at + length x) (written d at x) ≡ take at d ++ x
  unfolding written
  head = take_at (take at d ++ x) _ (at + length x) head-length

  tail : (n : ℕ) → drop (at + length x + n) (written d at x) ≡ drop (at + length x + n) d
  unfolding written
  tail n =
      sym (drop-drop n (at + length x) (written d at x))
      ∙ ap (drop n) (drop_at (take at d ++ x) _ (at + length x) head-length)
      ∙ drop-drop n (at + length x) d

  -- two writes, the second at the place after the first, are one
  pub written_then : (y : List ℕ) → written (written d at x) (at + length x) y ≡ written d at (x ++ y)
  unfolding written
  written_then y = rw (head, tail, append_assoc (take at d) x y, length-append, add_assoc)

pub write_then : (d : List ℕ) (at : ℕ) (x y : List ℕ) {d₁ d₂ : List ℕ} {p : ℕ}
    → p ≡ at + length x → at + length x ≤ length d → d₁ ≡ written d at x → d₂ ≡ written d₁ p y → d₂ ≡ written d at (x ++ y)
write_then d at x y e h w₁ w₂ = w₂ ∙ rw (e, w₁) (written_then d at x h y)

pub and_then : {d x y d₁ d₂ : List ℕ} {at r₁ r₂ : ℕ} → Wrote d at d₁ r₁ x → Wrote d₁ r₁ d₂ r₂ y → Wrote d at d₂ r₂ (x ++ y)
and_then {d} {x} {y} {at = at} w₁ w₂ =
    let room : at + length x ≤ length d = omega (arith, w₁.after, w₁.inside) in
    record {
      after = omega (arith, length-append x y, w₁.after, w₂.after);
      inside = omega (arith, w₂.inside, ap length w₁.bytes, length-written d at x room);
      bytes = write_then d at x y w₁.after room w₁.bytes w₂.bytes;
    }

-- writing nothing
pub wrote_none : {d : List ℕ} {at : ℕ} → at ≤ length d → Wrote d at d at []
wrote_none {d} {at} h = record { after = sym (add-zero at); inside = h; bytes = sym (written_none d at) }

-- the last byte may be stored before the others are written
pub last-first : (d : List ℕ) (at : ℕ) (x : List ℕ) (b : ℕ) {place : ℕ} → place ≡ at + length x → place < length d
    → written (set d place b) at x ≡ written d at (x ++ (b ∷ []))
unfolding written
last-first d at x b {place} e h =
    let tail = drop-set d place b h in
    rw (← e, take-set-le at d place b (omega arith), tail, ← append_assoc (take at d) x (b ∷ []), length-append, ← add_assoc, ← e, add-one, append_snoc)
