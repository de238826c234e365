-- One law for every counter that saturates: what tells two of them apart.
-- Assumes nothing.
use mathlib.Core.Path.{◌≡◌, sym, ap, ◌∙◌, subst}
use mathlib.Core.Bool.{Bool, true}
use mathlib.Core.List.{◌∷◌}
use Prim.Native.Nat.{ℕ, zero, suc, ◌+◌, ◌-◌, ◌≤◌, min}
use native.Mathlib.Nat.{zero-add, suc-add, add-suc}
use native.Mathlib.Omega.{arith}
use lib.Dec.{T, leb, leb→le, le→leb}
use lib.ListN.{replicate}
use Rattle.rules.specs.Samples.{Slice}
use Rattle.rules.specs.History.{History, followed_by, streak}

-- two counts that reach their top after the same numbers of more steps are equal, cut at the top
pub same_count : (top a b most : ℕ) → top ≤ most
    → ((k : ℕ) → k ≤ most → top ≤ k + a → top ≤ k + b)
    → ((k : ℕ) → k ≤ most → top ≤ k + b → top ≤ k + a)
    → min top a ≡ min top b
same_count top a b most h f g =
    let p : top ≤ (top - a) + b = f (top - a) (omega arith) (omega arith) in
    let q : top ≤ (top - b) + a = g (top - b) (omega arith) (omega arith) in
    omega arith

-- equal tests against a top, read as an order
pub carry : (top a b : ℕ) → leb top a ≡ leb top b → top ≤ a → top ≤ b
carry top a b e h = leb→le top b (subst T e (le→leb top a h))

streak-hit : (t : Slice → Bool) (x : Slice) (h : History) → t x ≡ true → streak t (x ∷ h) ≡ suc (streak t h)
unfolding streak
streak-hit t x h e = rw e

-- n samples that count, put after a history
pub streak-run : (t : Slice → Bool) (x : Slice) → t x ≡ true → (n : ℕ) (h : History) → streak t (followed_by h (replicate n x)) ≡ n + streak t h
streak-run t x e zero h = sym (zero-add (streak t h))
streak-run t x e (suc n) h =
    streak-run t x e n (x ∷ h) ∙ ap (λ (m : ℕ). n + m) (streak-hit t x h e) ∙ add-suc n (streak t h) ∙ sym (suc-add n (streak t h))
