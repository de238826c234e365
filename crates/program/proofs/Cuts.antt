-- A cut of two lists put together, and of a list's rest.
-- Assumes nothing.
use mathlib.Core.Path.{◌≡◌, sym, ap, ap₂, ◌∙◌}
use mathlib.Core.List.{List, ◌++◌, append-nil}
use Prim.Native.Nat.{ℕ, ◌+◌, ◌-◌, ◌≤◌}
use native.Mathlib.Decide.{dec_le}
use native.Mathlib.Omega.{arith}
use lib.ListN.{length, take, drop, length-drop}
use lib.Seq.{length-take-le, take_all, take-append-le, take-append-add, take-add, drop_at}

pub take-both : (n : ℕ) (s t : List ℕ) → take n (s ++ t) ≡ take n s ++ take (n - length s) t
take-both n s t = by (dec_le n (length s))
  where
    by : Dec (n ≤ length s) → take n (s ++ t) ≡ take n s ++ take (n - length s) t
    by (yes h) =
        let z : n - length s ≡ 0 = omega arith in
        take-append-le n s t h ∙ rw z (sym (append-nil (take n s)))
    by (no h) =
        let m : n ≡ length s + (n - length s) = omega arith in
        ap (λ (k : ℕ). take k (s ++ t)) m ∙ take-append-add s t (n - length s) ∙ ap (λ (l : List ℕ). l ++ take (n - length s) t) (sym (take_all n s (omega arith)))

-- the rest of a cut is a cut of the rest
pub drop-take : (d n : ℕ) (s : List ℕ) → d ≤ n → d ≤ length s → drop d (take n s) ≡ take (n - d) (drop d s)
drop-take d n s a b =
    let m : n ≡ d + (n - d) = omega arith in
    ap (λ (k : ℕ). drop d (take k s)) m ∙ ap (drop d) (take-add d (n - d) s) ∙ drop_at (take d s) (take (n - d) (drop d s)) d (length-take-le d s b)

pub rest-cut : (d n : ℕ) (s t : List ℕ) → d ≤ n → d ≤ length s → drop d (take n s) ++ take (n - length s) t ≡ take (n - d) (drop d s ++ t)
rest-cut d n s t a b =
    let m : n - length s ≡ n - d - length (drop d s) = omega (arith, length-drop d s) in
    ap₂ (λ (x y : List ℕ). x ++ y) (drop-take d n s a b) (ap (λ (k : ℕ). take k t) m)
    ∙ sym (take-both (n - d) (drop d s) t)
