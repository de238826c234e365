-- The least number of a list, and the least that limits leave: not above any of them, and found by taking them one after the other.
-- Assumes nothing.
use mathlib.Core.Path.{◌≡◌, refl, ◌∙◌}
use mathlib.Core.List.{List, [], ◌∷◌, ◌++◌, map}
use Prim.Native.Nat.{ℕ, zero, suc, ◌≤◌, ◌<◌, min}
use native.Mathlib.Nat.{not-suc-le-zero, le_of_suc-le-suc}
use native.Mathlib.Omega.{arith}
use lib.ListN.{length, get_or}
use Rattle.rules.specs.Service.{Limited, least, left_by}

pub least-below : (ns : List ℕ) (i : ℕ) → i < length ns → least ns ≤ get_or ns i 0
least-below [] i h = absurd (not-suc-le-zero h)
least-below (n ∷ []) zero h = omega arith
least-below (n ∷ []) (suc i) h = absurd (not-suc-le-zero (le_of_suc-le-suc h))
least-below (n ∷ m ∷ ns) zero h = omega arith
least-below (n ∷ m ∷ ns) (suc i) h = omega (arith, least-below (m ∷ ns) i (le_of_suc-le-suc h))

-- one more behind the others
pub least-then : (n : ℕ) (ns : List ℕ) (m : ℕ) → least ((n ∷ ns) ++ (m ∷ [])) ≡ min (least (n ∷ ns)) m
least-then n [] m = refl
least-then n (k ∷ ns) m = omega (arith, least-then k ns m)

-- one that is not below the first changes nothing
pub least_kept : (n : ℕ) (ns : List ℕ) (m : ℕ) → n ≤ m → least ((n ∷ ns) ++ (m ∷ [])) ≡ least (n ∷ ns)
least_kept n ns m h = omega (arith, least-then n ns m, least-below (n ∷ ns) 0 (omega arith))

-- ---- limits

-- not above what the first leaves, nor above what the last leaves
pub left-first : (l : Limited) (ls : List Limited) → left_by (l ∷ ls) ≤ l.watts
left-first l ls = least-below (map (λ (k : Limited). k.watts) (l ∷ ls)) 0 (omega arith)

pub left-last : (ls : List Limited) (l : Limited) → left_by (ls ++ (l ∷ [])) ≤ l.watts
left-last [] l = omega arith
left-last (k ∷ []) l = omega arith
left-last (k ∷ m ∷ ls) l = omega (arith, left-last (m ∷ ls) l)

-- limits behind others
pub left-then : (ls : List Limited) (l : Limited) (ms : List Limited) → 0 < length ls → left_by (ls ++ (l ∷ ms)) ≡ min (left_by ls) (left_by (l ∷ ms))
left-then [] l ms some = absurd (not-suc-le-zero some)
left-then (k ∷ []) l ms some = refl
left-then (k ∷ m ∷ ls) l ms some = omega (arith, left-then (m ∷ ls) l ms (omega arith))

-- the smaller of n and the first of the others, then of that and the next, and so on
abbrev pub in_turn : ℕ → List ℕ → ℕ
in_turn n [] = n
in_turn n (m ∷ ns) = in_turn (min n m) ns

least-both : (n m : ℕ) (ns : List ℕ) → least (min n m ∷ ns) ≡ min n (least (m ∷ ns))
least-both n m [] = refl
least-both n m (k ∷ ns) = omega arith

pub in-turn : (n : ℕ) (ns : List ℕ) → in_turn n ns ≡ least (n ∷ ns)
in-turn n [] = refl
in-turn n (m ∷ ns) = in-turn (min n m) ns ∙ least-both n m ns

pub in-turn-low : (n : ℕ) (ns : List ℕ) → in_turn n ns ≤ n
in-turn-low n ns = rw (in-turn n ns) (least-below (n ∷ ns) 0 (omega arith))
