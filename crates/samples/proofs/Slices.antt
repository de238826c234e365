-- The magnitudes of numbers, stored place by place.
-- Assumes nothing.
use mathlib.Core.Path.{◌≡◌, sym}
use mathlib.Core.List.{List, [], ◌∷◌, map, map-append}
use Prim.Native.Nat.{ℕ, ◌+◌, ◌<◌}
use native.Mathlib.Numerals.{add-one}
use lib.IntN.{ℤ, pos, nat_abs}
use lib.ListN.{length, get_or, take, set}
use lib.Seq.{take-suc, take-suc-set}

pub stored_more : (n : List ℤ) (slice : List ℕ) (i v : ℕ) → i < length slice → i < length n → take i slice ≡ map nat_abs (take i n)
    → v ≡ nat_abs (get_or n i (pos 0)) → take (i + 1) (set slice i v) ≡ map nat_abs (take (i + 1) n)
stored_more n slice i v h l e same = rw (add-one, take-suc-set slice i v h, e, same, take-suc n i (pos 0) l)
    (sym (map-append nat_abs (take i n) (get_or n i (pos 0) ∷ [])))
