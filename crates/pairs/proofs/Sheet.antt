-- The lines of settings at an arbitrary place: a trip line is its limit's, and how many pairs a line has.
-- Assumes nothing.
use mathlib.Core.Path.{◌≡◌, sym, ◌∙◌}
use mathlib.Core.Bool.{Bool, true, false, cond}
use mathlib.Core.List.{List, [], map}
use Prim.Native.Nat.{ℕ, ◌<◌, ◌≤◌}
use native.Mathlib.Nat.{zero-add}
use native.Mathlib.Omega.{arith}
use borrow.Author.Tests.{ne_eqb}
use lib.Dec.{eqb}
use lib.ListN.{length, drop, length-map, get_or-map}
use Rattle.basics.proofs.Tables.{tabulated, tabulated-at}
use Rattle.rules.specs.Settings.{sheet_lines, lines_of, trip_line, point_pair}
use Rattle.rules.specs.declared.Settings.{Settings}
use Rattle.pairs.specs.Pairs.{settings_line, pairs_in}

pub trip-at : (s : Settings) (i : ℕ) → i < 8 → settings_line s i ≡ trip_line s i
unfolding lines_of
trip-at s i h = rw zero-add at (tabulated-at (trip_line s) 0 8 (drop 8 (lines_of s)) i [] h)

pub single : (i : ℕ) → (i ≡ 11 → ⊥) → (i ≡ 12 → ⊥) → pairs_in i ≡ 1
single i h g = simp (ne_eqb i 11 h, ne_eqb i 12 g)

pub first-pair : (i k : ℕ) → i < 11 → k < pairs_in i → k ≡ 0
first-pair i k h g = omega (arith, single i (λ e. omega arith) (λ e. omega arith))

pub some_pair : (i : ℕ) → 1 ≤ pairs_in i
some_pair i = by (eqb i 11) (eqb i 12)
  where
    by : (a b : Bool) → 1 ≤ cond a 4 (cond b 2 1)
    by true b = omega arith
    by false true = omega arith
    by false false = omega arith

-- what owning an array of structs tells of its list
pub unmapped : (X Y : Type 0) (l : List X) (f : X → Y) (n : ℕ) → length (map f l) ≡ n → length l ≡ n
unmapped X Y l f n e = sym (length-map l f) ∙ e

module _ (s : Settings) (four : length s.var ≡ 4) (two : length s.watt ≡ 2) where
  lengths : map length (lines_of s) ≡ tabulated pairs_in 0 sheet_lines
  unfolding lines_of
  lengths = rw (length-map s.var point_pair, length-map s.watt point_pair, four, two)

  pub pairs-at : (i : ℕ) → i < sheet_lines → length (settings_line s i) ≡ pairs_in i
  pairs-at i h =
      rw (← get_or-map length (lines_of s) i [], lengths) (rw zero-add at (tabulated-at pairs_in 0 sheet_lines [] i 0 h))
