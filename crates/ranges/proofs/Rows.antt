-- A row's test is the test of its first number and that of its second; and the code's table gives a line its row.
-- Assumes nothing.
use mathlib.Core.Path.{◌≡◌, refl}
use mathlib.Core.Bool.{Bool, true, false, ◌&&◌}
use mathlib.Core.List.{List, map}
use Prim.Native.Nat.{ℕ}
use lib.IntN.{pos}
use lib.ListN.{get_or, get_or-map}
use lib.Signed.{le_z}
use Rattle.rules.specs.Tests.{all}
use Rattle.rules.specs.Settings as rules
use Rattle.rules.specs.Settings.{Pair, rows, in_row}
use Rattle.ranges.specs.declared.Row.{Row}
use Rattle.ranges.specs.Rows.{row_of, row_at}

regrouped : (a b c d : Bool) → (a && (b && (c && (d && true)))) ≡ ((a && b) && (c && d))
regrouped true true true true = refl
regrouped true true true false = refl
regrouped true true false d = refl
regrouped true false c d = refl
regrouped false b c d = refl

pub halves : (r : rules.Row) (p : Pair)
    → in_row r p ≡ ((le_z r.first_low p.first && le_z p.first r.first_high) && (le_z r.second_low p.second && le_z p.second r.second_high))
unfolding in_row all
halves r p =
    regrouped (le_z r.first_low p.first) (le_z p.first r.first_high) (le_z r.second_low p.second) (le_z p.second r.second_high)

pub row_here : (t : List Row) → map row_of t ≡ rows → (i : ℕ) → row_of (get_or t i (pos 0, pos 0, pos 0, pos 0)) ≡ row_at i
row_here t e i = rw (← e, get_or-map row_of t i (pos 0, pos 0, pos 0, pos 0))
