-- Spec 3.2: a sheet line's numbers as points. Numbers are counted from 0.
-- Assumes nothing.
use Rattle.std.specs.Prelude.{List, map, ℕ, ◌+◌, ◌*◌, ℤ, pos, nat_abs, get_or}
use Rattle.std.specs.List.{range_with_len}
use Rattle.rules.specs.declared.Point.{Point}

abbrev pub number_at : List ℤ → ℕ → ℤ
number_at n k = get_or n k (pos 0)

abbrev pub point_in : List ℤ → ℕ → ℕ → Point
point_in n v p = record { volts = nat_abs (number_at n v); power = number_at n p }

-- the first points, each of two numbers
abbrev pub points_in : List ℤ → ℕ → List Point
points_in n count = map (λ i. point_in n (2 * i) (2 * i + 1)) (range_with_len 0 count)
