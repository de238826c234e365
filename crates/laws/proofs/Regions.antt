-- The worst of regions, by their ranks.
-- Assumes nothing.
use mathlib.Core.Path.{◌≡◌, refl, ap, ◌∙◌}
use mathlib.Core.Bool.{Bool, true, false, cond}
use Prim.Native.Nat.{max}
use native.Mathlib.Omega.{arith}
use lib.Dec.{leb}
use borrow.Author.Tests.{leb-true, leb-false}
use Rattle.rules.specs.Regions.{rank, worse}
use Rattle.rules.specs.declared.Region.{Region}

pub rank-worse : (a b : Region) → rank (worse a b) ≡ max (rank a) (rank b)
rank-worse a b = by (leb (rank b) (rank a)) refl
  where
    by : (t : Bool) → leb (rank b) (rank a) ≡ t → rank (cond t a b) ≡ max (rank a) (rank b)
    by true e = omega (arith, leb-true (rank b) (rank a) e)
    by false e = omega (arith, leb-false (rank b) (rank a) e)

-- the rank of the worst of three
pub rank-worst : (a b c : Region) → rank (worse a (worse b c)) ≡ max (rank a) (max (rank b) (rank c))
rank-worst a b c = rank-worse a (worse b c) ∙ ap (max (rank a)) (rank-worse b c)
