-- `power::curves::volt_watt` meets its contract: the one segment is the curve, and is not negative, so the cast keeps it.
-- Assumes nothing.
use mathlib.Core.Path.{◌≡◌, refl, ◌∙◌, ap, sym, subst}
use mathlib.Core.List.{List, [], ◌∷◌}
use Prim.Native.Nat.{ℕ, ◌≤◌}
use native.Mathlib.Omega.{arith}
use lib.IntN.{ℤ, nat_abs}
use lib.ListN.{length}
use mir.Syntax.{w32}
use mir.Val.{to_z, of_z}
use borrow.Author.Rules.{rules}
use Rattle.rules.specs.declared.Point.{Point}
use Rattle.rules.specs.Curves.{curve}
use Rattle.powerlaws.specs.Points.{Rises}
use Rattle.powerlaws.proofs.Magnitude.{power-kept}
use Rattle.powerlaws.proofs.CurveLaws.{curve-small, curve-non_neg}
use Rattle.powerlaws.proofs.PointLists.{point-at, two, unmapped, powers-small}
use Rattle.power.proofs.curves.volt_watt.Goals as goal

pub segment-requires : goal.segment-requires
segment-requires c = subst Rises (two c.args.points (search (rules, unmapped))) c.requires.0

small : (l : List Point) (v : ℕ) → Rises l → nat_abs (curve l v) ≤ 10000
small l v r = curve-small 10000 l v (powers-small l r)

-- the segment's number, read back from its bits
segment-is : (l : List Point) → length l ≡ 2 → Rises l → (v : ℕ) (z : ℤ) → z ≡ curve (point-at l 0 ∷ point-at l 1 ∷ []) v
    → to_z w32 (of_z w32 z) ≡ curve l v
segment-is l e r v z is = power-kept z _ (is ∙ ap (λ (k : List Point). curve k v) (sym (two l e))) (small l v r)

pub overflow_cast-result : goal.overflow_cast-result
overflow_cast-result c =
    let l = c.args.points in
    rw (segment-is l (search (rules, unmapped)) c.requires.0 c.args.v c.segment.result c.segment.ensures)
    (curve-non_neg l c.args.v c.requires.1, record { fits = omega (arith, small l c.args.v c.requires.0) })

pub returns : goal.returns
returns c =
    let l = c.args.points in
    rw (segment-is l (search (rules, unmapped)) c.requires.0 c.args.v c.segment.result c.segment.ensures)
    (record { value = refl; upper_bound = small l c.args.v c.requires.0 })
