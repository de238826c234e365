-- `points::points` meets its contract: at each turn the places before `i` hold the points of the numbers there.
-- Assumes nothing.
use Rattle.std.proofs.Common.{◌≡◌, ◌+◌, ◌*◌, ◌<◌, ◌∙◌, ◌++◌, ◌∷◌, [], List, ℕ, ℤ, sym, ap, take, length, slice_set, arith, rules}
use Rattle.std.proofs.lemmas.List.FromFn.{map-range_with_len_more}
use native.Mathlib.Numerals.{add-one}
use lib.ListN.{length-set}
use lib.Seq.{take-suc-set, take_all}
use Rattle.rules.specs.declared.Point.{Point}
use Rattle.points.specs.Points.{point_in, points_in}
use Rattle.points.proofs.points.Goals as goal

more : (n : List ℤ) (points : List Point) (i : ℕ) (p : Point) → i < length points → take i points ≡ points_in n i → p ≡ point_in n (2 * i) (2 * i + 1)
    → take (i + 1) (slice_set points i p) ≡ points_in n (i + 1)
more n points i p room so_far e =
    let longer : take (i + 1) (slice_set points i p) ≡ points_in n i ++ (point_in n (2 * i) (2 * i + 1) ∷ [])
    = rw (add-one i, take-suc-set points i p room, so_far, e) in
    longer ∙ sym (map-range_with_len_more (λ (k : ℕ). point_in n (2 * k) (2 * k + 1)) 0 i i (omega arith))

pub loop-i-preserved : goal.loop-i-preserved
loop-i-preserved g c =
    let l = c.loop-i in (
      more c.args.n l.points l.i _ (omega (arith, l.invariant.1)) l.invariant.0
          (rw c.magnitude.ensures (search rules)),
      length-set l.points l.i _ ∙ l.invariant.1,
    )

pub returns : goal.returns
returns g c =
    let l = c.loop-i in
    let all : l.i ≡ g.row.N = omega arith in
    sym (take_all l.i l.points (omega (arith, l.invariant.1))) ∙ l.invariant.0 ∙ ap (points_in c.args.n) all
