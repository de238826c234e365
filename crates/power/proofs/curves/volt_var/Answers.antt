-- `power::curves::volt_var` meets its contract: on its side of the middle points a segment is the whole curve.
-- Assumes nothing.
use mathlib.Core.Path.{◌≡◌, ◌∙◌, ap, sym, subst}
use mathlib.Core.List.{List, [], ◌∷◌}
use Prim.Native.Nat.{ℕ, ◌≤◌}
use native.Mathlib.Omega.{arith}
use lib.IntN.{ℤ, nat_abs}
use lib.ListN.{length}
use mir.Syntax.{w32}
use mir.Val.{to_z, of_z}
use borrow.Author.Rules.{rules}
use Rattle.rules.specs.declared.Point.{Point}
use Rattle.rules.specs.Curves.{curve}
use Rattle.powerlaws.specs.Points.{Rises}
use Rattle.powerlaws.proofs.Magnitude.{power-kept}
use Rattle.powerlaws.proofs.CurveLaws.{curve-small, left-of, right_of}
use Rattle.powerlaws.proofs.PointLists.{point-at, four, unmapped, powers-small, first_two}
use Rattle.power.proofs.curves.volt_var.Goals as goal

-- ---- the points, one by one

rising : (l : List Point) → length l ≡ 4 → Rises l → Rises (point-at l 0 ∷ point-at l 1 ∷ point-at l 2 ∷ point-at l 3 ∷ [])
rising l e r = subst Rises (four l e) r

pub segment-requires : goal.segment-requires
segment-requires c =
    let l = c.args.points in
    first_two (point-at l 0) (point-at l 1) (point-at l 2 ∷ point-at l 3 ∷ []) (rising l (search (rules, unmapped)) c.requires)

pub segment-requires-then-v-third : goal.segment-requires-then-v-third
segment-requires-then-v-third c =
    let l = c.args.points in
    first_two (point-at l 1) (point-at l 2) (point-at l 3 ∷ []) (rising l (search (rules, unmapped)) c.requires).2

pub segment-requires-else-v-third : goal.segment-requires-else-v-third
segment-requires-else-v-third c = (rising c.args.points (search (rules, unmapped)) c.requires).2.2

-- ---- the answer, from a segment that is the curve there

answer : (l : List Point) → length l ≡ 4 → Rises l → (v : ℕ) (z : ℤ) → z ≡ curve (point-at l 0 ∷ point-at l 1 ∷ point-at l 2 ∷ point-at l 3 ∷ []) v
    → (to_z w32 (of_z w32 z) ≡ curve l v) × (nat_abs (to_z w32 (of_z w32 z)) ≤ 10000)
answer l same r v z e =
    let small : nat_abs (curve l v) ≤ 10000 = curve-small 10000 l v (powers-small l r) in
    let is : to_z w32 (of_z w32 z) ≡ curve l v = power-kept z _ (e ∙ ap (λ (k : List Point). curve k v) (sym (four l same))) small in
    (is, rw is small)

pub returns-then-v-second : goal.returns-then-v-second
returns-then-v-second c =
    let l = c.args.points in
    let a = answer l (search (rules, unmapped)) c.requires c.args.v c.segment.result
    (c.segment.ensures ∙ left-of (point-at l 0) (point-at l 1) (point-at l 2 ∷ point-at l 3 ∷ []) c.args.v (omega arith)) in
    record { value = a.0; result_bound = a.1 }

pub returns-then-v-third : goal.returns-then-v-third
returns-then-v-third c =
    let l = c.args.points in
    let a = answer l (search (rules, unmapped)) c.requires c.args.v c.segment-then-v-third.result
    (c.segment-then-v-third.ensures
    ∙ left-of (point-at l 1) (point-at l 2) (point-at l 3 ∷ []) c.args.v (omega arith)
    ∙ right_of (point-at l 0) (point-at l 1) (point-at l 2 ∷ point-at l 3 ∷ []) c.args.v (omega arith)) in
    record { value = a.0; result_bound = a.1 }

pub returns-else-v-third : goal.returns-else-v-third
returns-else-v-third c =
    let l = c.args.points in
    let a = answer l (search (rules, unmapped)) c.requires c.args.v c.segment-else-v-third.result
    (c.segment-else-v-third.ensures
    ∙ right_of (point-at l 1) (point-at l 2) (point-at l 3 ∷ []) c.args.v (omega arith)
    ∙ right_of (point-at l 0) (point-at l 1) (point-at l 2 ∷ point-at l 3 ∷ []) c.args.v (omega arith)) in
    record { value = a.0; result_bound = a.1 }
