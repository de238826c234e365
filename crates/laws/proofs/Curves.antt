-- The curves of an accepted sheet: allowed points, their voltages rising, and no negative watts.
-- Assumes nothing.
use mathlib.Core.Path.{◌≡◌}
use mathlib.Core.Bool.{true, false≢true}
use mathlib.Core.List.{List, [], ◌∷◌, map}
use Prim.Native.Nat.{◌≤◌}
use native.Mathlib.Omega.{arith}
use lib.Dec.{T}
use lib.IntN.{ℤ, pos, negsuc, neg_ℤ, nat_abs}
use lib.Signed.{le_z, lt_z, non_neg}
use mir.Syntax.{w16}
use mir.Val.{SFits}
use borrow.Author.Tests.{leb-true, ltb-true}
use Rattle.rules.specs.Tests.{all}
use Rattle.rules.specs.Settings.{Row, rows, in_row, rising, lines_of, settings_accepted, point_pair}
use Rattle.rules.specs.declared.Point.{Point}
use Rattle.rules.specs.declared.Settings.{Settings}
use Rattle.basics.proofs.Bools.{both, at_all}
use Rattle.laws.proofs.Accepted.{row_at, sheet-line}
use Rattle.powerlaws.specs.Points.{Allowed, RisesFrom, Rises, NonNegative}

-- a power fits 16 bits
pub fits16 : (z : ℤ) → nat_abs z ≤ 10000 → SFits w16 z
fits16 (pos n) h = record { sfits = omega arith }
fits16 (negsuc n) h = record { sfits = omega arith }

-- a row that allows only such points as a curve may have
abbrev Allows : Row → Type 0
Allows r = (p : Point) → in_row r (point_pair p) ≡ true → Allowed p

power-top : (z : ℤ) → le_z (neg_ℤ (pos 10000)) z ≡ true → le_z z (pos 10000) ≡ true → nat_abs z ≤ 10000
power-top (pos n) low high = leb-true n 10000 high
power-top (negsuc n) low high = omega (arith, leb-true n 9999 low)

not_negative : (z : ℤ) → le_z (pos 0) z ≡ true → T (non_neg z)
not_negative (pos n) low = tt
not_negative (negsuc n) low = false≢true low

abbrev var_row : Row
var_row = row_at 11

abbrev watt_row : Row
watt_row = row_at 12

var-allows : Allows var_row
unfolding in_row rows
var-allows p e =
    record { volts-top = leb-true p.volts 13000 (at_all _ e 1); power-top = power-top p.power (at_all _ e 2) (at_all _ e 3) }

watt-not-negative : (p : Point) → in_row watt_row (point_pair p) ≡ true → T (non_neg p.power)
unfolding in_row rows
watt-not-negative p e = not_negative p.power (at_all _ e 2)

watt-allows : Allows watt_row
unfolding in_row rows
watt-allows p e =
    record { volts-top = omega (arith, leb-true p.volts 12000 (at_all _ e 1)); power-top = top p.power (at_all _ e 2) (at_all _ e 3) }
  where
    top : (z : ℤ) → le_z (pos 0) z ≡ true → le_z z (pos 10000) ≡ true → nat_abs z ≤ 10000
    top (pos n) low high = leb-true n 10000 high
    top (negsuc n) low high = absurd (false≢true low)

-- ---- a line of points in their row, rising

abbrev Line : Row → List Point → Type 0
Line r ps = (all (map (in_row r) (map point_pair ps)) ≡ true) × (rising (map point_pair ps) ≡ true)

rises-from : (r : Row) → Allows r → (a : Point) (ps : List Point) → Line r (a ∷ ps) → RisesFrom a ps
unfolding all rising
rises-from r f a [] l = f a (both (in_row r (point_pair a)) true l.0).0
rises-from r f a (b ∷ ps) l =
    let p = both (in_row r (point_pair a)) (all (map (in_row r) (map point_pair (b ∷ ps)))) l.0 in
    let q = both (lt_z (pos a.volts) (pos b.volts)) (rising (map point_pair (b ∷ ps))) l.1 in
    (f a p.0, ltb-true a.volts b.volts q.0, rises-from r f b ps (p.1, q.1))

rises : (r : Row) → Allows r → (ps : List Point) → Line r ps → Rises ps
rises r f [] l = tt
rises r f (a ∷ ps) l = rises-from r f a ps l

not-negatives : (ps : List Point) → all (map (in_row watt_row) (map point_pair ps)) ≡ true → NonNegative ps
unfolding all
not-negatives [] e = tt
not-negatives (a ∷ ps) e =
    let p = both (in_row watt_row (point_pair a)) (all (map (in_row watt_row) (map point_pair ps))) e in
    (watt-not-negative a p.0, not-negatives ps p.1)

module _ (s : Settings) (ok : settings_accepted s ≡ true) where
  var-line : Line var_row s.var
  unfolding lines_of
  var-line = let l = sheet-line s ok 11 (omega arith) in (l.in-row, l.rise)

  watt-line : Line watt_row s.watt
  unfolding lines_of
  watt-line = let l = sheet-line s ok 12 (omega arith) in (l.in-row, l.rise)

  pub var-rises : Rises s.var
  var-rises = rises var_row var-allows s.var var-line

  pub watt-rises : Rises s.watt
  watt-rises = rises watt_row watt-allows s.watt watt-line

  pub watt-not-negatives : NonNegative s.watt
  watt-not-negatives = not-negatives s.watt watt-line.0
