-- Numbers inside a row of allowed values suit the form of the row's line.
-- Assumes nothing.
use mathlib.Core.Path.{◌≡◌, refl, ap, ◌∙◌}
use mathlib.Core.Bool.{Bool, true, false, cond, ◌&&◌, false≢true}
use mathlib.Core.List.{List, [], ◌∷◌, map}
use Prim.Native.Nat.{ℕ, suc, ◌*◌}
use native.Mathlib.Omega.{arith}
use borrow.Author.Tests.{leb-true, le-leb}
use lib.Dec.{leb, eqb}
use lib.IntN.{ℤ, pos, negsuc}
use lib.ListN.{length}
use lib.Signed.{le_z}
use Rattle.rules.specs.Tests.{all}
use Rattle.rules.specs.Forms.{signed_mark}
use Rattle.rules.specs.Settings.{Pair, Row, in_row}
use Rattle.rules.specs.Sheets.{pairs}
use Rattle.formats.specs.Marks.{is_mark, marks, fits, fits_then, suits}
use Rattle.formats.specs.Sheets.{pair_numbers}
use Rattle.basics.proofs.Bools.{both}

-- ---- the marks of a form, in order

abbrev pub marks_of : List ℕ → List ℕ
marks_of [] = []
marks_of (m ∷ form) = cond (is_mark m) (m ∷ marks_of form) (marks_of form)

-- numbers suit a form by its marks alone
pub suits-marks : (form : List ℕ) (ns : List ℤ) → suits form ns ≡ suits (marks_of form) ns
unfolding suits
suits-marks [] ns = refl
suits-marks (m ∷ form) ns = by (is_mark m) refl ns (suits-marks form)
  where
    by : (b : Bool) → is_mark m ≡ b → (ks : List ℤ) → ((ls : List ℤ) → suits form ls ≡ suits (marks_of form) ls)
        → cond b (fits_then m ks (suits form)) (suits form ks) ≡ suits (cond b (m ∷ marks_of form) (marks_of form)) ks
    by true e [] f = rw e
    by true e (k ∷ ks) f = rw (e, f ks)
    by false e ks f = f ks

marks-length : (form : List ℕ) → length (marks_of form) ≡ marks form
unfolding marks
marks-length [] = refl
marks-length (m ∷ form) = by (is_mark m) (marks-length form)
  where
    by : (b : Bool) → length (marks_of form) ≡ marks form → length (cond b (m ∷ marks_of form) (marks_of form)) ≡ cond b (suc (marks form)) (marks form)
    by true e = ap suc e
    by false e = e

-- ---- a row and the marks of its line

-- the marks stand two by two, and the row's ends can be written in their places
unfoldable pub ends_fit : Row → List ℕ → Bool
ends_fit r [] = true
ends_fit r (m ∷ []) = false
ends_fit r (m ∷ k ∷ ms) =
    (is_mark m && (fits m r.first_low && fits m r.first_high)) && ((is_mark k && (fits k r.second_low && fits k r.second_high)) && ends_fit r ms)

record TwoMarks (r : Row) (m k : ℕ) (ms : List ℕ) : Type 0 where
  first : is_mark m ≡ true
  first_low : fits m r.first_low ≡ true
  first_high : fits m r.first_high ≡ true
  second : is_mark k ≡ true
  second_low : fits k r.second_low ≡ true
  second_high : fits k r.second_high ≡ true
  rest : ends_fit r ms ≡ true

two-marks : (r : Row) (m k : ℕ) (ms : List ℕ) → ends_fit r (m ∷ k ∷ ms) ≡ true → TwoMarks r m k ms
unfolding ends_fit
two-marks r m k ms e =
    let a = both (is_mark m && (fits m r.first_low && fits m r.first_high)) ((is_mark k && (fits k r.second_low && fits k r.second_high)) && ends_fit r ms) e in
    let b = both (is_mark m) (fits m r.first_low && fits m r.first_high) a.0 in
    let c = both (fits m r.first_low) (fits m r.first_high) b.1 in
    let d = both (is_mark k && (fits k r.second_low && fits k r.second_high)) (ends_fit r ms) a.1 in
    let f = both (is_mark k) (fits k r.second_low && fits k r.second_high) d.0 in
    let g = both (fits k r.second_low) (fits k r.second_high) f.1 in
    record { first = b.0; first_low = c.0; first_high = c.1; second = f.0; second_low = g.0; second_high = g.1; rest = d.1 }

-- between two numbers that fit a mark, every number fits it
fits-between : (mark : ℕ) (low high z : ℤ) → fits mark low ≡ true → fits mark high ≡ true → le_z low z ≡ true → le_z z high ≡ true → fits mark z ≡ true
fits-between mark low (pos h) (pos n) f g p q = le-leb n 999999 (omega (arith, leb-true n h q, leb-true h 999999 g))
fits-between mark low (negsuc h) (pos n) f g p q = absurd (false≢true q)
fits-between mark (pos l) high (negsuc n) f g p q = absurd (false≢true p)
fits-between mark (negsuc l) high (negsuc n) f g p q =
    let fit = both (eqb mark signed_mark) (leb (suc l) 999999) f in
    rw fit.0 (le-leb (suc n) 999999 (omega (arith, leb-true n l p, leb-true (suc l) 999999 fit.1)))

pub record Inside (r : Row) (p : Pair) : Type 0 where
  pub first_low : le_z r.first_low p.first ≡ true
  pub first_high : le_z p.first r.first_high ≡ true
  pub second_low : le_z r.second_low p.second ≡ true
  pub second_high : le_z p.second r.second_high ≡ true

pub inside : (r : Row) (p : Pair) → in_row r p ≡ true → Inside r p
unfolding in_row all
inside r p e =
    let a = both (le_z r.first_low p.first) (le_z p.first r.first_high && (le_z r.second_low p.second && (le_z p.second r.second_high && true))) e in
    let b = both (le_z p.first r.first_high) (le_z r.second_low p.second && (le_z p.second r.second_high && true)) a.1 in
    let c = both (le_z r.second_low p.second) (le_z p.second r.second_high && true) b.1 in
    record { first_low = a.0; first_high = b.0; second_low = c.0; second_high = (both (le_z p.second r.second_high) true c.1).0 }

marks-suit : (r : Row) (ms : List ℕ) (ps : List Pair) → ends_fit r ms ≡ true → length (pair_numbers ps) ≡ length ms → all (map (in_row r) ps) ≡ true
    → suits ms (pair_numbers ps) ≡ true
unfolding suits ends_fit all
marks-suit r [] [] e l i = refl
marks-suit r [] (p ∷ ps) e l i = absurd (omega arith)
marks-suit r (m ∷ []) ps e l i = absurd (false≢true e)
marks-suit r (m ∷ k ∷ ms) [] e l i = absurd (omega arith)
marks-suit r (m ∷ k ∷ ms) (p ∷ ps) e l i =
    let t = two-marks r m k ms e in
    let tests = both (in_row r p) (all (map (in_row r) ps)) i in
    let n = inside r p tests.0 in
    let a = fits-between m r.first_low r.first_high p.first t.first_low t.first_high n.first_low n.first_high in
    let b = fits-between k r.second_low r.second_high p.second t.second_low t.second_high n.second_low n.second_high in
    rw (t.first, a, t.second, b) (marks-suit r ms ps t.rest (omega arith) tests.1)

-- as many numbers as the form has marks, each inside the row
pub row-suits : (r : Row) (form : List ℕ) (ps : List Pair) → ends_fit r (marks_of form) ≡ true → length (pair_numbers ps) ≡ marks form → all (map (in_row r) ps) ≡ true
    → suits form (pair_numbers ps) ≡ true
row-suits r form ps e l i = suits-marks form (pair_numbers ps) ∙ marks-suit r (marks_of form) ps e (rw (marks-length form) l) i

-- ---- two by two, and one after the other

pub two-each : (ps : List Pair) → length (pair_numbers ps) ≡ 2 * length ps
two-each [] = refl
two-each (p ∷ ps) = omega (arith, two-each ps)

pub pairs-back : (ps : List Pair) → pairs (pair_numbers ps) ≡ ps
pairs-back [] = refl
pairs-back (p ∷ ps) = ap (λ (k : List Pair). p ∷ k) (pairs-back ps)

marks-back : (r : Row) (ms : List ℕ) (ns : List ℤ) → ends_fit r ms ≡ true → length ns ≡ length ms → pair_numbers (pairs ns) ≡ ns
unfolding ends_fit
marks-back r ms [] e l = refl
marks-back r [] (n ∷ ns) e l = absurd (omega arith)
marks-back r (m ∷ []) (n ∷ ns) e l = absurd (false≢true e)
marks-back r (m ∷ k ∷ ms) (n ∷ []) e l = absurd (omega arith)
marks-back r (m ∷ k ∷ ms) (a ∷ b ∷ ns) e l = ap (λ (k : List ℤ). a ∷ b ∷ k) (marks-back r ms ns (two-marks r m k ms e).rest (omega arith))

pub numbers-back : (r : Row) (form : List ℕ) (ns : List ℤ) → ends_fit r (marks_of form) ≡ true → length ns ≡ marks form → pair_numbers (pairs ns) ≡ ns
numbers-back r form ns e l = marks-back r (marks_of form) ns e (rw (marks-length form) l)
