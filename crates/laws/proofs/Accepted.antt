-- What an accepted sheet and an accepted sample tell: each number is in its row.
-- Assumes nothing.
use mathlib.Core.Path.{◌≡◌, refl}
use mathlib.Core.Bool.{Bool, true, false, cond, false≢true}
use mathlib.Core.List.{List, [], ◌∷◌, map}
use Prim.Native.Nat.{ℕ, zero, suc, ◌≤◌, ◌<◌}
use native.Mathlib.Nat.{not-suc-le-zero, le_of_suc-le-suc}
use native.Mathlib.Omega.{arith}
use lib.IntN.{pos, nat_abs}
use lib.Dec.{lit≤}
use lib.ListN.{length, get_or}
use borrow.Author.Tests.{leb-true, eqb-true}
use Rattle.rules.specs.Tests.{all}
use Rattle.rules.specs.Sensing.{last_code}
use Rattle.rules.specs.Settings.{Pair, pair, Row, row, rows, in_row, rising, check_from, lines_of, settings_check, settings_passed, settings_accepted, limit_at, sheet_lines}
use Rattle.rules.specs.Samples.{Slice, code_of, frequency, permission, available, operator_limit, unless, sample_check, sample_accepted}
use Rattle.rules.specs.Samples as samples
use Rattle.rules.specs.declared.Settings.{Settings}
use Rattle.rules.specs.declared.Refusal.{Refusal}
use Rattle.rules.specs.declared.Refusal.TheVariants.{Range, Rise, Code, Frequency, Permission, Power, Sample}
use Rattle.rules.specs.Answers.{SettingsCheck, SampleCheck, settings_refused}
use Rattle.basics.proofs.Bools.{both, at_all, within-true}

-- ---- a sheet

-- a line that passes: its pairs are in their row, and rise
pub record LineRight (r : Row) (ps : List Pair) : Type 0 where
  pub in-row : all (map (in_row r) ps) ≡ true
  pub rise : rising ps ≡ true

line-right : (a b : Bool) (next : SettingsCheck) (n : ℕ)
    → settings_passed (cond a (cond b next (settings_refused Rise n)) (settings_refused Range n)) ≡ true
    → (a ≡ true) × (b ≡ true) × (settings_passed next ≡ true)
line-right true true next n e = (refl, refl, e)
line-right true false next n e = absurd (false≢true e)
line-right false b next n e = absurd (false≢true e)

-- line i of accepted lines, by its place
pub line_at : (n : ℕ) (rs : List Row) (ls : List (List Pair)) → settings_passed (check_from n rs ls) ≡ true
    → (i : ℕ) → i < length rs → i < length ls → LineRight (get_or rs i (row 0 0 0 0)) (get_or ls i [])
unfolding check_from
line_at n [] ls e i h k = absurd (not-suc-le-zero h)
line_at n (r ∷ rs) [] e i h k = absurd (not-suc-le-zero k)
line_at n (r ∷ rs) (ps ∷ ls) e zero h k =
    let q = line-right (all (map (in_row r) ps)) (rising ps) (check_from (suc n) rs ls) n e in
    record { in-row = q.0; rise = q.1 }
line_at n (r ∷ rs) (ps ∷ ls) e (suc i) h k =
    let q = line-right (all (map (in_row r) ps)) (rising ps) (check_from (suc n) rs ls) n e in
    line_at (suc n) rs ls q.2 i (le_of_suc-le-suc h) (le_of_suc-le-suc k)

-- row i of the table of allowed values
abbrev pub row_at : ℕ → Row
row_at i = get_or rows i (row 0 0 0 0)

-- a pair of numbers that are not negative, in a row of such
pub record InRow (r : Row) (x y : ℕ) : Type 0 where
  pub first-low : nat_abs r.first_low ≤ x
  pub first-high : x ≤ nat_abs r.first_high
  pub second-low : nat_abs r.second_low ≤ y
  pub second-high : y ≤ nat_abs r.second_high

in-row : (a b c d x y : ℕ) → in_row (row a b c d) (pair (pos x) (pos y)) ≡ true → InRow (row a b c d) x y
unfolding in_row
in-row a b c d x y e =
    record {
      first-low = leb-true a x (at_all _ e 0);
      first-high = leb-true x b (at_all _ e 1);
      second-low = leb-true c y (at_all _ e 2);
      second-high = leb-true y d (at_all _ e 3);
    }

-- a line of one such pair
one-pair : (a b c d x y : ℕ) → LineRight (row a b c d) (pair (pos x) (pos y) ∷ []) → InRow (row a b c d) x y
unfolding all
one-pair a b c d x y l = in-row a b c d x y (both (in_row (row a b c d) (pair (pos x) (pos y))) true l.in-row).0

-- limit i is in its row
abbrev pub LimitRow : Settings → ℕ → Type 0
LimitRow st i = InRow (row_at i) (limit_at st i).level (limit_at st i).clearing

-- what the undervoltage limits keep in any row of theirs: the levels up to 8800, and the least and the greatest clearing time
abbrev pub undervoltage_row : Row
undervoltage_row = row 0 8800 16 5000

-- a pair of a row lies in a wider one
wider : {r q : Row} {x y : ℕ} → nat_abs q.first_low ≤ nat_abs r.first_low → nat_abs r.first_high ≤ nat_abs q.first_high
    → nat_abs q.second_low ≤ nat_abs r.second_low → nat_abs r.second_high ≤ nat_abs q.second_high → InRow r x y → InRow q x y
wider a b c d i =
    record {
      first-low = omega (arith, i.first-low);
      first-high = omega (arith, i.first-high);
      second-low = omega (arith, i.second-low);
      second-high = omega (arith, i.second-high);
    }

-- the lines of one pair of an accepted sheet
pub record Rows (st : Settings) : Type 0 where
  pub uv1 : InRow undervoltage_row (limit_at st 0).level (limit_at st 0).clearing
  pub uv2 : InRow undervoltage_row (limit_at st 1).level (limit_at st 1).clearing
  pub ov1 : LimitRow st 2
  pub ov2 : LimitRow st 3
  pub uf1 : LimitRow st 4
  pub uf2 : LimitRow st 5
  pub of1 : LimitRow st 6
  pub of2 : LimitRow st 7
  pub volts : InRow (row_at 8) st.volts.low st.volts.high
  pub hertz : InRow (row_at 9) st.hertz.low st.hertz.high
  pub wait : InRow (row_at 10) st.wait st.ramp

-- line i of the thirteen
pub sheet-line : (st : Settings) → settings_accepted st ≡ true → (i : ℕ) → i < sheet_lines
    → LineRight (row_at i) (get_or (lines_of st) i [])
unfolding settings_check rows lines_of
sheet-line st e i h = line_at 1 rows (lines_of st) e i h h

pub sheet-rows : (st : Settings) → settings_accepted st ≡ true → Rows st
unfolding rows lines_of
sheet-rows st e =
    record {
      uv1 = wider (lit≤ tt) (lit≤ tt) (lit≤ tt) (lit≤ tt) (one-pair _ _ _ _ _ _ (sheet-line st e 0 (omega arith)));
      uv2 = wider (lit≤ tt) (lit≤ tt) (lit≤ tt) (lit≤ tt) (one-pair _ _ _ _ _ _ (sheet-line st e 1 (omega arith)));
      ov1 = one-pair _ _ _ _ _ _ (sheet-line st e 2 (omega arith));
      ov2 = one-pair _ _ _ _ _ _ (sheet-line st e 3 (omega arith));
      uf1 = one-pair _ _ _ _ _ _ (sheet-line st e 4 (omega arith));
      uf2 = one-pair _ _ _ _ _ _ (sheet-line st e 5 (omega arith));
      of1 = one-pair _ _ _ _ _ _ (sheet-line st e 6 (omega arith));
      of2 = one-pair _ _ _ _ _ _ (sheet-line st e 7 (omega arith));
      volts = one-pair _ _ _ _ _ _ (sheet-line st e 8 (omega arith));
      hertz = one-pair _ _ _ _ _ _ (sheet-line st e 9 (omega arith));
      wait = one-pair _ _ _ _ _ _ (sheet-line st e 10 (omega arith));
    }

-- ---- a sample

pub record SampleRight (x : Slice) : Type 0 where
  pub seven : length x ≡ 7
  pub code0 : code_of x 0 ≤ last_code
  pub code1 : code_of x 1 ≤ last_code
  pub code2 : code_of x 2 ≤ last_code
  pub frequency-low : 40000 ≤ frequency x
  pub frequency-high : frequency x ≤ 80000
  pub permission-top : permission x ≤ 1
  pub available-top : available x ≤ 10000
  pub limit-top : operator_limit x ≤ 10000

passed : (t : Bool) (cause : Refusal) (next : SampleCheck) → samples.sample_passed (unless t cause next) ≡ true
    → (t ≡ true) × (samples.sample_passed next ≡ true)
passed true cause next e = (refl, e)
passed false cause next e = absurd (false≢true e)

pub sample-right : (x : Slice) → sample_accepted x ≡ true → SampleRight x
unfolding sample_check
sample-right x e =
    let a = passed _ Sample _ e in
    let b = passed _ Code _ a.1 in
    let c = passed _ Frequency _ b.1 in
    let d = passed _ Permission _ c.1 in
    let p = passed _ Power _ d.1 in
    record {
      seven = eqb-true (length x) 7 a.0;
      code0 = leb-true (code_of x 0) 4095 (at_all _ b.0 0);
      code1 = leb-true (code_of x 1) 4095 (at_all _ b.0 1);
      code2 = leb-true (code_of x 2) 4095 (at_all _ b.0 2);
      frequency-low = (within-true c.0).0;
      frequency-high = (within-true c.0).1;
      permission-top = leb-true (permission x) 1 d.0;
      available-top = leb-true (available x) 10000 (at_all _ p.0 0);
      limit-top = leb-true (operator_limit x) 10000 (at_all _ p.0 1);
    }
