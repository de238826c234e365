-- One more turn of each loop, and its end: the range check and the rise along a line, and the lines in order.
-- Assumes nothing.
use Rattle.std.specs.Prelude.{Ok}
use mathlib.Core.Path.{◌≡◌, refl, sym, ap}
use mathlib.Core.Bool.{Bool, true, false, cond, not, ◌&&◌}
use mathlib.Core.List.{List, [], ◌∷◌, map}
use Prim.Native.Nat.{ℕ, suc, ◌+◌, ◌-◌, ◌<◌, ◌≤◌}
use native.Mathlib.Numerals.{add-one}
use native.Mathlib.Omega.{arith}
use lib.IntN.{ℤ, pos, negsuc}
use lib.ListN.{length, get_or, take, drop, length-drop, drop_of_length-le}
use lib.Seq.{drop-cons}
use lib.Signed.{le_z, lt_z}
use Rattle.rules.specs.Tests.{all}
use Rattle.rules.specs.Settings.{sheet_lines, Pair, pair, Row, row, rows, in_row, rising, line_check, check_from, lines_of, settings_check}
use Rattle.rules.specs.declared.Settings.{Settings}
use Rattle.rules.specs.declared.Refusal.{Refusal}
use Rattle.rules.specs.declared.Refusal.TheVariants.{Range, Rise}
use Rattle.rules.specs.Answers.{SettingsCheck, settings_refused}
use Rattle.basics.proofs.Refusals.{same-refusal}
use Rattle.ranges.specs.Rows.{row_at}
use Rattle.pairs.specs.Pairs.{settings_line}
use Rattle.settings.specs.Lines.{line_found, first_lines_check}

abbrev at : List Pair → ℕ → Pair
at l k = get_or l k (pair (pos 0) (pos 0))

-- ---- along a line

module _ (l : List Pair) (k : ℕ) where
  pub range-more : (f : Pair → Bool) → k < length l → all (map f (drop k l)) ≡ (f (at l k) && all (map f (drop (k + 1) l)))
  unfolding all
  range-more f h = rw (add-one, drop-cons l k (pair (pos 0) (pos 0)))

  pub range-end : (f : Pair → Bool) → length l ≤ k → all (map f (drop k l)) ≡ true
  unfolding all
  range-end f h = rw (drop_of_length-le l h)

pub rise-more : (l : List Pair) (k : ℕ) → 1 ≤ k → k < length l
    → rising (drop (k - 1) l) ≡ (lt_z (at l (k - 1)).first (at l k).first && rising (drop (k + 1 - 1) l))
unfolding rising
rise-more l k some h =
    let here : k - 1 < length l = omega arith in
    let next : k + 1 - 1 ≡ k = omega arith in
    let same : suc (k - 1) ≡ k = omega arith in
    rw (next, drop-cons l (k - 1) (pair (pos 0) (pos 0)), same, drop-cons l k (pair (pos 0) (pos 0)))

-- at least is not less
pub at-least : (a b : ℤ) → lt_z a b ≡ not (le_z b a)
at-least (pos a) (pos b) = grind arith
at-least (pos a) (negsuc b) = refl
at-least (negsuc a) (pos b) = refl
at-least (negsuc a) (negsuc b) = grind arith

short : (l : List Pair) → length l ≤ 1 → rising l ≡ true
unfolding rising
short [] h = refl
short (p ∷ []) h = refl
short (p ∷ q ∷ l) h = absurd (omega arith)

pub rise-end : (l : List Pair) (k : ℕ) → length l ≤ k → rising (drop (k - 1) l) ≡ true
rise-end l k h = short (drop (k - 1) l) (simp length-drop (omega arith))

-- ---- the lines in order

rows_long : length rows ≡ sheet_lines
unfolding rows
rows_long = refl

lines_long : (s : Settings) → length (lines_of s) ≡ sheet_lines
unfolding lines_of
lines_long s = refl

-- what the lines from line i on find, of the first n lines, i counted from 0
abbrev pub from : ℕ → Settings → ℕ → SettingsCheck
from n s i = check_from (i + 1) (take (n - i) (drop i rows)) (drop i (lines_of s))

pub from_first : (n : ℕ) (s : Settings) → first_lines_check n s ≡ from n s 0
unfolding first_lines_check
from_first n s = let whole : n - 0 ≡ n = omega arith in rw whole

pub line-more : (n : ℕ) (s : Settings) (i : ℕ) → n ≤ sheet_lines → i < n
    → from n s i ≡ line_check (row_at i) (settings_line s i) (from n s (i + 1)) (λ cause. settings_refused cause (i + 1))
unfolding check_from
line-more n s i top h =
    let r : i < length rows = omega (arith, rows_long) in
    let l : i < length (lines_of s) = omega (arith, lines_long s) in
    let left : n - i ≡ suc (n - suc i) = omega arith in
    rw (left, drop-cons rows i (row 0 0 0 0), drop-cons (lines_of s) i [], add-one (i + 1), add-one i)

pub line-end : (n : ℕ) (s : Settings) (i : ℕ) → n ≤ i → from n s i ≡ Ok tt
unfolding check_from
line-end n s i h = let none : n - i ≡ 0 = omega arith in rw none

-- the first thirteen are all
pub all_lines : (s : Settings) → first_lines_check sheet_lines s ≡ settings_check s
unfolding first_lines_check settings_check rows
all_lines s = refl

-- ---- a line's own check, and what it says of the lines after it

module _ {A : Type 0} (r : Row) (ps : List Pair) (i : ℕ) (next : A) (refuse : Refusal → A) where
  -- a line in which nothing is found goes on to the next
  pub line-passes : line_found r ps i ≡ Ok tt → line_check r ps next refuse ≡ next
  line-passes e = by_tests (all (map (in_row r) ps)) (rising ps) e
    where
      by_tests : (a b : Bool)
          → cond a (cond b (Ok tt) (settings_refused Rise (i + 1))) (settings_refused Range (i + 1)) ≡ Ok tt
          → cond a (cond b next (refuse Rise)) (refuse Range) ≡ next
      by_tests true true e = refl
      by_tests true false e = let z : ◌≡◌ {A = ℕ} 0 1 = cc in absurd (omega arith)
      by_tests false b e = let z : ◌≡◌ {A = ℕ} 0 1 = cc in absurd (omega arith)

  -- a line in which a cause is found refuses
  pub line-refuses : (cause : Refusal) (n : ℕ) → line_found r ps i ≡ settings_refused cause n → (line_check r ps next refuse ≡ refuse cause) × (n ≡ i + 1)
  line-refuses cause n e = by_tests (all (map (in_row r) ps)) (rising ps) e
    where
      by_tests : (a b : Bool)
          → cond a (cond b (Ok tt) (settings_refused Rise (i + 1))) (settings_refused Range (i + 1)) ≡ settings_refused cause n
          → (cond a (cond b next (refuse Rise)) (refuse Range) ≡ refuse cause) × (n ≡ i + 1)
      by_tests true true e = let z : ◌≡◌ {A = ℕ} 0 1 = cc in absurd (omega arith)
      by_tests true false e = let same = same-refusal Rise cause (i + 1) n e in (ap refuse same.0, sym same.1)
      by_tests false b e = let same = same-refusal Range cause (i + 1) n e in (ap refuse same.0, sym same.1)
