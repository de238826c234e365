-- Settings are those of their thirteen lines, and lines inside their rows are those of their settings.
-- Assumes nothing.
use mathlib.Core.Path.{◌≡◌, refl, ap, ap₂, ◌∙◌}
use mathlib.Core.Bool.{Bool, true, false, cond, ◌&&◌, ◌||◌, false≢true}
use mathlib.Core.List.{List, [], ◌∷◌, ◌++◌, map, append_assoc}
use Prim.Native.Nat.{ℕ, suc, ◌*◌}
use native.Mathlib.Numerals.{add-one}
use native.Mathlib.Omega.{arith}
use borrow.Author.Tests.{eqb-true}
use lib.Dec.{eqb}
use lib.IntN.{ℤ, pos, negsuc, nat_abs}
use lib.ListN.{length, get_or, length-append, length-map, replicate}
use lib.Seq.{get_or-append_seam}
use lib.Signed.{le_z, non_neg}
use Rattle.rules.specs.Tests.{all}
use Rattle.rules.specs.Forms.{sheet_forms}
use Rattle.rules.specs.Settings.{Pair, pair, Row, rows, in_row, no_limit, point_pair, lines_of}
use Rattle.rules.specs.Sheets.{point_of, settings_of}
use Rattle.rules.specs.declared.Limit.{Limit}
use Rattle.rules.specs.declared.Point.{Point}
use Rattle.rules.specs.declared.Settings.{Settings}
use Rattle.formats.specs.Marks.{marks}
use Rattle.formats.specs.Sheets.{pair_numbers, Complete}
use Rattle.basics.proofs.Tables.{tabulated, tabulated-all, tabulated-same}
use Rattle.basics.proofs.Bools.{both}
use Rattle.formats.proofs.Forms.{suits-length}
use Rattle.formats.proofs.Rows.{two-each, inside}
use Rattle.formats.proofs.Lines.{GoodLine, GoodLines, end, more}

-- ---- settings from their lines

abbrev no_pair : Pair
no_pair = pair (pos 0) (pos 0)

points-back : (l : List Point) → map point_of (map point_pair l) ≡ l
points-back [] = refl
points-back (p ∷ l) = ap (λ (k : List Point). p ∷ k) (points-back l)

points-all : (n : ℕ) (l : List Point) → length l ≡ n → tabulated (λ k. point_of (get_or (map point_pair l) k no_pair)) 0 n ≡ l
points-all n l e = tabulated-all point_of no_pair n (map point_pair l) (length-map l point_pair ∙ e) ∙ points-back l

limits-all : (l : List Limit) → length l ≡ 8 → tabulated (λ k. get_or l k no_limit) 0 8 ≡ l
limits-all l e = tabulated-same no_limit 8 l e

pub settings-back : (st : Settings) → Complete st → settings_of (lines_of st) ≡ st
unfolding settings_of lines_of
settings-back st c =
    λ i.
    record {
      trip = limits-all st.trip c.limits i;
      volts = st.volts;
      hertz = st.hertz;
      wait = st.wait;
      ramp = st.ramp;
      var = points-all 4 st.var c.var_points i;
      watt = points-all 2 st.watt c.watt_points i;
    }

pub lines-complete : (lines : List (List Pair)) → Complete (settings_of lines)
unfolding settings_of
lines-complete lines = record { limits = refl; var_points = refl; watt_points = refl }

-- ---- lines from their settings

-- what settings keep of a line: so many pairs, and the sign of the second numbers or not
record Kept : Type 0 where
  count : ℕ
  signed : Bool

abbrev kept : ℕ → Bool → Kept
kept n b = record { count = n; signed = b }

abbrev as_kept : Bool → Pair → Pair
as_kept b p = pair (pos (nat_abs p.first)) (cond b p.second (pos (nat_abs p.second)))

abbrev kept_lines : ℕ → List Kept → List (List Pair) → List (List Pair)
kept_lines i [] lines = []
kept_lines i (k ∷ ks) lines = tabulated (λ j. as_kept k.signed (get_or (get_or lines i []) j no_pair)) 0 k.count ∷ kept_lines (suc i) ks lines

unfoldable ours : List Kept
ours = replicate 11 (kept 1 false) ++ (kept 4 true ∷ kept 2 true ∷ [])

lines-kept : (lines : List (List Pair)) → lines_of (settings_of lines) ≡ kept_lines 0 ours lines
unfolding lines_of settings_of ours
lines-kept lines = refl

-- a row has no numbers whose sign is lost, and its line has as many numbers as are kept
unfoldable keeps : Kept → Row → List ℕ → Bool
keeps k r form = (non_neg r.first_low && (k.signed || non_neg r.second_low)) && eqb (2 * k.count) (marks form)

unfoldable all_kept : List Kept → List Row → List (List ℕ) → Bool
all_kept [] [] forms = true
all_kept [] (r ∷ rs) forms = false
all_kept (k ∷ ks) [] forms = false
all_kept (k ∷ ks) (r ∷ rs) [] = false
all_kept (k ∷ ks) (r ∷ rs) (form ∷ forms) = keeps k r form && all_kept ks rs forms

unsigned : (low z : ℤ) → non_neg low ≡ true → le_z low z ≡ true → pos (nat_abs z) ≡ z
unsigned (pos l) (pos n) p e = refl
unsigned (pos l) (negsuc n) p e = absurd (false≢true e)
unsigned (negsuc l) z p e = absurd (false≢true p)

sign_kept : (b : Bool) (low z : ℤ) → (b || non_neg low) ≡ true → le_z low z ≡ true → cond b z (pos (nat_abs z)) ≡ z
sign_kept true low z p e = refl
sign_kept false low z p e = unsigned low z p e

module _ (b : Bool) (r : Row) (first : non_neg r.first_low ≡ true) (second : (b || non_neg r.second_low) ≡ true) where
  pairs-kept : (ps : List Pair) → all (map (in_row r) ps) ≡ true → map (as_kept b) ps ≡ ps
  unfolding all
  pairs-kept [] e = refl
  pairs-kept (p ∷ ps) e =
      let tests = both (in_row r p) (all (map (in_row r) ps)) e in
      let n = inside r p tests.0 in
      ap₂ (λ (q : Pair) (qs : List Pair). q ∷ qs)
      (ap₂ pair (unsigned r.first_low p.first first n.first_low) (sign_kept b r.second_low p.second second n.second_low))
      (pairs-kept ps tests.1)

line_kept : (k : Kept) (r : Row) (form : List ℕ) (ps : List Pair) → keeps k r form ≡ true → GoodLine r form ps
    → tabulated (λ j. as_kept k.signed (get_or ps j no_pair)) 0 k.count ≡ ps
unfolding keeps
line_kept k r form ps e g =
    let tests = both (non_neg r.first_low && (k.signed || non_neg r.second_low)) (eqb (2 * k.count) (marks form)) e in
    let signs = both (non_neg r.first_low) (k.signed || non_neg r.second_low) tests.0 in
    let amount : length ps ≡ k.count = omega (arith, two-each ps, suits-length form (pair_numbers ps) g.suit, eqb-true (2 * k.count) (marks form) tests.1) in
    tabulated-all (as_kept k.signed) no_pair k.count ps amount ∙ pairs-kept k.signed r signs.0 signs.1 ps g.within

good-kept : {rs : List Row} {forms : List (List ℕ)} {lines : List (List Pair)} (ks : List Kept) → all_kept ks rs forms ≡ true → GoodLines rs forms lines
    → (before : List (List Pair)) → kept_lines (length before) ks (before ++ lines) ≡ lines
unfolding all_kept
good-kept [] t end before = refl
good-kept (k ∷ ks) t end before = absurd (false≢true t)
good-kept [] t (more g gs) before = absurd (false≢true t)
good-kept (k ∷ ks) t (more {r} {form} {ps} {rs} {forms} {lines} g gs) before =
    let tests = both (keeps k r form) (all_kept ks rs forms) t in
    let longer : length (before ++ (ps ∷ [])) ≡ suc (length before) = length-append before (ps ∷ []) ∙ add-one (length before) in
    ap₂ (λ (x : List Pair) (xs : List (List Pair)). x ∷ xs)
    (rw (get_or-append_seam before ps lines []) (line_kept k r form ps tests.0 g))
    (rw (longer, append_assoc before (ps ∷ []) lines) at (good-kept ks tests.1 gs (before ++ (ps ∷ []))))

ours_kept : all_kept ours rows sheet_forms ≡ true
unfolding all_kept keeps ours rows sheet_forms marks
ours_kept = refl

pub lines-back : (lines : List (List Pair)) → GoodLines rows sheet_forms lines → lines_of (settings_of lines) ≡ lines
lines-back lines g = lines-kept lines ∙ good-kept ours ours_kept g []
