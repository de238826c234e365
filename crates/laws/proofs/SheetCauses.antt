-- Reading a sheet refuses with the first cause of the first line that has one, and accepts where no line has.
-- Assumes nothing.
use Rattle.std.specs.Prelude.{Ok, Err}
use mathlib.Core.Path.{◌≡◌, refl, sym, ap, ◌∙◌, subst}
use mathlib.Core.Bool.{Bool, true, false, cond, not, ◌||◌, false≢true}
use mathlib.Core.List.{List, [], ◌∷◌, ◌++◌, map, append_assoc, append-nil}
use mathlib.Core.Logic.{◌⊎◌, inl, inr, ⊎_elim, ◌↔◌}
use mathlib.Core.Option.{Option, none, some}
use Prim.Native.Nat.{ℕ, zero, suc, ◌+◌, ◌≤◌, ◌<◌}
use native.Mathlib.Decide.{dec_le}
use native.Mathlib.Nat.{add_assoc}
use native.Mathlib.Numerals.{add-one}
use native.Mathlib.Omega.{arith}
use lib.Dec.{eqb}
use lib.IntN.{ℤ}
use lib.ListN.{length, drop, length-drop}
use lib.Seq.{drop-drop}
use Rattle.basics.proofs.Refusals.{number-bounds}
use Rattle.rules.specs.Tests.{all}
use Rattle.rules.specs.Text.{feed, first_line, has_feed, after_line}
use Rattle.rules.specs.Forms.{sheet_forms, numbers_of}
use Rattle.rules.specs.Settings.{Pair, Row, rows, in_row, rising, line_check, sheet_lines}
use Rattle.rules.specs.Refusals.{refusal_number, settings_number, line_of}
use Rattle.rules.specs.Sheets.{SheetReading, pairs, settings_of, refused_at, on_numbers, read_from, read_sheet, part_of, handed_back}
use Rattle.rules.specs.declared.Refusal.{Refusal}
use Rattle.rules.specs.declared.Refusal.TheVariants.{Form, Range, Rise}
use Rattle.rules.specs.Answers.{SettingsCheck}
use Rattle.causes.specs.FirstCause.{first}
use Rattle.causes.specs.SheetCauses.{from_line, numbers_by, causes_by, pairs_by, cause_at, line_cause, line_pairs, FirstCauseAt, SheetsRefusedRightly}

-- ---- what follows the first line

after-drop : (t : List ℕ) → drop (length (first_line t) + 1) t ≡ after_line t
unfolding first_line after_line
after-drop [] = refl
after-drop (b ∷ t) = by-test (eqb b feed) (after-drop t)
  where
    by-test : (a : Bool) → drop (length (first_line t) + 1) t ≡ after_line t → drop (length (cond a [] (b ∷ first_line t)) + 1) (b ∷ t) ≡ cond a t (after_line t)
    by-test true e = refl
    by-test false e = ap (λ (k : ℕ). drop k (b ∷ t)) (add-one (suc (length (first_line t))) ∙ ap suc (sym (add-one (length (first_line t))))) ∙ e

after-length : (t : List ℕ) → has_feed t ≡ true → length (first_line t) + 1 + length (after_line t) ≡ length t
unfolding first_line has_feed after_line
after-length [] f = absurd (false≢true f)
after-length (b ∷ t) f = by (eqb b feed) f (after-length t)
  where
    by : (a : Bool) → (a || has_feed t) ≡ true → (has_feed t ≡ true → length (first_line t) + 1 + length (after_line t) ≡ length t)
        → length (cond a [] (b ∷ first_line t)) + 1 + length (cond a t (after_line t)) ≡ suc (length t)
    by true f rest = omega arith
    by false f rest = omega (arith, rest f)

-- ---- a reading ends inside its text

module _ (n start : ℕ) (r : Row) (t : List ℕ) (next : List Pair → SheetReading)
    (ih : has_feed t ≡ true → (ps : List Pair) → (next ps).start ≤ start + length t) where
  checked-inside : (ps : List Pair) → (next ps).start ≤ start + length t → (line_check r ps (next ps) (λ cause. refused_at cause n start)).start ≤ start + length t
  checked-inside ps h = by (all (map (in_row r) ps)) (rising ps)
    where
      by : (a b : Bool) → (cond a (cond b (next ps) (refused_at Rise n start)) (refused_at Range n start)).start ≤ start + length t
      by true true = h
      by true false = omega arith
      by false b = omega arith

  line-inside : (o : Option (List ℤ)) → (cond (has_feed t) (on_numbers n start r o next) (refused_at Form n start)).start ≤ start + length t
  line-inside o = by (has_feed t) refl o
    where
      by : (f : Bool) → has_feed t ≡ f → (o : Option (List ℤ)) → (cond f (on_numbers n start r o next) (refused_at Form n start)).start ≤ start + length t
      by false f o = omega arith
      by true f none = omega arith
      by true f (some ns) = checked-inside (pairs ns) (ih f (pairs ns))

ends-inside : (n start : ℕ) (read : List (List Pair)) (rs : List Row) (forms : List (List ℕ)) (t : List ℕ)
    → (read_from n start read rs forms t).start ≤ start + length t
unfolding read_from
ends-inside n start read [] forms t = omega arith
ends-inside n start read (r ∷ rs) [] t = omega arith
ends-inside n start read (r ∷ rs) (form ∷ forms) t =
    line-inside n start r t _ (λ f ps. later f ps (ends-inside (suc n) (start + length (first_line t) + 1) (read ++ (ps ∷ [])) rs forms (after_line t)))
    (numbers_of form (first_line t))
  where
    later : has_feed t ≡ true → (ps : List Pair)
        → (read_from (suc n) (start + length (first_line t) + 1) (read ++ (ps ∷ [])) rs forms (after_line t)).start ≤ start + length
        (first_line t) + 1 + length (after_line t)
        → (read_from (suc n) (start + length (first_line t) + 1) (read ++ (ps ∷ [])) rs forms (after_line t)).start ≤ start + length t
    later f ps h = omega (arith, h, after-length t f)

-- ---- a reading, by lines

-- a line's pairs, and those of the lines after it
abbrev pairs_from : List (List ℕ) → List ℕ → List (List Pair)
pairs_from [] t = []
pairs_from (form ∷ forms) t = pairs_by (numbers_by form t) ∷ pairs_from forms (after_line t)

abbrev accepted_at : List (List Pair) → ℕ → SheetReading
accepted_at lines start = record { check = Ok tt; settings = settings_of lines; start = start }

module _ (s : List ℕ) where
  -- it stops at line j of the text t, which stands in s, with that line's first cause
  record Stops (n : ℕ) (rs : List Row) (forms : List (List ℕ)) (t : List ℕ) (r : SheetReading) : Type 0 where
    j : ℕ
    why : Refusal
    start : ℕ
    line : j < length rs
    here : refusal_number why ≡ cause_at rs forms j t
    before : (k : ℕ) → k < j → cause_at rs forms k t ≡ 0
    place : drop start s ≡ from_line j t
    reading : r ≡ refused_at why (n + j) start

  -- it ends after the last line, no line having a cause; `read` are the lines before
  record Ends (read : List (List Pair)) (rs : List Row) (forms : List (List ℕ)) (t : List ℕ) (r : SheetReading) : Type 0 where
    start : ℕ
    clear : (k : ℕ) → k < length rs → cause_at rs forms k t ≡ 0
    place : drop start s ≡ from_line (length rs) t
    reading : r ≡ accepted_at (read ++ pairs_from forms t) start

  abbrev Either : ℕ → List (List Pair) → List Row → List (List ℕ) → List ℕ → SheetReading → Type 0
  Either n read rs forms t r = Stops n rs forms t r ⊎ Ends read rs forms t r

  -- one line, and the lines after it
  module _ (n start : ℕ) (read : List (List Pair)) (r : Row) (rs : List Row) (form : List ℕ) (forms : List (List ℕ)) (t : List ℕ) (at-start : drop start s ≡ t)
      (next : List Pair → SheetReading) (ih : (ps : List Pair) → Either (suc n) (read ++ (ps ∷ [])) rs forms (after_line t) (next ps)) where
    stops-here : (why : Refusal) → refusal_number why ≡ cause_at (r ∷ rs) (form ∷ forms) 0 t → Stops n (r ∷ rs) (form ∷ forms) t (refused_at why n start)
    stops-here why e =
        record {
          j = 0;
          why = why;
          start = start;
          line = omega arith;
          here = e;
          before = λ k h. absurd (omega (arith, h));
          place = at-start;
          reading = ap (λ (k : ℕ). refused_at why k start) (omega arith);
        }

    stops-later : (ps : List Pair) → cause_at (r ∷ rs) (form ∷ forms) 0 t ≡ 0 → Stops (suc n) rs forms (after_line t) (next ps)
        → Stops n (r ∷ rs) (form ∷ forms) t (next ps)
    stops-later ps clear x =
        record {
          j = suc x.j;
          why = x.why;
          start = x.start;
          line = omega (arith, x.line);
          here = x.here;
          before = earlier;
          place = x.place;
          reading = x.reading ∙ ap (λ (k : ℕ). refused_at x.why k x.start) (omega arith);
        }
      where
        earlier : (k : ℕ) → k < suc x.j → cause_at (r ∷ rs) (form ∷ forms) k t ≡ 0
        earlier zero h = clear
        earlier (suc k) h = x.before k (omega (arith, h))

    ends-later : (ps : List Pair) → pairs_by (numbers_by form t) ≡ ps → cause_at (r ∷ rs) (form ∷ forms) 0 t ≡ 0
        → Ends (read ++ (ps ∷ [])) rs forms (after_line t) (next ps)
        → Ends read (r ∷ rs) (form ∷ forms) t (next ps)
    ends-later ps e clear x =
        record {
          start = x.start;
          clear = each;
          place = x.place;
          reading = x.reading
              ∙ ap (λ (lines : List (List Pair)). accepted_at lines x.start)
              (append_assoc read (ps ∷ []) (pairs_from forms (after_line t)) ∙ ap (λ (p : List Pair). read ++ (p ∷ pairs_from forms (after_line t))) (sym e));
        }
      where
        each : (k : ℕ) → k < suc (length rs) → cause_at (r ∷ rs) (form ∷ forms) k t ≡ 0
        each zero h = clear
        each (suc k) h = x.clear k (omega (arith, h))

    by_tests : (ns : List ℤ) → numbers_by form t ≡ some ns → (a b : Bool) → all (map (in_row r) (pairs ns)) ≡ a → rising (pairs ns) ≡ b
        → Either n read (r ∷ rs) (form ∷ forms) t (cond a (cond b (next (pairs ns)) (refused_at Rise n start)) (refused_at Range n start))
    by_tests ns e a b ea eb = by a b (ap (λ (o : Option (List ℤ)). first (causes_by r o)) e ∙ rw (ea, eb))
      where
        by : (a b : Bool) → cause_at (r ∷ rs) (form ∷ forms) 0 t ≡ cond (not a) 2 (cond (not b) 3 0)
            → Either n read (r ∷ rs) (form ∷ forms) t (cond a (cond b (next (pairs ns)) (refused_at Rise n start)) (refused_at Range n start))
        by false b f = inl (stops-here Range (sym f))
        by true false f = inl (stops-here Rise (sym f))
        by true true f = ⊎_elim (λ x. inl (stops-later (pairs ns) f x)) (λ x. inr (ends-later (pairs ns) (ap pairs_by e) f x)) (ih (pairs ns))

    on-numbers : (o : Option (List ℤ)) → numbers_by form t ≡ o → Either n read (r ∷ rs) (form ∷ forms) t (on_numbers n start r o next)
    on-numbers none e = inl (stops-here Form (sym (ap (λ (o : Option (List ℤ)). first (causes_by r o)) e)))
    on-numbers (some ns) e = by_tests ns e (all (map (in_row r) (pairs ns))) (rising (pairs ns)) refl refl

    on-line : Either n read (r ∷ rs) (form ∷ forms) t (cond (has_feed t) (on_numbers n start r (numbers_of form (first_line t)) next) (refused_at Form n start))
    on-line = subst (Either n read (r ∷ rs) (form ∷ forms) t) (sym (by (has_feed t) (numbers_of form (first_line t)))) (on-numbers (numbers_by form t) refl)
      where
        by : (h : Bool) (o : Option (List ℤ)) → cond h (on_numbers n start r o next) (refused_at Form n start) ≡ on_numbers n start r (cond h o none) next
        by true o = refl
        by false o = refl

  reads-from : (n start : ℕ) (read : List (List Pair)) (rs : List Row) (forms : List (List ℕ)) (t : List ℕ) → length rs ≡ length forms → drop start s ≡ t
      → Either n read rs forms t (read_from n start read rs forms t)
  unfolding read_from
  reads-from n start read [] [] t l p =
      inr (record {
        start = start;
        clear = λ k h. absurd (omega (arith, h));
        place = p;
        reading = ap (λ (lines : List (List Pair)). accepted_at lines start) (sym (append-nil read));
      })
  reads-from n start read [] (form ∷ forms) t l p = absurd (omega (arith, l))
  reads-from n start read (r ∷ rs) [] t l p = absurd (omega (arith, l))
  reads-from n start read (r ∷ rs) (form ∷ forms) t l p =
      on-line n start read r rs form forms t p _
      (λ ps. reads-from (suc n) (start + length (first_line t) + 1) (read ++ (ps ∷ [])) rs forms (after_line t) (omega (arith, l)) on)
    where
      on : drop (start + length (first_line t) + 1) s ≡ after_line t
      on = ap (λ (k : ℕ). drop k s) (add_assoc start (length (first_line t)) 1) ∙ sym (drop-drop (length (first_line t) + 1) start s)
          ∙ ap (drop (length (first_line t) + 1)) p ∙ after-drop t

  reads : Either 1 [] rows sheet_forms s (read_sheet s)
  unfolding read_sheet rows sheet_forms
  reads = reads-from 1 0 [] rows sheet_forms s refl refl

  -- ---- what the statements need of it

  many : length rows ≡ sheet_lines
  unfolding rows
  many = refl

  lines-read : pairs_from sheet_forms s ≡ map (λ i. line_pairs i s) (0 ∷ 1 ∷ 2 ∷ 3 ∷ 4 ∷ 5 ∷ 6 ∷ 7 ∷ 8 ∷ 9 ∷ 10 ∷ 11 ∷ 12 ∷ [])
  unfolding sheet_forms line_pairs
  lines-read = refl

  module _ (x : Stops 1 rows sheet_forms s (read_sheet s)) where
    number : settings_number (read_sheet s).check ≡ refusal_number x.why
    number = ap (λ (r : SheetReading). settings_number r.check) x.reading

    at-line : line_of (read_sheet s).check ≡ x.j + 1
    at-line = ap (λ (r : SheetReading). line_of r.check) x.reading ∙ omega arith

    not-accepted : (read_sheet s).check ≡ Ok tt → ⊥
    not-accepted e = omega (arith, (number-bounds x.why).0, sym number ∙ ap settings_number e)

    -- it is the first line with a cause
    found : FirstCauseAt s x.j (refusal_number x.why)
    unfolding line_cause
    found = record { line = omega (arith, x.line, many); here = sym x.here; before = x.before }

    -- and there is no other
    unique : (i n : ℕ) → 0 < n → FirstCauseAt s i n → x.j ≡ i
    unfolding line_cause
    unique i n h f = by (dec_le i x.j) (dec_le x.j i)
      where
        by : Dec (i ≤ x.j) → Dec (x.j ≤ i) → x.j ≡ i
        by (yes a) (yes b) = omega (arith, a, b)
        by (no a) b = absurd (omega (arith, (number-bounds x.why).0, x.here, f.before x.j (omega (arith, a))))
        by (yes a) (no b) = absurd (omega (arith, h, f.here, x.before i (omega (arith, b))))

  module _ (x : Ends [] rows sheet_forms s (read_sheet s)) where
    accepted : (read_sheet s).check ≡ Ok tt
    accepted = ap (λ (r : SheetReading). r.check) x.reading

    no-cause : (i : ℕ) → i < sheet_lines → line_cause i s ≡ 0
    unfolding line_cause
    no-cause i h = x.clear i (omega (arith, h, many))

    none_found : (i n : ℕ) → 0 < n → FirstCauseAt s i n → ⊥
    none_found i n h f = omega (arith, h, f.here, no-cause i f.line)

  -- ---- the statements

  refuses : (i n : ℕ) → 0 < n → ((settings_number (read_sheet s).check ≡ n) × (line_of (read_sheet s).check ≡ i + 1)) ↔ FirstCauseAt s i n
  refuses i n h = (there, back)
    where
      there : (settings_number (read_sheet s).check ≡ n) × (line_of (read_sheet s).check ≡ i + 1) → FirstCauseAt s i n
      there e =
          ⊎_elim
          (λ x. subst (λ (k : ℕ). FirstCauseAt s i k) (sym (number x) ∙ e.0)
          (subst (λ (k : ℕ). FirstCauseAt s k (refusal_number x.why)) (omega (arith, at-line x, e.1)) (found x)))
          (λ x. absurd (omega (arith, h, e.0, ap settings_number (accepted x))))
          reads

      back : FirstCauseAt s i n → (settings_number (read_sheet s).check ≡ n) × (line_of (read_sheet s).check ≡ i + 1)
      back f =
          ⊎_elim
          (λ x. (number x ∙ sym (found x).here ∙ ap (λ (k : ℕ). line_cause k s) (unique x i n h f) ∙ f.here, at-line x ∙ ap (λ (k : ℕ). k + 1) (unique x i n h f)))
          (λ x. absurd (none_found x i n h f))
          reads

  accepts : ((read_sheet s).check ≡ Ok tt) ↔ ((i : ℕ) → i < sheet_lines → line_cause i s ≡ 0)
  accepts = (λ e. ⊎_elim (λ x. absurd (not-accepted x e)) no-cause reads, λ clear. ⊎_elim (λ x. absurd (caught clear x)) accepted reads)
    where
      caught : ((i : ℕ) → i < sheet_lines → line_cause i s ≡ 0) → Stops 1 rows sheet_forms s (read_sheet s) → ⊥
      caught clear x = omega (arith, (number-bounds x.why).0, (found x).here, clear x.j (found x).line)

  settings : (read_sheet s).check ≡ Ok tt
      → (read_sheet s).settings ≡ settings_of (map (λ i. line_pairs i s) (0 ∷ 1 ∷ 2 ∷ 3 ∷ 4 ∷ 5 ∷ 6 ∷ 7 ∷ 8 ∷ 9 ∷ 10 ∷ 11 ∷ 12 ∷ []))
  settings e = ⊎_elim (λ x. absurd (not-accepted x e)) (λ x. ap (λ (r : SheetReading). r.settings) x.reading ∙ ap settings_of lines-read) reads

  no-settings : 0 < settings_number (read_sheet s).check → (read_sheet s).settings ≡ settings_of []
  no-settings h = ⊎_elim (λ x. ap (λ (r : SheetReading). r.settings) x.reading) (λ x. absurd (omega (arith, h, ap settings_number (accepted x)))) reads

  place : (i n : ℕ) → 0 < n → FirstCauseAt s i n → drop (read_sheet s).start s ≡ from_line i s
  place i n h f =
      ⊎_elim
      (λ x. ap (λ (r : SheetReading). drop r.start s) x.reading ∙ x.place ∙ ap (λ (k : ℕ). from_line k s) (unique x i n h f))
      (λ x. absurd (none_found x i n h f))
      reads

  inside : (read_sheet s).start ≤ length s
  unfolding read_sheet
  inside = omega (arith, ends-inside 1 0 [] rows sheet_forms s)

  missing : (i n : ℕ) → 0 < n → FirstCauseAt s i n → from_line i s ≡ [] → (read_sheet s).start ≡ length s
  missing i n h f e = omega (arith, inside, sym (length-drop (read_sheet s).start s) ∙ ap length (place i n h f ∙ e))

  refused-part : 0 < settings_number (read_sheet s).check → handed_back s ≡ first_line (drop (read_sheet s).start s)
  unfolding handed_back
  refused-part h = by (read_sheet s).check h
    where
      by : (c : SettingsCheck) → 0 < settings_number c → part_of c (drop (read_sheet s).start s) ≡ first_line (drop (read_sheet s).start s)
      by (Ok ok) k = absurd (omega (arith, k))
      by (Err away) k = refl

  back : (i n : ℕ) → 0 < n → FirstCauseAt s i n → handed_back s ≡ first_line (from_line i s)
  back i n h f = refused-part (omega (arith, h, ((refuses i n h).1 f).0)) ∙ ap first_line (place i n h f)

  follows : (read_sheet s).check ≡ Ok tt → drop (read_sheet s).start s ≡ from_line sheet_lines s
  follows e =
      ⊎_elim
      (λ x. absurd (not-accepted x e))
      (λ x. ap (λ (r : SheetReading). drop r.start s) x.reading ∙ x.place ∙ ap (λ (k : ℕ). from_line k s) many)
      reads

  rest : (read_sheet s).check ≡ Ok tt → handed_back s ≡ from_line sheet_lines s
  unfolding handed_back
  rest e = ap (λ (c : SettingsCheck). part_of c (drop (read_sheet s).start s)) e ∙ follows e

pub sheets-refused-rightly : SheetsRefusedRightly read_sheet handed_back
sheets-refused-rightly = record {
  refuses = refuses;
  accepts = accepts;
  settings = settings;
  no-settings = no-settings;
  place = place;
  inside = inside;
  missing = missing;
  follows = follows;
  back = back;
  rest = rest;
}
