-- One line more of a sheet: what reading it says of the rest.
-- Assumes nothing.
use Rattle.std.specs.Prelude.{Result, Ok, Err}
use mathlib.Core.Path.{◌≡◌, refl, sym, ap, ap₂, ◌∙◌, subst, fun_ext}
use mathlib.Core.Bool.{true, false}
use mathlib.Core.List.{List, [], ◌∷◌, ◌++◌}
use mathlib.Core.Option.{Option, none, some}
use Prim.Native.Nat.{ℕ, suc, ◌+◌, ◌-◌, ◌<◌, ◌≤◌}
use native.Mathlib.Numerals.{add-one}
use native.Mathlib.Omega.{arith}
use lib.IntN.{ℤ}
use lib.Dec.{ltb}
use lib.ListN.{length, length-append, get_or, take, drop, drop_of_length-le, get_or-append}
use lib.Seq.{drop-cons, drop-drop}
use Rattle.rules.specs.Settings.{sheet_lines, Pair, row, rows}
use Rattle.rules.specs.Text.{first_line, has_feed, after_line}
use Rattle.rules.specs.Forms.{sheet_forms, sample_form, numbers_of}
use Rattle.rules.specs.Sheets.{pairs, settings_of, SheetReading, refused_at, on_numbers, read_from, read_sheet}
use Rattle.rules.specs.declared.Settings.{Settings}
use Rattle.rules.specs.declared.Refusal.{Refusal}
use Rattle.rules.specs.declared.Refusal.TheVariants.{Form}
use Rattle.rules.specs.declared.SheetRefusal.{SheetRefusal}
use Rattle.rules.specs.Answers.{SettingsCheck, settings_refused}
use Rattle.formats.proofs.Forms.{line-written}
use Rattle.ranges.specs.Rows.{row_at}
use Rattle.pairs.specs.Pairs.{settings_line}
use Rattle.settings.specs.Lines.{line_found}
use Rattle.settings.proofs.Steps.{line-passes, line-refuses}
use Rattle.formats.specs.Marks.{forms, form_at}
use Rattle.matching.specs.Places.{padded}
use borrow.Author.Tests.{lt-ltb, le-ltb}
use Rattle.text.proofs.Lines.{line_after, line-take}
use Rattle.storing.specs.Stores.{with_numbers}
use Rattle.sheet.specs.declared.LineRefusal.{LineRefusal}
use Rattle.sheet.specs.LineReads.{LineRead, refused_as, accepted_as, on_line, line_read}
use Rattle.sheet.specs.Outcomes.{Gives}
use Rattle.sheet.proofs.Stored.{in-line, one_more, eight-limits}

same-err : (st : Settings) (a : SheetRefusal) (b : LineRefusal) → refused_as st a ≡ Err b → a ≡ b.why
same-err st a b e = ap why e
  where
    why : LineRead → SheetRefusal
    why (Ok ok) = a
    why (Err away) = away.why

rows_long : length rows ≡ sheet_lines
unfolding rows
rows_long = refl

forms-long : length sheet_forms ≡ sheet_lines
unfolding sheet_forms
forms-long = refl

form-here : (i : ℕ) → i < sheet_lines → get_or sheet_forms i [] ≡ form_at i
unfolding forms
form-here i h = sym (get_or-append sheet_forms (sample_form ∷ []) [] i (omega (arith, forms-long)))

-- the reading from line i on, counted from 0
abbrev pub from : List ℕ → ℕ → ℕ → List (List Pair) → SheetReading
from s i at lines = read_from (i + 1) at lines (drop i rows) (drop i sheet_forms) (drop at s)

pub from-unended : (s : List ℕ) (i at : ℕ) (lines : List (List Pair)) → i < sheet_lines → has_feed (drop at s) ≡ false → from s i at lines ≡ refused_at Form (i + 1) at
unfolding read_from
from-unended s i at lines h e =
    let r : i < length rows = omega (arith, rows_long) in
    let f : i < length sheet_forms = omega (arith, forms-long) in
    rw (drop-cons rows i (row 0 0 0 0), drop-cons sheet_forms i [], e)

module _ (s : List ℕ) (i at : ℕ) (lines : List (List Pair)) (h : i < sheet_lines) (e : has_feed (drop at s) ≡ true) where
  abbrev line : List ℕ
  line = first_line (drop at s)

  -- the place after the line and its line feed
  abbrev past : ℕ
  past = at + length (first_line (drop at s)) + 1

  after-line : after_line (drop at s) ≡ drop past s
  after-line =
      let same : at + (length line + 1) ≡ past = omega arith in
      line_after (drop at s) e ∙ drop-drop (length line + 1) at s ∙ ap (λ (n : ℕ). drop n s) same

  opened : from s i at lines
      ≡ on_numbers (i + 1) at (row_at i) (numbers_of (get_or sheet_forms i []) line)
      (λ ps. read_from (suc (i + 1)) past (lines ++ (ps ∷ [])) (drop (suc i) rows) (drop (suc i) sheet_forms) (after_line (drop at s)))
  unfolding read_from
  opened =
      let r : i < length rows = omega (arith, rows_long) in
      let f : i < length sheet_forms = omega (arith, forms-long) in
      rw (drop-cons rows i (row 0 0 0 0), drop-cons sheet_forms i [], e)

  on-with : (ps : List Pair)
      → read_from (suc (i + 1)) past (lines ++ (ps ∷ [])) (drop (suc i) rows) (drop (suc i) sheet_forms) (after_line (drop at s))
      ≡ from s (i + 1) past (lines ++ (ps ∷ []))
  on-with ps = rw (add-one (i + 1), add-one i, after-line)

  from-ended : from s i at lines ≡ on_numbers (i + 1) at (row_at i) (numbers_of (form_at i) line) (λ ps. from s (i + 1) past (lines ++ (ps ∷ [])))
  from-ended =
      opened
      ∙ ap₂ (λ (form : List ℕ) (k : List Pair → SheetReading). on_numbers (i + 1) at (row_at i) (numbers_of form line) k) (form-here i h) (fun_ext on-with)

  -- ---- by what reading the line gave

  -- a line that is accepted: its pairs, and the settings with them
  pub record Gone (next : Settings) : Type 0 where
    pub read : List Pair
    pub settings : next ≡ settings_of (lines ++ (read ∷ []))
    pub reading : from s i at lines ≡ from s (i + 1) past (lines ++ (read ∷ []))

  module _ (long : length lines ≡ i) where
    accepted-numbers : (ns : List ℤ) → numbers_of (form_at i) line ≡ some ns
        → line_found (row_at i) (settings_line (with_numbers (settings_of lines) i (padded ns)) i) i ≡ Ok tt
        → Gone (with_numbers (settings_of lines) i (padded ns))
    accepted-numbers ns p c =
        let suit = (line-written (form_at i) line ns p).suit in
        let here = in-line (settings_of lines) (eight-limits lines) i h ns suit in
        record {
          read = pairs ns;
          settings = one_more lines i long h ns suit;
          reading =
              from-ended ∙ ap (λ (o : Option (List ℤ)). on_numbers (i + 1) at (row_at i) o (λ ps. from s (i + 1) past (lines ++ (ps ∷ [])))) p
              ∙ line-passes (row_at i) (pairs ns) i (from s (i + 1) past (lines ++ (pairs ns ∷ []))) (λ cause. refused_at cause (i + 1) at)
              (sym (ap (λ (ps : List Pair). line_found (row_at i) ps i) here) ∙ c);
        }

    refused-numbers : (ns : List ℤ) → numbers_of (form_at i) line ≡ some ns → (cause : Refusal) (n : ℕ)
        → line_found (row_at i) (settings_line (with_numbers (settings_of lines) i (padded ns)) i) i ≡ settings_refused cause n
        → (from s i at lines ≡ refused_at cause (i + 1) at) × (n ≡ i + 1)
    refused-numbers ns p cause n c =
        let suit = (line-written (form_at i) line ns p).suit in
        let here = in-line (settings_of lines) (eight-limits lines) i h ns suit in
        let l = line-refuses (row_at i) (pairs ns) i (from s (i + 1) past (lines ++ (pairs ns ∷ []))) (λ k. refused_at k (i + 1) at) cause n
        (sym (ap (λ (ps : List Pair). line_found (row_at i) ps i) here) ∙ c) in
        (from-ended ∙ ap (λ (o : Option (List ℤ)). on_numbers (i + 1) at (row_at i) o (λ ps. from s (i + 1) past (lines ++ (ps ∷ [])))) p ∙ l.0, l.1)

    -- the two together, for what `read_line` gives
    pub on-accepted : (next : Settings) → line_read i line (settings_of lines) ≡ Ok next → Gone next
    unfolding line_read
    on-accepted next c = by (numbers_of (form_at i) line) refl
      where
        by : (o : Option (List ℤ)) → numbers_of (form_at i) line ≡ o → Gone next
        by none p =
            let clash = sym (ap (on_line i (settings_of lines)) p) ∙ c in
            let z : ◌≡◌ {A = ℕ} 0 1 = cc in absurd (omega arith)
        by (some ns) p =
            let found = line_found (row_at i) (settings_line (with_numbers (settings_of lines) i (padded ns)) i) i in
            let is = by_found found (sym (ap (on_line i (settings_of lines)) p) ∙ c) in
            subst Gone is.1 (accepted-numbers ns p is.0)
          where
            by_found : (k : SettingsCheck) → accepted_as (with_numbers (settings_of lines) i (padded ns)) k ≡ Ok next
                → (k ≡ Ok tt) × (with_numbers (settings_of lines) i (padded ns) ≡ next)
            by_found (Ok ok) e = (refl, cc)
            by_found (Err away) e = let z : ◌≡◌ {A = ℕ} 0 1 = cc in absurd (omega arith)

    pub on-refused : (away : LineRefusal) → line_read i line (settings_of lines) ≡ Err away
        → (from s i at lines ≡ refused_at away.why.cause (i + 1) at) × (away.why.line ≡ i + 1)
    unfolding line_read
    on-refused away c = by (numbers_of (form_at i) line) refl
      where
        by : (o : Option (List ℤ)) → numbers_of (form_at i) line ≡ o → (from s i at lines ≡ refused_at away.why.cause (i + 1) at) × (away.why.line ≡ i + 1)
        by none p =
            let same = same-err (settings_of lines) (record { cause = Form; line = i + 1 }) away (sym (ap (on_line i (settings_of lines)) p) ∙ c) in (
              from-ended ∙ ap (λ (o : Option (List ℤ)). on_numbers (i + 1) at (row_at i) o (λ ps. from s (i + 1) past (lines ++ (ps ∷ [])))) p
                  ∙ ap (λ (k : SheetRefusal). refused_at k.cause (i + 1) at) same,
              sym (ap (λ (k : SheetRefusal). k.line) same),
            )
        by (some ns) p =
            let found = line_found (row_at i) (settings_line (with_numbers (settings_of lines) i (padded ns)) i) i in
            refused-numbers ns p away.why.cause away.why.line (by_found found (sym (ap (on_line i (settings_of lines)) p) ∙ c))
          where
            by_found : (k : SettingsCheck) → accepted_as (with_numbers (settings_of lines) i (padded ns)) k ≡ Err away → k ≡ Err away.why
            by_found (Ok ok) e = let z : ◌≡◌ {A = ℕ} 0 1 = cc in absurd (omega arith)
            by_found (Err k) e = ap Err (same-err (with_numbers (settings_of lines) i (padded ns)) k away e)

-- past the last line
pub from_end : (s : List ℕ) (i at : ℕ) (lines : List (List Pair)) → sheet_lines ≤ i
    → from s i at lines ≡ record { check = Ok tt; settings = settings_of lines; start = at }
unfolding read_from
from_end s i at lines h = rw (drop_of_length-le rows {i = i} (omega (arith, rows_long)))

-- ---- the loop's invariant: i lines are read, and the rest is read from here on

pub record Going (s : List ℕ) (settings : Settings) (at i : ℕ) : Type 0 where
  pub lines : List (List Pair)
  pub long : length lines ≡ i
  pub low : i ≤ sheet_lines
  pub inside : at ≤ length s
  pub held : settings ≡ settings_of lines
  pub reading : read_sheet s ≡ from s i at lines

pub beginning : (s : List ℕ) (settings : Settings) → settings ≡ settings_of [] → Going s settings 0 0
unfolding read_sheet
beginning s settings e = record { lines = []; long = refl; low = omega arith; inside = omega arith; held = e; reading = refl }

-- what `read_line` was lent is the line
read_is : (s : List ℕ) (i at end : ℕ) (settings : Settings) (lines : List (List Pair)) → end ≡ at + length (first_line (drop at s)) → settings ≡ settings_of lines
    → line_read i (take (end - at) (drop at s)) settings ≡ line_read i (first_line (drop at s)) (settings_of lines)
read_is s i at end settings lines p q =
    let n : end - at ≡ length (first_line (drop at s)) = omega arith in
    ap₂ (line_read i) (ap (λ (k : ℕ). take k (drop at s)) n ∙ line-take (drop at s)) q

module _ (s : List ℕ) (settings : Settings) (at i end : ℕ) (going : Going s settings at i) (h : i < sheet_lines)
    (place : end ≡ at + length (first_line (drop at s))) (ended : ltb end (length s) ≡ has_feed (drop at s)) where
  -- an unended or missing line
  pub unended : length s ≤ end → Gives (record { check = settings_refused Form (i + 1); settings = settings_of []; start = at }) (read_sheet s)
  unended l =
      let is : read_sheet s ≡ refused_at Form (i + 1) at = going.reading ∙ from-unended s i at going.lines h (sym ended ∙ le-ltb end (length s) l) in
      rw is (record { check = refl; settings = refl; start = refl })

  module _ (l : end < length s) where
    feed-there : has_feed (drop at s) ≡ true
    feed-there = sym ended ∙ lt-ltb end (length s) l

    pub goes_on : (next : Settings) → line_read i (take (end - at) (drop at s)) settings ≡ Ok next → Going s next (end + 1) (i + 1)
    goes_on next c =
        let g = on-accepted s i at going.lines h feed-there going.long next (sym (read_is s i at end settings going.lines place going.held) ∙ c) in
        let p : at + length (first_line (drop at s)) + 1 ≡ end + 1 = omega arith in
        record {
          lines = going.lines ++ (g.read ∷ []);
          long = length-append going.lines (g.read ∷ []) ∙ ap (λ (n : ℕ). n + 1) going.long;
          low = omega arith;
          inside = omega arith;
          held = g.settings;
          reading = going.reading ∙ g.reading ∙ ap (λ (n : ℕ). from s (i + 1) n (going.lines ++ (g.read ∷ []))) p;
        }

    pub stops : (away : LineRefusal) → line_read i (take (end - at) (drop at s)) settings ≡ Err away
        → Gives (record { check = Err away.why; settings = settings_of []; start = at }) (read_sheet s)
    stops away c =
        let k = on-refused s i at going.lines h feed-there going.long away (sym (read_is s i at end settings going.lines place going.held) ∙ c) in
        rw (going.reading ∙ k.0) (record { check = ap (settings_refused away.why.cause) k.1; settings = refl; start = refl })

pub finished : (s : List ℕ) (settings : Settings) (at i : ℕ) → Going s settings at i → sheet_lines ≤ i
    → Gives (record { check = Ok tt; settings = settings; start = at }) (read_sheet s)
finished s settings at i going l =
    rw (going.reading ∙ from_end s i at going.lines l) (record { check = refl; settings = going.held; start = refl })
