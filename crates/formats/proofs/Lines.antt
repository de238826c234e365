-- Lines that have their forms and lie in their rows, written out and read: the reading accepts them, and accepts nothing else.
-- Assumes nothing.
use Rattle.std.specs.Prelude.{Ok}
use mathlib.Core.Path.{◌≡◌, refl, sym, ap, ap₂, ◌∙◌}
use mathlib.Core.Bool.{Bool, true, false, cond, not, ◌&&◌, false≢true}
use mathlib.Core.List.{List, [], ◌∷◌, ◌++◌, map, append_assoc, append-nil}
use mathlib.Core.Option.{Option, none, some}
use Prim.Native.Nat.{ℕ, suc, ◌+◌}
use native.Mathlib.Nat.{add-zero}
use native.Mathlib.Omega.{arith}
use borrow.Author.Tests.{not-true}
use lib.IntN.{ℤ}
use lib.ListN.{length, length-append}
use Rattle.rules.specs.Tests.{all}
use Rattle.rules.specs.Text.{feed, first_line, has_feed, after_line}
use Rattle.rules.specs.Forms.{numbers_of}
use Rattle.rules.specs.Settings.{Pair, Row, in_row, rising, line_check, check_from}
use Rattle.rules.specs.Sheets.{pairs, settings_of, SheetReading, refused_at, on_numbers, read_from}
use Rattle.rules.specs.declared.Refusal.{Refusal}
use Rattle.rules.specs.declared.Refusal.TheVariants.{Form, Range, Rise}
use Rattle.rules.specs.Answers.{SettingsCheck, settings_refused}
use Rattle.formats.specs.Marks.{marks, filled_in, suits}
use Rattle.formats.specs.Sheets.{pair_numbers, written_lines}
use Rattle.basics.proofs.Bools.{both}
use Rattle.formats.proofs.Forms.{separated, line-written, written_read, suits-length}
use Rattle.formats.proofs.Feeds.{written-plain, begins, line-feed}
use Rattle.formats.proofs.Rows.{marks_of, ends_fit, row-suits, pairs-back, numbers-back}

-- ---- good lines: none of the causes 1, 2, 3

pub record GoodLine (r : Row) (form : List ℕ) (ps : List Pair) : Type 0 where
  pub suit : suits form (pair_numbers ps) ≡ true
  pub within : all (map (in_row r) ps) ≡ true
  pub rises : rising ps ≡ true

pub data GoodLines : List Row → List (List ℕ) → List (List Pair) → Type 0 where
  end : GoodLines [] [] []
  more : {r : Row} {form : List ℕ} {ps : List Pair} {rs : List Row} {forms : List (List ℕ)} {lines : List (List Pair)}
      → GoodLine r form ps → GoodLines rs forms lines → GoodLines (r ∷ rs) (form ∷ forms) (ps ∷ lines)

-- ---- a table of rows and forms that go together

-- no line feed, no two numbers side by side, and numbers inside the row can be written
unfoldable pub agree : List Row → List (List ℕ) → Bool
agree [] [] = true
agree [] (form ∷ forms) = false
agree (r ∷ rs) [] = false
agree (r ∷ rs) (form ∷ forms) = (not (has_feed form) && (separated form && ends_fit r (marks_of form))) && agree rs forms

record Agree (r : Row) (form : List ℕ) (rs : List Row) (forms : List (List ℕ)) : Type 0 where
  plain : has_feed form ≡ false
  apart : separated form ≡ true
  fit : ends_fit r (marks_of form) ≡ true
  rest : agree rs forms ≡ true

agreed : (r : Row) (form : List ℕ) (rs : List Row) (forms : List (List ℕ)) → agree (r ∷ rs) (form ∷ forms) ≡ true → Agree r form rs forms
unfolding agree
agreed r form rs forms e =
    let a = both (not (has_feed form) && (separated form && ends_fit r (marks_of form))) (agree rs forms) e in
    let b = both (not (has_feed form)) (separated form && ends_fit r (marks_of form)) a.0 in
    let c = both (separated form) (ends_fit r (marks_of form)) b.1 in
    record { plain = not-true (has_feed form) b.0; apart = c.0; fit = c.1; rest = a.1 }

-- ---- checking: lines of the right lengths that 2 and 3 pass are good, and good lines pass

module _ {A : Type 0} (r : Row) (ps : List Pair) (next : A) (refuse : Refusal → A) where
  pub passes : all (map (in_row r) ps) ≡ true → rising ps ≡ true → line_check r ps next refuse ≡ next
  passes i e = rw (i, e)

  -- a test that no refusal meets is met by a line that passes, and by what comes after it
  pub passed : (P : A → Type 0) → ((cause : Refusal) → P (refuse cause) → ⊥) → P (line_check r ps next refuse)
      → (all (map (in_row r) ps) ≡ true) × (rising ps ≡ true) × P next
  passed P never h = by_tests (all (map (in_row r) ps)) (rising ps) h
    where
      by_tests : (a b : Bool) → P (cond a (cond b next (refuse Rise)) (refuse Range)) → (a ≡ true) × (b ≡ true) × P next
      by_tests true true h = (refl, refl, h)
      by_tests true false h = absurd (never Rise h)
      by_tests false b h = absurd (never Range h)

refused-not : (cause : Refusal) (n : ℕ) → settings_refused cause n ≡ Ok tt → ⊥
refused-not cause n e = let z : ◌≡◌ {A = ℕ} 0 1 = cc in omega arith

pub good-checked : {rs : List Row} {forms : List (List ℕ)} {lines : List (List Pair)} → GoodLines rs forms lines → (n : ℕ)
    → check_from n rs lines ≡ Ok tt
unfolding check_from
good-checked end n = refl
good-checked (more g gs) n = rw (g.within, g.rises) (good-checked gs (suc n))

abbrev pub amount : List Pair → ℕ
amount ps = length (pair_numbers ps)

pub checked-good : (n : ℕ) (rs : List Row) (forms : List (List ℕ)) (lines : List (List Pair)) → agree rs forms ≡ true → map amount lines ≡ map marks forms
    → check_from n rs lines ≡ Ok tt → GoodLines rs forms lines
unfolding check_from agree
checked-good n [] [] [] t l e = end
checked-good n [] [] (ps ∷ lines) t l e = absurd (omega (arith, ap length l))
checked-good n [] (form ∷ forms) lines t l e = absurd (false≢true t)
checked-good n (r ∷ rs) [] lines t l e = absurd (false≢true t)
checked-good n (r ∷ rs) (form ∷ forms) [] t l e = absurd (omega (arith, ap length l))
checked-good n (r ∷ rs) (form ∷ forms) (ps ∷ lines) t l e =
    let a = agreed r form rs forms t in
    let p = passed r ps (check_from (suc n) rs lines) (λ cause. settings_refused cause n) (λ (k : SettingsCheck). k ≡ Ok tt)
    (λ cause. refused-not cause n) e in
    let here : amount ps ≡ marks form = cc in
    let on : map amount lines ≡ map marks forms = cc in
    more (record { suit = row-suits r form ps a.fit here p.0; within = p.0; rises = p.1 }) (checked-good (suc n) rs forms lines a.rest on p.2)

-- ---- reading what is written out

-- a reading that accepts these lines, and ends there
abbrev pub accepting : List (List Pair) → ℕ → SheetReading
accepting lines start = record { check = Ok tt; settings = settings_of lines; start = start }

-- where reading goes on after a line of these bytes
abbrev past : ℕ → List ℕ → ℕ
past start line = start + length line + 1

module _ (r : Row) (form : List ℕ) (ps : List Pair) (g : GoodLine r form ps) (plain : has_feed form ≡ false) (apart : separated form ≡ true) where
  line-read : (n start : ℕ) (read : List (List Pair)) (rs : List Row) (forms : List (List ℕ)) (rest : List ℕ)
      → read_from n start read (r ∷ rs) (form ∷ forms) (filled_in form (pair_numbers ps) ++ (feed ∷ rest))
      ≡ read_from (suc n) (past start (filled_in form (pair_numbers ps))) (read ++ (ps ∷ [])) rs forms rest
  unfolding read_from
  line-read n start read rs forms rest =
      let b = begins (filled_in form (pair_numbers ps)) rest (written-plain form (pair_numbers ps) plain g.suit) in
      rw (b.ended, b.first, b.after, written_read form (pair_numbers ps) apart g.suit, pairs-back ps, g.within, g.rises)

pub good-read : {rs : List Row} {forms : List (List ℕ)} {lines : List (List Pair)} → agree rs forms ≡ true → GoodLines rs forms lines
    → (n start : ℕ) (read : List (List Pair)) (after : List ℕ)
    → read_from n start read rs forms (written_lines forms lines ++ after) ≡ accepting (read ++ lines) (start + length (written_lines forms lines))
unfolding read_from written_lines
good-read t end n start read after = rw (append-nil read, add-zero)
good-read t (more {r} {form} {ps} {rs} {forms} {lines} g gs) n start read after =
    let a = agreed r form rs forms t in
    let line = filled_in form (pair_numbers ps) in
    let place : past start line + length (written_lines forms lines) ≡ start + length (line ++ (feed ∷ written_lines forms lines))
    = omega (arith, length-append line (feed ∷ written_lines forms lines)) in
    ap (read_from n start read (r ∷ rs) (form ∷ forms)) (append_assoc line (feed ∷ written_lines forms lines) after)
    ∙ line-read r form ps g a.plain a.apart n start read rs forms (written_lines forms lines ++ after)
    ∙ good-read a.rest gs (suc n) (past start line) (read ++ (ps ∷ [])) after
    ∙ ap₂ accepting (append_assoc read (ps ∷ []) lines) place

-- ---- what is accepted was written out

-- a text that begins with good lines, written out
pub record Begun (rs : List Row) (forms : List (List ℕ)) (s : List ℕ) : Type 0 where
  pub lines : List (List Pair)
  pub rest : List ℕ
  pub good : GoodLines rs forms lines
  pub text : s ≡ written_lines forms lines ++ rest

abbrev Accepts : SheetReading → Type 0
Accepts reading = reading.check ≡ Ok tt

-- what is known of the lines after the first
abbrev Rest : List Row → List (List ℕ) → Type 0
Rest rs forms = (n start : ℕ) (read : List (List Pair)) (s : List ℕ) → Accepts (read_from n start read rs forms s) → Begun rs forms s

module _ (r : Row) (form : List ℕ) (rs : List Row) (forms : List (List ℕ)) (fit : ends_fit r (marks_of form) ≡ true) (s : List ℕ) where
  line-begun : has_feed s ≡ true → (ns : List ℤ) → numbers_of form (first_line s) ≡ some ns → all (map (in_row r) (pairs ns)) ≡ true
      → rising (pairs ns) ≡ true → Begun rs forms (after_line s) → Begun (r ∷ rs) (form ∷ forms) s
  unfolding written_lines
  line-begun f ns e i k b =
      let w = line-written form (first_line s) ns e in
      let same = numbers-back r form ns fit (suits-length form ns w.suit) in
      let line = filled_in form (pair_numbers (pairs ns)) in
      let here : GoodLine r form (pairs ns) = record { suit = rw same w.suit; within = i; rises = k } in
      let first : first_line s ≡ line = w.text ∙ ap (filled_in form) (sym same) in
      record {
        lines = pairs ns ∷ b.lines;
        rest = b.rest;
        good = more here b.good;
        text =
            line-feed s f ∙ ap₂ (λ (x y : List ℕ). x ++ (feed ∷ y)) first b.text
            ∙ sym (append_assoc line (feed ∷ written_lines forms b.lines) b.rest);
      }

  more-begun : Rest rs forms → (n start : ℕ) (read : List (List Pair)) → Accepts (read_from n start read (r ∷ rs) (form ∷ forms) s) → Begun (r ∷ rs) (form ∷ forms) s
  unfolding read_from
  more-begun rest n start read e = by_end (has_feed s) refl e
    where
      next : List Pair → SheetReading
      next ps = read_from (suc n) (past start (first_line s)) (read ++ (ps ∷ [])) rs forms (after_line s)

      by-numbers : (o : Option (List ℤ)) → numbers_of form (first_line s) ≡ o → has_feed s ≡ true → Accepts (on_numbers n start r o next)
          → Begun (r ∷ rs) (form ∷ forms) s
      by-numbers none p f e = absurd (refused-not Form n e)
      by-numbers (some ns) p f e =
          let k = passed r (pairs ns) (next (pairs ns)) (λ cause. refused_at cause n start) Accepts (λ cause. refused-not cause n) e in
          line-begun f ns p k.0 k.1 (rest (suc n) (past start (first_line s)) (read ++ (pairs ns ∷ [])) (after_line s) k.2)

      by_end : (b : Bool) → has_feed s ≡ b → Accepts (cond b (on_numbers n start r (numbers_of form (first_line s)) next) (refused_at Form n start))
          → Begun (r ∷ rs) (form ∷ forms) s
      by_end true f e = by-numbers (numbers_of form (first_line s)) refl f e
      by_end false f e = absurd (refused-not Form n e)

pub accepted-begun : (rs : List Row) (forms : List (List ℕ)) → agree rs forms ≡ true → Rest rs forms
unfolding read_from agree written_lines
accepted-begun [] [] t n start read s e = record { lines = []; rest = s; good = end; text = refl }
accepted-begun [] (form ∷ forms) t n start read s e = absurd (false≢true t)
accepted-begun (r ∷ rs) [] t n start read s e = absurd (false≢true t)
accepted-begun (r ∷ rs) (form ∷ forms) t n start read s e =
    let a = agreed r form rs forms t in
    more-begun r form rs forms a.fit s (accepted-begun rs forms a.rest) n start read e
