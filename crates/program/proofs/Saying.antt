-- What is said to a line and at the end, as laws. No other proof of a program opens `said` or `end_text`.
-- Assumes nothing.
use Rattle.std.specs.Prelude.{Ok, Err}
use mathlib.Core.Path.{◌≡◌, refl, ap}
use mathlib.Core.Bool.{Bool, true, false, cond, ◌||◌, false≢true}
use mathlib.Core.List.{List, [], ◌∷◌, ◌++◌, map}
use mathlib.Core.Option.{Option, none, some}
use Prim.Native.Nat.{ℕ, ◌+◌, ◌-◌}
use native.Mathlib.Omega.{arith}
use borrow.Author.Tests.{ltb-true}
use lib.Dec.{ltb}
use lib.IntN.{ℤ, nat_abs}
use lib.ListN.{length, length-append}
use Rattle.rules.specs.Samples.{Equipment}
use Rattle.rules.specs.Forms.{sheet_forms, sample_form}
use Rattle.rules.specs.Refusals.{refusal_number}
use Rattle.rules.specs.Settings.{sheet_lines}
use Rattle.rules.specs.Transcripts.{refused_line, on_sample_numbers}
use Rattle.rules.specs.declared.Settings.{Settings}
use Rattle.rules.specs.declared.Board.{Board}
use Rattle.rules.specs.declared.Refusal.TheVariants.{Form}
use Rattle.causes.specs.Alike.{Alike}
use Rattle.laws.proofs.Alike.{step-alike}
use Rattle.formats.specs.Marks.{forms, form_at}
use Rattle.text.specs.Forms.{longest}
use Rattle.text.proofs.Made.{too_long}
use Rattle.sheet.specs.LineReads.{LineRead, on_line}
use Rattle.program.specs.States.{is_done, reads_sheet, dropping}
use Rattle.program.specs.Saying.{Said, line_numbers, on_read, sheet_line, sample_line, said, is_some, begun_line, closing_text, end_text}
use Rattle.program.specs.declared.State.{State}

-- ---- an ended line, by what the program is at

module _ (e : Equipment) (q : State) (l : List ℕ) where
  pub done-said : is_done q ≡ true → said e q l ≡ record { state = q; text = [] }
  unfolding said
  done-said p = rw p

  pub said-sheet : is_done q ≡ false → reads_sheet q ≡ true → said e q l ≡ sheet_line q l
  unfolding said
  said-sheet p r = rw (p, r)

  pub said-sample : is_done q ≡ false → reads_sheet q ≡ false → said e q l ≡ sample_line e q l
  unfolding said
  said-sample p r = rw (p, r)

  -- past the sheet, it stays so
  pub said-on : is_done q ≡ false → reads_sheet q ≡ false → reads_sheet (said e q l).state ≡ false
  said-on p r = ap (λ (k : Said). reads_sheet k.state) (said-sample p r)

module _ (e : Equipment) where
  -- ---- the bytes a line takes

  read-taken : (q : State) (n : ℕ) (r : LineRead) → (on_read q n r).state.taken ≡ q.taken + n
  read-taken q n (Ok st) = refl
  read-taken q n (Err away) = refl

  pub said-taken : (q : State) (l : List ℕ) → is_done q ≡ false → (said e q l).state.taken ≡ q.taken + (length l + 1)
  unfolding said
  said-taken q l p = rw p (by (reads_sheet q))
    where
      by : (b : Bool) → (cond b (sheet_line q l) (sample_line e q l)).state.taken ≡ q.taken + (length l + 1)
      by true =
          read-taken q (length l + 1) (on_line (q.line - 1) q.settings (line_numbers q.overlong (form_at (q.line - 1)) l))
      by false = refl

-- ---- where the input ends

module _ (q : State) (l : List ℕ) where
  pub done_end : is_done q ≡ true → end_text q l ≡ []
  unfolding end_text
  done_end p = rw p

  pub end-at-sheet : is_done q ≡ false → reads_sheet q ≡ true → end_text q l ≡ refused_line (refusal_number Form) q.line
  unfolding end_text
  end-at-sheet p r = rw (p, r)

  pub end-at-samples : is_done q ≡ false → reads_sheet q ≡ false → end_text q l ≡ closing_text q (begun_line q l)
  unfolding end_text
  end-at-samples p r = rw (p, r)

-- no line has begun
pub end_whole : (q : State) → reads_sheet q ≡ false → q.overlong ≡ false → end_text q [] ≡ []
unfolding end_text
end_whole q p whole = rw (p, whole) (by (is_done q))
  where
    by : (b : Bool) → ◌≡◌ {A = List ℕ} (cond b [] []) []
    by true = refl
    by false = refl

-- ---- a line longer than any form

sample-form : form_at sheet_lines ≡ sample_form
unfolding forms sheet_forms
sample-form = refl

-- by now the line has no form, whatever follows
module _ (e : Equipment) (q : State) (s : List ℕ) (b : Bool) (is : q.overlong ≡ b) (h : (b || ltb longest (length s)) ≡ true) where
  no-numbers : (i : ℕ) (l : List ℕ) → line_numbers q.overlong (form_at i) (s ++ l) ≡ none
  no-numbers i l = rw is (by b h)
    where
      by : (k : Bool) → (k || ltb longest (length s)) ≡ true → line_numbers k (form_at i) (s ++ l) ≡ none
      by true p = refl
      by false p = too_long i (s ++ l) (omega (arith, length-append s l, ltb-true longest (length s) p))

  some_bytes : (t : List ℕ) → (q.overlong || is_some (s ++ t)) ≡ true
  some_bytes t = rw is (by b s h)
    where
      by : (k : Bool) (r : List ℕ) → (k || ltb longest (length r)) ≡ true → (k || is_some (r ++ t)) ≡ true
      by true r p = refl
      by false [] p = absurd (false≢true p)
      by false (c ∷ r) p = refl

  longer : (l : List ℕ) → q.taken + (length (s ++ l) + 1) ≡ q.taken + length s + (length l + 1)
  longer l = omega (arith, length-append s l)

  pub dropped-said : (l : List ℕ) → is_done q ≡ false → said e q (s ++ l) ≡ said e (dropping q (length s)) l
  unfolding said
  dropped-said l p = rw p (by (reads_sheet q))
    where
      by : (k : Bool) → cond k (sheet_line q (s ++ l)) (sample_line e q (s ++ l))
          ≡ cond k (sheet_line (dropping q (length s)) l) (sample_line e (dropping q (length s)) l)
      by true = rw (no-numbers (q.line - 1) l, longer l)
      by false =
          rw (← sample-form) (rw (no-numbers sheet_lines l, longer l))

  pub dropped-end : (t : List ℕ) → end_text q (s ++ t) ≡ end_text (dropping q (length s)) t
  unfolding end_text
  dropped-end t = rw (some_bytes t)

-- ---- equipments that step alike say alike

module _ (e f : Equipment) (a : Alike e f) where
  numbers-alike : (st : Settings) (b : Board) (o : Option (List ℤ)) → on_sample_numbers e st b o ≡ on_sample_numbers f st b o
  numbers-alike st b none = refl
  numbers-alike st b (some ns) = step-alike e f a b st (map nat_abs ns)

  pub said-alike : (q : State) (l : List ℕ) → said e q l ≡ said f q l
  unfolding said
  said-alike q l = rw (numbers-alike q.settings q.board (line_numbers q.overlong sample_form l))
