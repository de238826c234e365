-- A whole line's numbers are those of its form where nothing is left after it.
-- Assumes nothing.
use mathlib.Core.Path.{◌≡◌, refl, ◌∙◌}
use mathlib.Core.Bool.{Bool, true, false, cond}
use mathlib.Core.List.{List, [], ◌∷◌}
use mathlib.Core.Option.{Option, none, some}
use Prim.Native.Nat.{ℕ, suc}
use native.Mathlib.Omega.{arith}
use lib.Dec.{eqb}
use lib.IntN.{ℤ}
use lib.ListN.{length, get_or, drop, drop_of_length-le}
use lib.Seq.{drop-cons}
use Rattle.rules.specs.Text.{Taken}
use Rattle.rules.specs.Forms.{and_then, on_taken, on_byte, numbers_of}
use Rattle.formats.specs.Marks.{is_mark, take_marked}
use Rattle.formats.proofs.Forms.{numbers-marked, numbers-byte}
use Rattle.matching.specs.Forms.{Formed, after, taken_then, byte_then, take_form}
use Rattle.std.specs.Prelude.{Some, None}
use Rattle.matching.specs.Places.{Matched}
use Rattle.text.specs.Lines.{numbers_read}
use Rattle.matching.specs.declared.Match.{Match}

abbrev if_none : List ℕ → List ℤ → Option (List ℤ)
if_none [] ns = some ns
if_none (b ∷ s) ns = none

abbrev pub whole : Option Formed → Option (List ℤ)
whole none = none
whole (some f) = if_none f.rest f.numbers

whole-after : (v : ℤ) (o : Option Formed) → and_then v (whole o) ≡ whole (after (v ∷ []) o)
whole-after v none = refl
whole-after v (some f) = by-rest f.rest
  where
    by-rest : (r : List ℕ) → and_then v (if_none r f.numbers) ≡ if_none r (v ∷ f.numbers)
    by-rest [] = refl
    by-rest (b ∷ r) = refl

-- what is known of the rest of the form
abbrev Rest : List ℕ → Type 0
Rest form = (s : List ℕ) → numbers_of form s ≡ whole (take_form form s)

whole-taken : (form : List ℕ) → Rest form → (o : Option Taken) → on_taken o (numbers_of form) ≡ whole (taken_then o (take_form form))
whole-taken form rest none = refl
whole-taken form rest (some t) = rw (rest t.rest) (whole-after t.value (take_form form t.rest))

whole-byte : (mark : ℕ) (form : List ℕ) → Rest form → (s : List ℕ) → on_byte mark s (numbers_of form) ≡ whole (byte_then mark s (take_form form))
whole-byte mark form rest [] = refl
whole-byte mark form rest (b ∷ s) = by-test (eqb b mark)
  where
    by-test : (t : Bool) → cond t (numbers_of form s) none ≡ whole (cond t (take_form form s) none)
    by-test true = rest s
    by-test false = refl

pub numbers-whole : (form s : List ℕ) → numbers_of form s ≡ whole (take_form form s)
unfolding numbers_of take_form
numbers-whole [] [] = refl
numbers-whole [] (b ∷ s) = refl
numbers-whole (mark ∷ form) s = by-mark (is_mark mark) refl (numbers-whole form)
  where
    by-mark : (t : Bool) → is_mark mark ≡ t → Rest form
        → numbers_of (mark ∷ form) s ≡ whole (cond t (taken_then (take_marked mark s) (take_form form)) (byte_then mark s (take_form form)))
    by-mark true m rest = numbers-marked mark form s m ∙ whole-taken form rest (take_marked mark s)
    by-mark false m rest = numbers-byte mark form s m ∙ whole-byte mark form rest s

-- ---- a match that ends where the line does, and one that does not

module _ (form line : List ℕ) where
  -- no match
  pub match-none : take_form form line ≡ none → numbers_read (numbers_of form line) ≡ None
  match-none e = rw (numbers-whole form line, e)

  module _ (m : Match) (e : Matched (take_form form line) line m) where
    pub match-whole : m.next ≡ length line → numbers_read (numbers_of form line) ≡ Some m.n
    match-whole h =
        let over : drop m.next line ≡ [] = drop_of_length-le line {i = m.next} (omega arith) in
        rw (numbers-whole form line, e.same, over, e.stored)

    pub match-short : (m.next ≡ length line → ⊥) → numbers_read (numbers_of form line) ≡ None
    match-short h =
        let more : drop m.next line ≡ get_or line m.next 0 ∷ drop (suc m.next) line = drop-cons line m.next 0 (omega (arith, h, e.inside)) in
        rw (numbers-whole form line, e.same, more)
