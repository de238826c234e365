-- A line has a form exactly where it is the form written out with numbers that suit it; how long such a line can be.
-- Assumes nothing.
use mathlib.Core.Path.{◌≡◌, refl, sym, ap, ◌∙◌}
use mathlib.Core.Bool.{Bool, true, false, cond, not, ◌&&◌, ◌||◌, false≢true, true≢false}
use mathlib.Core.List.{List, [], ◌∷◌, map}
use mathlib.Core.Option.{Option, none, some, some-injective, none-ne-some}
use Prim.Native.Nat.{ℕ, zero, suc, ◌+◌, ◌*◌, ◌≤◌}
use native.Mathlib.Omega.{arith}
use borrow.Author.Tests.{eqb-true, eq-eqb, leb-true, not-true}
use lib.Dec.{leb, eqb}
use lib.IntN.{ℤ, pos, negsuc}
use lib.ListN.{length, get_or, length-append}
use Rattle.rules.specs.Tests.{all, within}
use Rattle.rules.specs.Text.{is_digit, signed_decimal, Taken, take_number, take_signed}
use Rattle.rules.specs.Forms.{number_mark, signed_mark, sheet_forms, sample_form, and_then, on_taken, on_byte, numbers_of}
use Rattle.formats.specs.Marks.{is_mark, marks, take_marked, number_then, filled_in, fits, fits_then, suits, IsLine, forms, form_at, ReadsForms}
use Rattle.basics.proofs.Bools.{both}
use Rattle.formats.proofs.Digits.{NoDigit, empty, other}
use Rattle.formats.proofs.Numbers.{decimal-length, marked-written, written-marked}

-- ---- one step along a form

pub numbers-marked : (mark : ℕ) (form s : List ℕ) → is_mark mark ≡ true
    → numbers_of (mark ∷ form) s ≡ on_taken (take_marked mark s) (numbers_of form)
unfolding numbers_of
numbers-marked mark form s m = by-mark (eqb mark number_mark) (eqb mark signed_mark) m
  where
    by-mark : (p q : Bool) → (p || q) ≡ true
        → cond p (on_taken (take_number s) (numbers_of form)) (cond q (on_taken (take_signed s) (numbers_of form)) (on_byte mark s (numbers_of form)))
        ≡ on_taken (cond p (take_number s) (take_signed s)) (numbers_of form)
    by-mark true q m = refl
    by-mark false true m = refl
    by-mark false false m = absurd (false≢true m)

pub numbers-byte : (mark : ℕ) (form s : List ℕ) → is_mark mark ≡ false → numbers_of (mark ∷ form) s ≡ on_byte mark s (numbers_of form)
unfolding numbers_of
numbers-byte mark form s m = by-mark (eqb mark number_mark) (eqb mark signed_mark) m
  where
    by-mark : (p q : Bool) → (p || q) ≡ false
        → cond p (on_taken (take_number s) (numbers_of form)) (cond q (on_taken (take_signed s) (numbers_of form)) (on_byte mark s (numbers_of form)))
        ≡ on_byte mark s (numbers_of form)
    by-mark true q m = absurd (true≢false m)
    by-mark false true m = absurd (true≢false m)
    by-mark false false m = refl

-- ---- a line that has a form is written out

-- the rest of the line is written out, by what is known of the rest of the form
abbrev Rest : List ℕ → Type 0
Rest form = (s : List ℕ) (ns : List ℤ) → numbers_of form s ≡ some ns → IsLine form s ns

module _ (mark : ℕ) (form : List ℕ) (rest : Rest form) (s : List ℕ) (ns : List ℤ) where
  then-numbers : is_mark mark ≡ true → (t : Taken) (o : Option (List ℤ)) → take_marked mark s ≡ some t → numbers_of form t.rest ≡ o
      → and_then t.value o ≡ some ns → IsLine (mark ∷ form) s ns
  unfolding filled_in suits
  then-numbers m t none q r e = absurd (none-ne-some ns e)
  then-numbers m t (some xs) q r e =
      let same = some-injective (t.value ∷ xs) ns e in
      let w = marked-written mark s t m q in
      let l = rest t.rest xs r in
      record { text = rw (← same, m, ← l.text) w.text; suit = rw (← same, m, w.fit) l.suit }

  marked-line : is_mark mark ≡ true → (o : Option Taken) → take_marked mark s ≡ o → on_taken o (numbers_of form) ≡ some ns → IsLine (mark ∷ form) s ns
  marked-line m none q e = absurd (none-ne-some ns e)
  marked-line m (some t) q e = then-numbers m t (numbers_of form t.rest) q refl e

  byte-line : is_mark mark ≡ false → on_byte mark s (numbers_of form) ≡ some ns → IsLine (mark ∷ form) s ns
  unfolding filled_in suits
  byte-line m e = by-text s e
    where
      by-text : (s : List ℕ) → on_byte mark s (numbers_of form) ≡ some ns → IsLine (mark ∷ form) s ns
      by-text [] e = absurd (none-ne-some ns e)
      by-text (b ∷ s) e = by-test b s (eqb b mark) refl e
        where
          by-test : (b : ℕ) (s : List ℕ) (p : Bool) → eqb b mark ≡ p → cond p (numbers_of form s) none ≡ some ns → IsLine (mark ∷ form) (b ∷ s) ns
          by-test b s false q e = absurd (none-ne-some ns e)
          by-test b s true q e =
              let l = rest s ns e in
              record { text = rw (m, eqb-true b mark q, ← l.text); suit = rw m l.suit }

pub line-written : (form s : List ℕ) (ns : List ℤ) → numbers_of form s ≡ some ns → IsLine form s ns
unfolding numbers_of filled_in suits
line-written [] [] ns e = rw (← some-injective [] ns e) (record { text = refl; suit = refl })
line-written [] (b ∷ s) ns e = absurd (none-ne-some ns e)
line-written (mark ∷ form) s ns e = by-mark (is_mark mark) refl (line-written form)
  where
    by-mark : (p : Bool) → is_mark mark ≡ p → Rest form → IsLine (mark ∷ form) s ns
    by-mark true m rest = marked-line mark form rest s ns m (take_marked mark s) refl (sym (numbers-marked mark form s m) ∙ e)
    by-mark false m rest = byte-line mark form rest s ns m (sym (numbers-byte mark form s m) ∙ e)

-- ---- what is written out is read

-- the byte after a mark, if there is one, is neither a mark nor a digit
abbrev pub plain_next : List ℕ → Bool
plain_next [] = true
plain_next (b ∷ form) = not (is_mark b) && not (is_digit b)

unfoldable pub separated : List ℕ → Bool
separated [] = true
separated (mark ∷ form) = cond (is_mark mark) (plain_next form && separated form) (separated form)

no_digit : (form : List ℕ) (ns : List ℤ) → plain_next form ≡ true → NoDigit (filled_in form ns)
unfolding filled_in
no_digit [] ns e = empty
no_digit (b ∷ form) ns e =
    let tests = both (not (is_mark b)) (not (is_digit b)) e in
    rw (not-true (is_mark b) tests.0) (other (not-true (is_digit b) tests.1))

-- a line that was written out and its first number
marked-read : (mark : ℕ) (form : List ℕ) (ns : List ℤ) → is_mark mark ≡ true → plain_next form ≡ true → fits_then mark ns (suits form) ≡ true
    → ((xs : List ℤ) → suits form xs ≡ true → numbers_of form (filled_in form xs) ≡ some xs)
    → on_taken (take_marked mark (number_then ns (filled_in form))) (numbers_of form) ≡ some ns
marked-read mark form [] m p f rest = absurd (false≢true f)
marked-read mark form (n ∷ ns) m p f rest =
    let fit = both (fits mark n) (suits form ns) f in
    rw (written-marked mark n (filled_in form ns) m fit.0 (no_digit form ns p), rest ns fit.1)

pub written_read : (form : List ℕ) (ns : List ℤ) → separated form ≡ true → suits form ns ≡ true → numbers_of form (filled_in form ns) ≡ some ns
unfolding filled_in suits separated numbers_of
written_read [] [] p f = refl
written_read [] (n ∷ ns) p f = absurd (false≢true f)
written_read (mark ∷ form) ns p f = by-mark (is_mark mark) refl p f (written_read form)
  where
    by-mark : (t : Bool) → is_mark mark ≡ t → cond t (plain_next form && separated form) (separated form) ≡ true
        → cond t (fits_then mark ns (suits form)) (suits form ns) ≡ true
        → ((xs : List ℤ) → separated form ≡ true → suits form xs ≡ true → numbers_of form (filled_in form xs) ≡ some xs)
        → numbers_of (mark ∷ form) (cond t (number_then ns (filled_in form)) (mark ∷ filled_in form ns)) ≡ some ns
    by-mark true m p f rest =
        let apart = both (plain_next form) (separated form) p in
        numbers-marked mark form (number_then ns (filled_in form)) m
        ∙ marked-read mark form ns m apart.0 f (λ xs. rest xs apart.1)
    by-mark false m p f rest = rw (numbers-byte mark form (mark ∷ filled_in form ns) m, eq-eqb mark mark refl) (rest ns p f)

-- ---- the fourteen forms

apart-at : (forms : List (List ℕ)) (i : ℕ) → all (map separated forms) ≡ true → separated (get_or forms i []) ≡ true
unfolding all separated
apart-at [] i e = refl
apart-at (form ∷ forms) zero e = (both (separated form) (all (map separated forms)) e).0
apart-at (form ∷ forms) (suc i) e = apart-at forms i (both (separated form) (all (map separated forms)) e).1

all_apart : all (map separated forms) ≡ true
unfolding all within forms sheet_forms sample_form separated
all_apart = refl

pub forms-read : ReadsForms numbers_of
forms-read i h line ns = (
  line-written (form_at i) line ns,
  λ l. ap (numbers_of (form_at i)) l.text ∙ written_read (form_at i) ns (apart-at forms i all_apart) l.suit,
)

-- ---- how many numbers a form has, and how long its lines are

signed-length : (mark : ℕ) (n : ℤ) → fits mark n ≡ true → length (signed_decimal n) ≤ 7
unfolding signed_decimal
signed-length mark (pos n) f = omega (arith, decimal-length n (leb-true n 999999 f))
signed-length mark (negsuc n) f =
    omega (arith, decimal-length (suc n) (leb-true (suc n) 999999 (both (eqb mark signed_mark) (leb (suc n) 999999) f).1))

pub suits-length : (form : List ℕ) (ns : List ℤ) → suits form ns ≡ true → length ns ≡ marks form
unfolding suits marks
suits-length [] [] f = refl
suits-length [] (n ∷ ns) f = absurd (false≢true f)
suits-length (mark ∷ form) ns f = by-mark (is_mark mark) ns f (suits-length form)
  where
    by-mark : (t : Bool) (ns : List ℤ) → cond t (fits_then mark ns (suits form)) (suits form ns) ≡ true
        → ((xs : List ℤ) → suits form xs ≡ true → length xs ≡ marks form) → length ns ≡ cond t (suc (marks form)) (marks form)
    by-mark true [] f rest = absurd (false≢true f)
    by-mark true (n ∷ ns) f rest = ap suc (rest ns (both (fits mark n) (suits form ns) f).1)
    by-mark false ns f rest = rest ns f

-- a number takes at most six bytes more than its mark
pub written-length : (form : List ℕ) (ns : List ℤ) → suits form ns ≡ true → length (filled_in form ns) ≤ length form + 6 * marks form
unfolding filled_in suits marks
written-length [] ns f = omega arith
written-length (mark ∷ form) ns f = by-mark (is_mark mark) ns f (written-length form)
  where
    by-mark : (t : Bool) (ns : List ℤ) → cond t (fits_then mark ns (suits form)) (suits form ns) ≡ true
        → ((xs : List ℤ) → suits form xs ≡ true → length (filled_in form xs) ≤ length form + 6 * marks form)
        → length (cond t (number_then ns (filled_in form)) (mark ∷ filled_in form ns)) ≤ suc (length form) + 6 * cond t (suc (marks form)) (marks form)
    by-mark true [] f rest = absurd (false≢true f)
    by-mark true (n ∷ ns) f rest =
        let fit = both (fits mark n) (suits form ns) f in
        omega (arith, length-append (signed_decimal n) (filled_in form ns), signed-length mark n fit.0, rest ns fit.1)
    by-mark false ns f rest = omega (arith, rest ns f)
