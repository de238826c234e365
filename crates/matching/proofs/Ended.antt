-- A form at the beginning of a text, against the text's first line: the same numbers, and where the line ends.
-- Assumes nothing.
use mathlib.Core.Path.{◌≡◌, refl, sym, ap, ◌∙◌, subst}
use mathlib.Core.Bool.{Bool, true, false, cond, false≢true, true≢false}
use mathlib.Core.List.{List, [], ◌∷◌, ◌++◌, append_assoc}
use mathlib.Core.Option.{Option, none, some, some-injective, none-ne-some}
use Prim.Native.Nat.{ℕ, zero, suc, ◌+◌}
use native.Mathlib.Omega.{arith}
use borrow.Author.Tests.{eqb-true, ne_eqb}
use lib.Dec.{eqb}
use lib.IntN.{ℤ, pos, negsuc}
use lib.ListN.{length, length-append}
use Rattle.rules.specs.Tests.{within}
use Rattle.rules.specs.Text.{feed, minus, is_digit, leading_digits, after_digits, value_after, well_formed, signed_decimal, Taken, take_number, negated}
use Rattle.rules.specs.Text.{take_signed, first_line, has_feed}
use Rattle.rules.specs.Forms.{number_mark}
use Rattle.formats.specs.Marks.{is_mark, take_marked}
use Rattle.formats.proofs.Numbers.{marked-written}
use Rattle.basics.proofs.Bools.{neither}
use Rattle.formats.proofs.Feeds.{no-feeds, number-plain, plain-line, plain-feed}
use Rattle.matching.specs.Forms.{Formed, after, taken_then, byte_then, take_form}

-- ---- numbers of the first line

-- a line feed is no digit, so a run of digits lies in the first line
digits-line : (l : List ℕ) → leading_digits (first_line l) ≡ leading_digits l
unfolding leading_digits first_line within
digits-line [] = refl
digits-line (b ∷ l) = by-test (eqb b feed) refl (digits-line l)
  where
    by-test : (t : Bool) → eqb b feed ≡ t → leading_digits (first_line l) ≡ leading_digits l
        → leading_digits (cond t [] (b ∷ first_line l)) ≡ cond (is_digit b) (b ∷ leading_digits l) []
    by-test true e r = rw (eqb-true b feed e)
    by-test false e r = rw r

after-line : (l : List ℕ) → after_digits (first_line l) ≡ first_line (after_digits l)
unfolding after_digits first_line within
after-line [] = refl
after-line (b ∷ l) = by-test (eqb b feed) refl (is_digit b) refl (after-line l)
  where
    by-test : (t : Bool) → eqb b feed ≡ t → (d : Bool) → is_digit b ≡ d → after_digits (first_line l) ≡ first_line (after_digits l)
        → after_digits (cond t [] (b ∷ first_line l)) ≡ first_line (cond d (after_digits l) (b ∷ l))
    by-test true e true q r = absurd (false≢true (sym (ap is_digit (eqb-true b feed e)) ∙ q))
    by-test true e false q r = rw e
    by-test false e true q r = rw q r
    by-test false e false q r = rw (q, e)

abbrev line_rest : Option Taken → Option Taken
line_rest none = none
line_rest (some t) = some (record { value = t.value; rest = first_line t.rest })

number-line : (l : List ℕ) → take_number (first_line l) ≡ line_rest (take_number l)
unfolding take_number
number-line l = rw (digits-line l, after-line l) (by-test (well_formed (leading_digits l)))
  where
    by-test : (t : Bool) → cond {A = Option Taken} t (some (record { value = pos (value_after 0 (leading_digits l)); rest = first_line (after_digits l) })) none
        ≡ line_rest (cond t (some (record { value = pos (value_after 0 (leading_digits l)); rest = after_digits l })) none)
    by-test true = refl
    by-test false = refl

negated-line : (o : Option Taken) → negated (line_rest o) ≡ line_rest (negated o)
negated-line none = refl
negated-line (some t) = by_value t.value
  where
    by_value : (z : ℤ) → negated (some (record { value = z; rest = first_line t.rest })) ≡ line_rest (negated (some (record { value = z; rest = t.rest })))
    by_value (pos zero) = refl
    by_value (pos (suc n)) = refl
    by_value (negsuc n) = refl

-- a line feed begins no number
feed-number : (l : List ℕ) → take_number (feed ∷ l) ≡ none
unfolding take_number well_formed leading_digits within
feed-number l = refl

signed-line : (l : List ℕ) → take_signed (first_line l) ≡ line_rest (take_signed l)
unfolding take_signed first_line
signed-line [] = refl
signed-line (b ∷ l) = by-feed (eqb b feed) refl
  where
    by-minus : (t : Bool) → eqb b feed ≡ false
        → cond t (negated (take_number (first_line l))) (take_number (b ∷ first_line l)) ≡ line_rest (cond t (negated (take_number l)) (take_number (b ∷ l)))
    by-minus true e = ap negated (number-line l) ∙ negated-line (take_number l)
    by-minus false e = rw e at (number-line (b ∷ l))

    by-feed : (t : Bool) → eqb b feed ≡ t → take_signed (cond t [] (b ∷ first_line l)) ≡ line_rest (take_signed (b ∷ l))
    by-feed true e = rw (eqb-true b feed e, feed-number l)
    by-feed false e = by-minus (eqb b minus) e

marked-line : (mark : ℕ) (l : List ℕ) → take_marked mark (first_line l) ≡ line_rest (take_marked mark l)
marked-line mark l = by-mark (eqb mark number_mark)
  where
    by-mark : (t : Bool) → cond t (take_number (first_line l)) (take_signed (first_line l)) ≡ line_rest (cond t (take_number l) (take_signed l))
    by-mark true = number-line l
    by-mark false = signed-line l

-- ---- a form in the first line

abbrev pub line_form : Option Formed → Option Formed
line_form none = none
line_form (some f) = some (record { numbers = f.numbers; rest = first_line f.rest })

after-line_form : (ns : List ℤ) (o : Option Formed) → after ns (line_form o) ≡ line_form (after ns o)
after-line_form ns none = refl
after-line_form ns (some f) = refl

abbrev Rest : List ℕ → Type 0
Rest form = (l : List ℕ) → take_form form (first_line l) ≡ line_form (take_form form l)

taken-line : (form : List ℕ) → Rest form → (o : Option Taken) → taken_then (line_rest o) (take_form form) ≡ line_form (taken_then o (take_form form))
taken-line form rest none = refl
taken-line form rest (some t) = rw (rest t.rest) (after-line_form (t.value ∷ []) (take_form form t.rest))

byte-line : (mark : ℕ) (form : List ℕ) → Rest form → eqb mark feed ≡ false → (l : List ℕ)
    → byte_then mark (first_line l) (take_form form) ≡ line_form (byte_then mark l (take_form form))
unfolding first_line
byte-line mark form rest p [] = refl
byte-line mark form rest p (b ∷ l) = by-feed (eqb b feed) refl
  where
    by-mark : (t : Bool) → cond t (take_form form (first_line l)) none ≡ line_form (cond t (take_form form l) none)
    by-mark true = rest l
    by-mark false = refl

    by-feed : (t : Bool) → eqb b feed ≡ t → byte_then mark (cond t [] (b ∷ first_line l)) (take_form form) ≡ line_form (cond (eqb b mark) (take_form form l) none)
    by-feed true e = rw (ne_eqb b mark (λ q. true≢false (sym e ∙ ap (λ (k : ℕ). eqb k feed) q ∙ p)))
    by-feed false e = by-mark (eqb b mark)

-- of a form without a line feed
pub form-line : (form l : List ℕ) → has_feed form ≡ false → take_form form (first_line l) ≡ line_form (take_form form l)
unfolding take_form has_feed
form-line [] l p = refl
form-line (mark ∷ form) l p = by-mark (is_mark mark) (λ k. form-line form k tests.1)
  where
    tests : (eqb mark feed ≡ false) × (has_feed form ≡ false)
    tests = neither (eqb mark feed) (has_feed form) p

    by-mark : (t : Bool) → Rest form
        → cond t (taken_then (take_marked mark (first_line l)) (take_form form)) (byte_then mark (first_line l) (take_form form))
        ≡ line_form (cond t (taken_then (take_marked mark l) (take_form form)) (byte_then mark l (take_form form)))
    by-mark true rest = rw (marked-line mark l) (taken-line form rest (take_marked mark l))
    by-mark false rest = byte-line mark form rest tests.0 l

-- ---- what stands before the rest has no line feed

-- a text is bytes other than line feeds, and a rest
pub record Plain (l rest : List ℕ) : Type 0 where
  pub before : List ℕ
  pub text : l ≡ before ++ rest
  pub plain : has_feed before ≡ false

plain_then : {l m rest : List ℕ} → Plain l m → Plain m rest → Plain l rest
plain_then {l} {m} {rest} p q =
    record {
      before = p.before ++ q.before;
      text = p.text ∙ rw (append_assoc, ← q.text);
      plain = no-feeds p.before q.before p.plain q.plain;
    }

marked-plain : (mark : ℕ) (l : List ℕ) (t : Taken) → is_mark mark ≡ true → take_marked mark l ≡ some t → Plain l t.rest
marked-plain mark l t m e =
    let w = marked-written mark l t m e in
    record { before = signed_decimal t.value; text = w.text; plain = number-plain mark t.value w.fit }

byte-plain : (b : ℕ) (l : List ℕ) → eqb b feed ≡ false → Plain (b ∷ l) l
unfolding has_feed
byte-plain b l e = record { before = b ∷ []; text = refl; plain = rw e }

-- what is known of the rest of the form
abbrev PlainRest : List ℕ → Type 0
PlainRest form = (l : List ℕ) (f : Formed) → take_form form l ≡ some f → Plain l f.rest

after-plain : (ns : List ℤ) (l : List ℕ) (f : Formed) (o : Option Formed) → ((g : Formed) → o ≡ some g → Plain l g.rest) → after ns o ≡ some f → Plain l f.rest
after-plain ns l f none rest e = absurd (none-ne-some f e)
after-plain ns l f (some g) rest e =
    subst (Plain l) (ap (λ (h : Formed). h.rest) (some-injective (record { numbers = ns ++ g.numbers; rest = g.rest }) f e)) (rest g refl)

taken-plain : (mark : ℕ) (form l : List ℕ) (f : Formed) → PlainRest form → is_mark mark ≡ true → (o : Option Taken) → take_marked mark l ≡ o
    → taken_then o (take_form form) ≡ some f → Plain l f.rest
taken-plain mark form l f rest m none q e = absurd (none-ne-some f e)
taken-plain mark form l f rest m (some t) q e =
    plain_then (marked-plain mark l t m q) (after-plain (t.value ∷ []) t.rest f (take_form form t.rest) (λ g. rest t.rest g) e)

text-plain : (mark : ℕ) (form : List ℕ) (f : Formed) → PlainRest form → eqb mark feed ≡ false → (l : List ℕ)
    → byte_then mark l (take_form form) ≡ some f → Plain l f.rest
text-plain mark form f rest p [] e = absurd (none-ne-some f e)
text-plain mark form f rest p (b ∷ l) e = by-test (eqb b mark) refl e
  where
    by-test : (t : Bool) → eqb b mark ≡ t → cond t (take_form form l) none ≡ some f → Plain (b ∷ l) f.rest
    by-test false q e = absurd (none-ne-some f e)
    by-test true q e = plain_then (byte-plain b l (rw (eqb-true b mark q) p)) (rest l f e)

pub form-plain : (form l : List ℕ) (f : Formed) → has_feed form ≡ false → take_form form l ≡ some f → Plain l f.rest
unfolding take_form has_feed
form-plain [] l f p e =
    subst (Plain l) (ap (λ (h : Formed). h.rest) (some-injective (record { numbers = []; rest = l }) f e))
    (record { before = []; text = refl; plain = refl })
form-plain (mark ∷ form) l f p e = by-mark (is_mark mark) refl e (λ k g. form-plain form k g tests.1)
  where
    tests : (eqb mark feed ≡ false) × (has_feed form ≡ false)
    tests = neither (eqb mark feed) (has_feed form) p

    by-mark : (t : Bool) → is_mark mark ≡ t
        → cond t (taken_then (take_marked mark l) (take_form form)) (byte_then mark l (take_form form)) ≡ some f → PlainRest form → Plain l f.rest
    by-mark true m e rest = taken-plain mark form l f rest m (take_marked mark l) refl e
    by-mark false m e rest = text-plain mark form f rest tests.0 l e

-- ---- where the first line ends

pub rest-feed : {l rest : List ℕ} → Plain l rest → has_feed l ≡ has_feed rest
rest-feed {l} {rest} p = rw p.text (plain-feed p.before rest p.plain)

pub rest-length : {l rest : List ℕ} → Plain l rest → length (first_line l) + length rest ≡ length l + length (first_line rest)
rest-length {l} {rest} p =
    let line = plain-line p.before rest p.plain in
    rw (p.text, line, length-append p.before (first_line rest), length-append p.before rest) (omega arith)
