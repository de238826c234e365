-- Line feeds: what is written out has none, and a line with its line feed is the first line of any text that it begins.
-- Assumes nothing.
use mathlib.Core.Path.{◌≡◌, refl, ap, ◌∙◌}
use mathlib.Core.Bool.{Bool, true, false, cond, ◌||◌, false≢true}
use mathlib.Core.List.{List, [], ◌∷◌, ◌++◌, append-nil}
use Prim.Native.Nat.{ℕ, suc}
use native.Mathlib.Omega.{arith}
use borrow.Author.Tests.{eqb-true, ne_eqb, leb-true}
use lib.Dec.{eqb, leb}
use lib.IntN.{ℤ, pos, negsuc}
use Rattle.rules.specs.Text.{feed, signed_decimal, first_line, has_feed, after_line}
use Rattle.rules.specs.Forms.{signed_mark}
use Rattle.formats.specs.Marks.{is_mark, number_then, filled_in, fits, fits_then, suits}
use Rattle.basics.proofs.Bools.{both, neither}
use Rattle.formats.proofs.Digits.{AllDigits, end, more}
use Rattle.formats.proofs.Numbers.{decimal-digits}

pub no-feeds : (xs ys : List ℕ) → has_feed xs ≡ false → has_feed ys ≡ false → has_feed (xs ++ ys) ≡ false
unfolding has_feed
no-feeds [] ys p q = q
no-feeds (x ∷ xs) ys p q =
    let tests = neither (eqb x feed) (has_feed xs) p in
    rw tests.0 (no-feeds xs ys tests.1 q)

-- ---- numbers and forms

digits-plain : {ds : List ℕ} → AllDigits ds → has_feed ds ≡ false
unfolding has_feed
digits-plain end = refl
digits-plain (more {b} d r) = rw (ne_eqb b feed (λ e. omega (arith, d.low))) (digits-plain r)

pub number-plain : (mark : ℕ) (n : ℤ) → fits mark n ≡ true → has_feed (signed_decimal n) ≡ false
unfolding signed_decimal has_feed
number-plain mark (pos n) f = digits-plain (decimal-digits n (leb-true n 999999 f))
number-plain mark (negsuc n) f = digits-plain (decimal-digits (suc n) (leb-true (suc n) 999999 (both (eqb mark signed_mark) (leb (suc n) 999999) f).1))

-- a form without a line feed, written out
pub written-plain : (form : List ℕ) (ns : List ℤ) → has_feed form ≡ false → suits form ns ≡ true → has_feed (filled_in form ns) ≡ false
unfolding has_feed filled_in suits
written-plain [] ns p f = refl
written-plain (mark ∷ form) ns p f = by-mark (is_mark mark) ns f (λ xs. written-plain form xs tests.1)
  where
    tests : (eqb mark feed ≡ false) × (has_feed form ≡ false)
    tests = neither (eqb mark feed) (has_feed form) p

    by-mark : (t : Bool) (ns : List ℤ) → cond t (fits_then mark ns (suits form)) (suits form ns) ≡ true
        → ((xs : List ℤ) → suits form xs ≡ true → has_feed (filled_in form xs) ≡ false)
        → has_feed (cond t (number_then ns (filled_in form)) (mark ∷ filled_in form ns)) ≡ false
    by-mark true [] f rest = absurd (false≢true f)
    by-mark true (n ∷ ns) f rest =
        let fit = both (fits mark n) (suits form ns) f in
        no-feeds (signed_decimal n) (filled_in form ns) (number-plain mark n fit.0) (rest ns fit.1)
    by-mark false ns f rest = rw tests.0 (rest ns f)

-- ---- the first line of a text

pub plain-line : (xs rest : List ℕ) → has_feed xs ≡ false → first_line (xs ++ rest) ≡ xs ++ first_line rest
unfolding has_feed first_line
plain-line [] rest p = refl
plain-line (x ∷ xs) rest p =
    let tests = neither (eqb x feed) (has_feed xs) p in
    rw (tests.0, plain-line xs rest tests.1)

pub plain-feed : (xs rest : List ℕ) → has_feed xs ≡ false → has_feed (xs ++ rest) ≡ has_feed rest
unfolding has_feed
plain-feed [] rest p = refl
plain-feed (x ∷ xs) rest p =
    let tests = neither (eqb x feed) (has_feed xs) p in
    rw tests.0 (plain-feed xs rest tests.1)

pub plain-after : (xs rest : List ℕ) → has_feed xs ≡ false → after_line (xs ++ rest) ≡ after_line rest
unfolding has_feed after_line
plain-after [] rest p = refl
plain-after (x ∷ xs) rest p =
    let tests = neither (eqb x feed) (has_feed xs) p in
    rw tests.0 (plain-after xs rest tests.1)

-- a text that begins with a line and its line feed
pub record Begins (line rest s : List ℕ) : Type 0 where
  pub ended : has_feed s ≡ true
  pub first : first_line s ≡ line
  pub after : after_line s ≡ rest

pub begins : (line rest : List ℕ) → has_feed line ≡ false → Begins line rest (line ++ (feed ∷ rest))
unfolding has_feed first_line after_line
begins line rest p =
    record {
      ended = plain-feed line (feed ∷ rest) p;
      first = plain-line line (feed ∷ rest) p ∙ append-nil line;
      after = plain-after line (feed ∷ rest) p;
    }

-- an ended line is followed by its line feed
pub line-feed : (s : List ℕ) → has_feed s ≡ true → s ≡ first_line s ++ (feed ∷ after_line s)
unfolding has_feed first_line after_line
line-feed [] e = absurd (false≢true e)
line-feed (b ∷ s) e = by-test (eqb b feed) refl e (line-feed s)
  where
    by-test : (t : Bool) → eqb b feed ≡ t → (t || has_feed s) ≡ true → (has_feed s ≡ true → s ≡ first_line s ++ (feed ∷ after_line s))
        → b ∷ s ≡ cond t [] (b ∷ first_line s) ++ (feed ∷ cond t s (after_line s))
    by-test true q e r = rw (eqb-true b feed q)
    by-test false q e r = ap (λ (k : List ℕ). b ∷ k) (r e)
