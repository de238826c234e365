-- What a sample line is, without a parser: every sample of seven numbers of at most six digits is read from its writing-out, whatever
-- follows it, and every line of the form is the writing-out of such a sample.
-- Assumes nothing.
use mathlib.Core.Path.{◌≡◌, refl, sym, ap, ◌∙◌}
use mathlib.Core.Bool.{Bool, true, false, cond, not, ◌&&◌, false≢true}
use mathlib.Core.List.{List, [], ◌∷◌, ◌++◌, map, append-nil, append_assoc}
use mathlib.Core.Option.{some}
use Prim.Native.Nat.{ℕ, suc}
use native.Mathlib.Omega.{arith}
use borrow.Author.Tests.{not-true, eqb-true, eq-eqb}
use lib.Dec.{eqb}
use lib.IntN.{ℤ, pos, negsuc, nat_abs}
use lib.ListN.{length, length-map}
use Rattle.rules.specs.Tests.{all, within}
use Rattle.rules.specs.Text.{feed, has_feed}
use Rattle.rules.specs.Samples.{Slice}
use Rattle.rules.specs.Transcripts.{Line, ended, lines_after, lines_in}
use Rattle.rules.specs.Forms.{signed_mark, sample_form, numbers_of}
use Rattle.formats.specs.Marks.{is_mark, marks, fits, fits_then, suits}
use Rattle.formats.specs.Samples.{six_digits, writable, written_sample, ReadsBack, BeginsWithSample}
use Rattle.basics.proofs.Bools.{both, neither}
use Rattle.formats.proofs.Forms.{separated, line-written, written_read, suits-length}
use Rattle.formats.proofs.Feeds.{written-plain}

-- ---- a form without `~`, and numbers that are not negative

unfoldable signless : List ℕ → Bool
signless [] = true
signless (mark ∷ form) = not (eqb mark signed_mark) && signless form

-- numbers without signs that suit a form
record IsUnsigned (ns : List ℤ) : Type 0 where
  same : ns ≡ map pos (map nat_abs ns)
  small : all (map six_digits (map nat_abs ns)) ≡ true

unsigned-then : (mark : ℕ) (n : ℤ) (ns : List ℤ) → eqb mark signed_mark ≡ false → fits mark n ≡ true → IsUnsigned ns → IsUnsigned (n ∷ ns)
unfolding all
unsigned-then mark (pos n) ns e f u = record { same = rw (← u.same); small = rw (f, u.small) }
unsigned-then mark (negsuc n) ns e f u = absurd (false≢true (rw e at f))

suits-unsigned : (form : List ℕ) (ns : List ℤ) → signless form ≡ true → suits form ns ≡ true → IsUnsigned ns
unfolding signless suits all
suits-unsigned [] [] p f = record { same = refl; small = refl }
suits-unsigned [] (n ∷ ns) p f = absurd (false≢true f)
suits-unsigned (mark ∷ form) ns p f = by-mark (is_mark mark) ns f (λ xs. suits-unsigned form xs tests.1)
  where
    tests : (not (eqb mark signed_mark) ≡ true) × (signless form ≡ true)
    tests = both (not (eqb mark signed_mark)) (signless form) p

    by-mark : (t : Bool) (ns : List ℤ) → cond t (fits_then mark ns (suits form)) (suits form ns) ≡ true
        → ((xs : List ℤ) → suits form xs ≡ true → IsUnsigned xs) → IsUnsigned ns
    by-mark true [] f rest = absurd (false≢true f)
    by-mark true (n ∷ ns) f rest =
        let fit = both (fits mark n) (suits form ns) f in
        unsigned-then mark n ns (not-true (eqb mark signed_mark) tests.0) fit.0 (rest ns fit.1)
    by-mark false ns f rest = rest ns f

-- ---- as many numbers as marks, of at most six digits, suit a form

all-suit : (form x : List ℕ) → length x ≡ marks form → all (map six_digits x) ≡ true → suits form (map pos x) ≡ true
unfolding suits marks all
all-suit [] [] l s = refl
all-suit [] (n ∷ x) l s = absurd (omega arith)
all-suit (mark ∷ form) x l s = by-mark (is_mark mark) x l s (all-suit form)
  where
    by-mark : (t : Bool) (x : List ℕ) → length x ≡ cond t (suc (marks form)) (marks form) → all (map six_digits x) ≡ true
        → ((y : List ℕ) → length y ≡ marks form → all (map six_digits y) ≡ true → suits form (map pos y) ≡ true)
        → cond t (fits_then mark (map pos x) (suits form)) (suits form (map pos x)) ≡ true
    by-mark true [] l s rest = absurd (omega arith)
    by-mark true (n ∷ x) l s rest =
        let tests = both (six_digits n) (all (map six_digits x)) s in
        rw tests.0 (rest x (omega arith) tests.1)
    by-mark false x l s rest = rest x l s

-- ---- the two laws

pub sample-read : (x : List ℕ) → writable x ≡ true → numbers_of sample_form (written_sample x) ≡ some (map pos x)
unfolding written_sample sample_form separated within marks
sample-read x w =
    let tests = both (eqb (length x) 7) (all (map six_digits x)) w in
    written_read sample_form (map pos x) refl (all-suit sample_form x (eqb-true (length x) 7 tests.0) tests.1)

pub record IsSample (line : List ℕ) (ns : List ℤ) : Type 0 where
  pub sample : List ℕ
  pub can : writable sample ≡ true
  pub text : line ≡ written_sample sample
  pub numbers : ns ≡ map pos sample

pub sample-written : (line : List ℕ) (ns : List ℤ) → numbers_of sample_form line ≡ some ns → IsSample line ns
unfolding written_sample sample_form marks signless
sample-written line ns e =
    let w = line-written sample_form line ns e in
    let u = suits-unsigned sample_form ns refl w.suit in
    let seven : length (map nat_abs ns) ≡ 7 = length-map ns nat_abs ∙ suits-length sample_form ns w.suit in
    record {
      sample = map nat_abs ns;
      can = rw (eq-eqb (length (map nat_abs ns)) 7 seven) u.small;
      text = rw (← u.same) w.text;
      numbers = u.same;
    }

-- ---- the first line of a text

lines-plain : (before xs rest : List ℕ) → has_feed xs ≡ false → lines_after before (xs ++ rest) ≡ lines_after (before ++ xs) rest
unfolding lines_after has_feed
lines-plain before [] rest p = rw append-nil
lines-plain before (x ∷ xs) rest p =
    let tests = neither (eqb x feed) (has_feed xs) p in
    rw tests.0 (lines-plain (before ++ (x ∷ [])) xs rest tests.1 ∙ rw append_assoc)

pub plain-first : (line after : List ℕ) → has_feed line ≡ false → lines_in (line ++ (feed ∷ after)) ≡ ended line ∷ lines_in after
unfolding lines_in lines_after
plain-first line after p = lines-plain [] line (feed ∷ after) p

-- a text of which `before` is read and whose first line is ended
record IsFirst (before s line : List ℕ) (lines : List Line) : Type 0 where
  here : List ℕ
  after : List ℕ
  whole : line ≡ before ++ here
  text : s ≡ here ++ (feed ∷ after)
  others : lines ≡ lines_in after

is-first : (before s line : List ℕ) (lines : List Line) → lines_after before s ≡ ended line ∷ lines → IsFirst before s line lines
unfolding lines_after lines_in
is-first [] [] line lines e = let z : ◌≡◌ {A = ℕ} 0 1 = cc in absurd (omega arith)
is-first (b ∷ before) [] line lines e = let z : ◌≡◌ {A = ℕ} 0 1 = cc in absurd (omega arith)
is-first before (b ∷ s) line lines e = by-test (eqb b feed) refl e (λ k. is-first k s line lines)
  where
    by-test : (t : Bool) → eqb b feed ≡ t → cond t (ended before ∷ lines_after [] s) (lines_after (before ++ (b ∷ [])) s) ≡ ended line ∷ lines
        → ((k : List ℕ) → lines_after k s ≡ ended line ∷ lines → IsFirst k s line lines) → IsFirst before (b ∷ s) line lines
    by-test true q e rest = record { here = []; after = s; whole = cc (append-nil before); text = rw (eqb-true b feed q); others = cc }
    by-test false q e rest =
        let r = rest (before ++ (b ∷ [])) e in
        record {
          here = b ∷ r.here;
          after = r.after;
          whole = r.whole ∙ append_assoc before (b ∷ []) r.here;
          text = ap (λ (k : List ℕ). b ∷ k) r.text;
          others = r.others;
        }

-- ---- sample lines of a text

sample-plain : (x : List ℕ) → writable x ≡ true → has_feed (written_sample x) ≡ false
unfolding written_sample sample_form marks has_feed
sample-plain x w =
    let tests = both (eqb (length x) 7) (all (map six_digits x)) w in
    written-plain sample_form (map pos x) refl (all-suit sample_form x (eqb-true (length x) 7 tests.0) tests.1)

pub sample-reads-back : (x : Slice) (after : List ℕ) → writable x ≡ true → ReadsBack x after
sample-reads-back x after w = plain-first (written_sample x) after (sample-plain x w)

pub sample-written-out : (s : List ℕ) (x : Slice) (lines : List Line) → lines_in s ≡ ended (written_sample x) ∷ lines → BeginsWithSample s x lines
unfolding lines_in
sample-written-out s x lines p =
    let f = is-first [] s (written_sample x) lines p in
    record { after = f.after; text = f.text ∙ ap (λ (k : List ℕ). k ++ (feed ∷ f.after)) (sym f.whole); others = f.others }
