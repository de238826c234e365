-- The first line of a text by places: where it ends, that it is a part of the text, and what follows it.
-- Assumes nothing.
use mathlib.Core.Path.{◌≡◌, refl, sym, ap, ◌∙◌}
use mathlib.Core.Bool.{Bool, true, false, cond, not, ◌||◌, false≢true}
use mathlib.Core.List.{List, [], ◌∷◌}
use Prim.Native.Nat.{ℕ, suc, ◌+◌, ◌-◌, ◌≤◌, ◌<◌}
use native.Mathlib.Numerals.{add-one}
use native.Mathlib.Omega.{arith}
use borrow.Author.Tests.{lt-ltb, le-ltb}
use lib.Dec.{eqb, ltb}
use lib.ListN.{length, take, drop, length-drop, drop_of_length-le}
use Rattle.std.specs.declared.option.Option.{Option}
use lib.Seq.{take_all}
use Rattle.std.specs.Prelude.{◌==◌, Some, None, unwrap_or, position}
use Rattle.std.specs.List.{position_or_len}
use Rattle.rules.specs.Text.{feed, first_line, has_feed, after_line}

-- ---- the first line as a part

-- the first line is what stands before its end
pub line-take : (l : List ℕ) → take (length (first_line l)) l ≡ first_line l
unfolding first_line
line-take [] = refl
line-take (b ∷ l) = by-test (eqb b feed) (line-take l)
  where
    by-test : (t : Bool) → take (length (first_line l)) l ≡ first_line l
        → take (length (cond t [] (b ∷ first_line l))) (b ∷ l) ≡ cond t [] (b ∷ first_line l)
    by-test true e = refl
    by-test false e = ap (λ (k : List ℕ). b ∷ k) e

pub line-length : (l : List ℕ) → length (first_line l) ≤ length l
unfolding first_line
line-length [] = omega arith
line-length (b ∷ l) = by-test (eqb b feed) (line-length l)
  where
    by-test : (t : Bool) → length (first_line l) ≤ length l → length (cond t [] (b ∷ first_line l)) ≤ suc (length l)
    by-test true h = omega arith
    by-test false h = omega arith

-- what follows an ended line begins after its line feed
pub line_after : (l : List ℕ) → has_feed l ≡ true → after_line l ≡ drop (length (first_line l) + 1) l
unfolding has_feed after_line first_line
line_after [] e = absurd (false≢true e)
line_after (b ∷ l) e = by-test (eqb b feed) e (line_after l)
  where
    by-test : (t : Bool) → (t || has_feed l) ≡ true → (has_feed l ≡ true → after_line l ≡ drop (length (first_line l) + 1) l)
        → cond t l (after_line l) ≡ drop (length (cond t [] (b ∷ first_line l)) + 1) (b ∷ l)
    by-test true e r = refl
    by-test false e r = r e ∙ ap (λ (k : ℕ). drop k (b ∷ l)) (sym (add-one (length (first_line l) + 1)) ∙ ap (λ (k : ℕ). k + 1) (add-one (length (first_line l))))

pub line-ended : (l : List ℕ) → has_feed l ≡ true → length (first_line l) < length l
unfolding has_feed first_line
line-ended [] e = absurd (false≢true e)
line-ended (b ∷ l) e = by-test (eqb b feed) e (line-ended l)
  where
    by-test : (t : Bool) → (t || has_feed l) ≡ true → (has_feed l ≡ true → length (first_line l) < length l)
        → length (cond t [] (b ∷ first_line l)) < suc (length l)
    by-test true e r = omega arith
    by-test false e r = omega (arith, r e)

-- ---- where the first line ends

-- a text without a line feed is one line
line-whole : (l : List ℕ) → has_feed l ≡ false → length (first_line l) ≡ length l
unfolding has_feed first_line
line-whole [] e = refl
line-whole (b ∷ l) e = by-test (eqb b feed) e (line-whole l)
  where
    by-test : (t : Bool) → (t || has_feed l) ≡ false → (has_feed l ≡ false → length (first_line l) ≡ length l)
        → length (cond t [] (b ∷ first_line l)) ≡ suc (length l)
    by-test true e r = absurd (false≢true (sym e))
    by-test false e r = ap (λ (k : ℕ). suc k) (r e)

feed-first : (l : List ℕ) → position_or_len (λ (b : ℕ). b == feed) l ≡ length (first_line l)
unfolding first_line
feed-first [] = refl
feed-first (b ∷ l) = by-test (eqb b feed) (feed-first l)
  where
    by-test : (t : Bool) → position_or_len (λ (b : ℕ). b == feed) l ≡ length (first_line l)
        → cond (not t) (1 + position_or_len (λ (b : ℕ). b == feed) l) 0 ≡ length (cond t [] (b ∷ first_line l))
    by-test true e = refl
    by-test false e = omega (arith, e)

-- the first line feed's place, or the end
feed-place : (l : List ℕ) → unwrap_or (position (λ (b : ℕ). b == feed) l) (length l) ≡ length (first_line l)
feed-place l = rw (feed-first l) (by-feed (has_feed l) refl)
  where
    by-feed : (t : Bool) → has_feed l ≡ t
        → unwrap_or (cond (ltb (length (first_line l)) (length l)) (Some (length (first_line l))) None) (length l) ≡ length (first_line l)
    by-feed true e = rw (lt-ltb _ _ (line-ended l e))
    by-feed false e = rw (le-ltb (length (first_line l)) (length l) (omega (arith, line-whole l e))) (sym (line-whole l e))

module _ (s : List ℕ) (from : ℕ) where
  -- the same in what stands from a place on
  pub place-found : (o : Option ℕ) (n : ℕ) → o ≡ position (λ (b : ℕ). b == feed) (take (length s - from) (drop from s))
      → n ≡ unwrap_or o (length (take (length s - from) (drop from s))) → from + n ≡ from + length (first_line (drop from s))
  place-found o n e q =
      let whole : take (length s - from) (drop from s) ≡ drop from s = take_all (length s - from) (drop from s) (omega (arith, length-drop from s)) in
      ap (λ (k : ℕ). from + k) (q ∙ rw (e, whole) (feed-place (drop from s)))

  -- there it is a line feed exactly where the line is ended
  pub end-value : (end : ℕ) → end ≡ from + length (first_line (drop from s)) → ltb end (length s) ≡ has_feed (drop from s)
  end-value end e = by-feed (has_feed (drop from s)) refl
    where
      by-feed : (t : Bool) → has_feed (drop from s) ≡ t → ltb end (length s) ≡ t
      by-feed true h = lt-ltb _ _ (omega (arith, e, line-ended (drop from s) h, length-drop from s))
      by-feed false h = le-ltb _ _ (omega (arith, e, line-whole (drop from s) h, length-drop from s))

-- past the end
pub line-past : (s : List ℕ) (from : ℕ) → length s ≤ from → first_line (drop from s) ≡ []
unfolding first_line
line-past s from h = rw (drop_of_length-le s h)
