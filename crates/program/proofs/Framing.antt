-- The lines of a text, one by one, and of two texts put together.
-- Assumes nothing.
use mathlib.Core.Path.{◌≡◌, refl, sym, ap, ◌∙◌}
use mathlib.Core.Bool.{Bool, true, false, cond, ◌||◌, false≢true}
use mathlib.Core.List.{List, [], ◌∷◌, ◌++◌, append-nil}
use Prim.Native.Nat.{ℕ, zero, suc, ◌+◌}
use native.Mathlib.Omega.{arith}
use lib.Dec.{eqb}
use lib.ListN.{length, take}
use lib.Seq.{append_snoc, take-append-add}
use Rattle.rules.specs.Text.{feed, first_line, has_feed, after_line}
use Rattle.formats.proofs.Feeds.{line-feed}
use Rattle.rules.specs.Transcripts.{ended, last_line, lines_after, lines_in}

lines-after : (before s : List ℕ)
    → lines_after before s ≡ cond (has_feed s) (ended (before ++ first_line s) ∷ lines_after [] (after_line s)) (last_line (before ++ s))
unfolding lines_after has_feed first_line after_line
lines-after before [] = rw append-nil
lines-after before (b ∷ s) = by (eqb b feed) (lines-after (before ++ (b ∷ [])) s)
  where
    by : (t : Bool)
        → lines_after (before ++ (b ∷ [])) s
        ≡ cond (has_feed s) (ended ((before ++ (b ∷ [])) ++ first_line s) ∷ lines_after [] (after_line s)) (last_line ((before ++ (b ∷ [])) ++ s))
        → cond t (ended before ∷ lines_after [] s) (lines_after (before ++ (b ∷ [])) s)
        ≡ cond (t || has_feed s) (ended (before ++ cond t [] (b ∷ first_line s)) ∷ lines_after [] (cond t s (after_line s))) (last_line (before ++ (b ∷ s)))
    by true e = rw append-nil
    by false e = e ∙ rw (append_snoc before b (first_line s), append_snoc before b s)

pub lines-fed : (s : List ℕ) → has_feed s ≡ true → lines_in s ≡ ended (first_line s) ∷ lines_in (after_line s)
unfolding lines_in
lines-fed s e = lines-after [] s ∙ rw e

pub lines-unfed : (s : List ℕ) → has_feed s ≡ false → lines_in s ≡ last_line s
unfolding lines_in
lines-unfed s e = lines-after [] s ∙ rw e

-- ---- a text with a line feed, and anything after it

pub feed-front : (s t : List ℕ) → has_feed s ≡ true → has_feed (s ++ t) ≡ true
unfolding has_feed
feed-front [] t e = absurd (false≢true e)
feed-front (b ∷ s) t e = by (eqb b feed) e (feed-front s t)
  where
    by : (k : Bool) → (k || has_feed s) ≡ true → (has_feed s ≡ true → has_feed (s ++ t) ≡ true) → (k || has_feed (s ++ t)) ≡ true
    by true p rec = refl
    by false p rec = rec p

pub line-front : (s t : List ℕ) → has_feed s ≡ true → first_line (s ++ t) ≡ first_line s
unfolding has_feed first_line
line-front [] t e = absurd (false≢true e)
line-front (b ∷ s) t e = by (eqb b feed) e (line-front s t)
  where
    by : (k : Bool) → (k || has_feed s) ≡ true → (has_feed s ≡ true → first_line (s ++ t) ≡ first_line s)
        → cond k [] (b ∷ first_line (s ++ t)) ≡ cond k [] (b ∷ first_line s)
    by true p rec = refl
    by false p rec = ap (λ (l : List ℕ). b ∷ l) (rec p)

pub after-front : (s t : List ℕ) → has_feed s ≡ true → after_line (s ++ t) ≡ after_line s ++ t
unfolding has_feed after_line
after-front [] t e = absurd (false≢true e)
after-front (b ∷ s) t e = by (eqb b feed) e (after-front s t)
  where
    by : (k : Bool) → (k || has_feed s) ≡ true → (has_feed s ≡ true → after_line (s ++ t) ≡ after_line s ++ t)
        → cond k (s ++ t) (after_line (s ++ t)) ≡ cond k s (after_line s) ++ t
    by true p rec = refl
    by false p rec = rec p

-- ---- a text without one

-- a cut of it has none either
pub plain-cut : (n : ℕ) (s : List ℕ) → has_feed s ≡ false → has_feed (take n s) ≡ false
unfolding has_feed
plain-cut zero s e = refl
plain-cut (suc n) [] e = refl
plain-cut (suc n) (b ∷ s) e = by (eqb b feed) e (plain-cut n s)
  where
    by : (k : Bool) → (k || has_feed s) ≡ false → (has_feed s ≡ false → has_feed (take n s) ≡ false) → (k || has_feed (take n s)) ≡ false
    by true p rec = absurd (false≢true (sym p))
    by false p rec = rec p

-- ---- the first line with its line feed, and more of what follows

pub line_plain : (s : List ℕ) → has_feed (first_line s) ≡ false
unfolding has_feed first_line
line_plain [] = refl
line_plain (b ∷ s) = by (eqb b feed) refl (line_plain s)
  where
    by : (k : Bool) → eqb b feed ≡ k → has_feed (first_line s) ≡ false → has_feed (cond k [] (b ∷ first_line s)) ≡ false
    by true e rec = refl
    by false e rec = rw e rec

-- so many bytes: the first line with its line feed, and m bytes more
pub take-line : (s : List ℕ) (m : ℕ) → has_feed s ≡ true → take (length (first_line s) + 1 + m) s ≡ first_line s ++ (feed ∷ take m (after_line s))
take-line s m f =
    let l = first_line s in
    let n : length l + 1 + m ≡ length l + suc m = omega arith in
    ap (λ (k : ℕ). take k s) n ∙ ap (take (length l + suc m)) (line-feed s f) ∙ take-append-add l (feed ∷ after_line s) (suc m)
