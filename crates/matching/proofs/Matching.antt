-- The matcher's loop: what is left of the form against what is left of the text, and the numbers so far.
-- Assumes nothing.
use mathlib.Core.Path.{◌≡◌, refl, sym, ap, ◌∙◌}
use mathlib.Core.Bool.{true, false}
use mathlib.Core.List.{List, [], ◌∷◌, ◌++◌, append_assoc, append-nil}
use mathlib.Core.Option.{Option, none, some}
use Prim.Native.Nat.{ℕ, suc, ◌+◌, ◌-◌, ◌≤◌, ◌<◌}
use native.Mathlib.Numerals.{add-one}
use native.Mathlib.Omega.{arith}
use borrow.Author.Tests.{eq-eqb, ne_eqb}
use lib.IntN.{ℤ, pos}
use lib.ListN.{length, get_or, take, drop, set, replicate, length-set, length-take, take-append-drop, drop_of_length-le}
use lib.Seq.{drop-cons, take-suc-set, drop-set-lt, drop-drop}
use Rattle.formats.specs.Marks.{is_mark, marks, take_marked}
use Rattle.numerals.specs.Places.{NumberTaken}
use Rattle.matching.specs.Forms.{Formed, after, taken_then, byte_then, take_form}
use Rattle.matching.specs.Places.{Matched}
use Rattle.numerals.specs.declared.Number.{Number}

-- ---- numbers before those found

pub after-none-before : (o : Option Formed) → after [] o ≡ o
after-none-before none = refl
after-none-before (some f) = refl

pub after-after : (xs ys : List ℤ) (o : Option Formed) → after xs (after ys o) ≡ after (xs ++ ys) o
after-after xs ys none = refl
after-after xs ys (some f) = rw (append_assoc xs ys f.numbers)

-- ---- the loop

-- the form from j on against the text from `at` on, with k numbers stored
pub record Matching (form s : List ℕ) (start : ℕ) (n : List ℤ) (k at j : ℕ) : Type 0 where
  pub left : take_form form (drop start s) ≡ after (take k n) (take_form (drop j form) (drop at s))
  pub zeros : drop k n ≡ replicate (8 - k) (pos 0)
  pub size : length n ≡ 8
  pub room : k + marks (drop j form) ≤ 8
  pub inside : at ≤ length s

module _ (form s : List ℕ) (start : ℕ) (n : List ℤ) (k at j : ℕ) (g : Matching form s start n k at j) (h : j < length form) where
  abbrev mark : ℕ
  mark = get_or form j 0

  next-mark : drop j form ≡ mark ∷ drop (j + 1) form
  next-mark = rw (add-one) (drop-cons form j 0 h)

  marked-left : is_mark mark ≡ true → take_form form (drop start s) ≡ after (take k n) (taken_then (take_marked mark (drop at s)) (take_form (drop (j + 1) form)))
  unfolding take_form
  marked-left m = g.left ∙ rw (next-mark, m)

  byte_left : is_mark mark ≡ false → take_form form (drop start s) ≡ after (take k n) (byte_then mark (drop at s) (take_form (drop (j + 1) form)))
  unfolding take_form
  byte_left m = g.left ∙ rw (next-mark, m)

  marked-room : is_mark mark ≡ true → k + suc (marks (drop (j + 1) form)) ≤ 8
  unfolding marks
  marked-room m = rw (next-mark, m) at g.room

  byte-room : is_mark mark ≡ false → k + marks (drop (j + 1) form) ≤ 8
  unfolding marks
  byte-room m = rw (next-mark, m) at g.room

  -- a number is stored only where there is room
  pub has_room : is_mark mark ≡ true → k < 8
  has_room m = omega (arith, marked-room m)

  -- the mark's number
  pub no-number : is_mark mark ≡ true → take_marked mark (drop at s) ≡ none → take_form form (drop start s) ≡ none
  no-number m e = marked-left m ∙ rw e

  pub next-number : is_mark mark ≡ true → (x : Number) → NumberTaken (take_marked mark (drop at s)) s x
      → Matching form s start (set n k x.value) (k + 1) x.next (j + 1)
  next-number m x e =
      let fits : k < length n = omega (arith, has_room m, g.size) in
      let here : 8 - k ≡ suc (8 - (k + 1)) = omega (arith, has_room m) in
      let longer : take (k + 1) (set n k x.value) ≡ take k n ++ (x.value ∷ []) = rw (add-one) (take-suc-set n k x.value fits) in
      record {
        left = marked-left m ∙ rw (e.same, longer) (after-after (take k n) (x.value ∷ []) (take_form (drop (j + 1) form) (drop x.next s)));
        zeros = drop-set-lt (k + 1) n k x.value (omega arith) ∙ sym (drop-drop 1 k n) ∙ ap (drop 1) g.zeros ∙ rw here;
        size = length-set n k x.value ∙ g.size;
        room = omega (arith, marked-room m);
        inside = e.inside;
      }

  -- the mark's byte
  module _ (m : is_mark mark ≡ false) where
    pub no_byte : length s ≤ at → take_form form (drop start s) ≡ none
    no_byte past = byte_left m ∙ rw (drop_of_length-le s past)

    pub other_byte : at < length s → (get_or s at 0 ≡ mark → ⊥) → take_form form (drop start s) ≡ none
    other_byte l ne = byte_left m ∙ rw (drop-cons s at 0 l, ne_eqb _ mark ne)

    pub next-byte : at < length s → get_or s at 0 ≡ mark → Matching form s start n k (at + 1) (j + 1)
    next-byte l e =
        record {
          left = byte_left m ∙ rw (drop-cons s at 0 l, eq-eqb _ mark e, add-one at);
          zeros = g.zeros;
          size = g.size;
          room = byte-room m;
          inside = omega arith;
        }

pub match-ends : (form s : List ℕ) (start : ℕ) (n : List ℤ) (k at j : ℕ) → Matching form s start n k at j → length form ≤ j
    → Matched (take_form form (drop start s)) s (record { next = at; n = n })
unfolding take_form
match-ends form s start n k at j g h =
    let count : length (take k n) ≡ k = omega (arith, length-take k n, g.size, g.room) in
    record {
      numbers = take k n;
      same = g.left ∙ rw (drop_of_length-le form h, append-nil);
      stored = rw (count, ← g.zeros) (sym (take-append-drop k n));
      inside = g.inside;
    }
