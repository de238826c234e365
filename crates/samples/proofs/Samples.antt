-- A sample line's seven numbers, of an ended line that stands at a place of a text.
-- Assumes nothing.
use mathlib.Core.Path.{◌≡◌, refl, ap, ◌∙◌}
use mathlib.Core.Bool.{Bool, true, false, cond}
use mathlib.Core.List.{List, [], ◌∷◌, map}
use mathlib.Core.Option.{Option, none, some}
use Prim.Native.Nat.{ℕ, suc, ◌+◌, ◌-◌, ◌≤◌, ◌<◌}
use native.Mathlib.Omega.{arith}
use borrow.Author.Tests.{eq-eqb, ne_eqb}
use lib.IntN.{ℤ, pos, nat_abs}
use lib.ListN.{length, get_or, take, drop, replicate, length-drop, drop_of_length-le}
use lib.Seq.{drop-cons, take_at}
use Rattle.rules.specs.Text.{feed, first_line, has_feed}
use Rattle.rules.specs.Forms.{sample_form, numbers_of}
use Rattle.formats.specs.Marks.{marks}
use Rattle.formats.proofs.Forms.{line-written, suits-length}
use Rattle.matching.specs.Forms.{take_form}
use Rattle.std.specs.Prelude.{Some, None}
use Rattle.matching.specs.Places.{padded, Matched}
use Rattle.samples.specs.Lines.{ended_sample, sample_at}
use Rattle.matching.specs.declared.Match.{Match}
use Rattle.text.proofs.Whole.{whole, numbers-whole}
use Rattle.matching.proofs.Ended.{Plain, line_form, form-line, form-plain, rest-feed, rest-length}

-- ---- seven numbers

pub sample-seven : (line : List ℕ) (ns : List ℤ) → numbers_of sample_form line ≡ some ns → take 7 (padded ns) ≡ ns
unfolding sample_form marks
sample-seven line ns e = take_at ns (replicate (8 - length ns) (pos 0)) 7 (suits-length sample_form ns (line-written sample_form line ns e).suit)

-- ---- of an ended line at a place

sample-plain : has_feed sample_form ≡ false
unfolding sample_form has_feed
sample-plain = refl

-- the numbers of the first line, by what the form finds
line-numbers : (l : List ℕ) → numbers_of sample_form (first_line l) ≡ whole (line_form (take_form sample_form l))
line-numbers l = numbers-whole sample_form (first_line l) ∙ ap whole (form-line sample_form l sample-plain)

not-ended : (t : Bool) (o : Option (List ℤ)) → o ≡ none → cond t o none ≡ none
not-ended true o e = e
not-ended false o e = refl

-- an ended sample line begins at `at`, and its line feed stands at the match's end
pub record EndedAt (s : List ℕ) (at : ℕ) (m : Match) : Type 0 where
  pub numbers : List ℤ
  pub line : numbers_of sample_form (first_line (drop at s)) ≡ some numbers
  pub ended : has_feed (drop at s) ≡ true
  pub stored : m.n ≡ padded numbers
  pub place : m.next ≡ at + length (first_line (drop at s))

-- the form finds nothing
pub at-nothing : (s : List ℕ) (at : ℕ) → take_form sample_form (drop at s) ≡ none → ended_sample (drop at s) ≡ none
at-nothing s at q = not-ended (has_feed (drop at s)) _ (line-numbers (drop at s) ∙ rw q)

module _ (s : List ℕ) (at : ℕ) (m : Match) (inside : at ≤ length s) (e : Matched (take_form sample_form (drop at s)) s m) where
  plain : Plain (drop at s) (drop m.next s)
  plain = form-plain sample_form (drop at s) (record { numbers = e.numbers; rest = drop m.next s }) sample-plain e.same

  pub at-feed : m.next < length s → get_or s m.next 0 ≡ feed → EndedAt s at m
  unfolding first_line has_feed
  at-feed h b =
      let rest : drop m.next s ≡ get_or s m.next 0 ∷ drop (suc m.next) s = drop-cons s m.next 0 h in
      let empty : first_line (drop m.next s) ≡ [] = rw (rest, eq-eqb _ feed b) in
      let size = rest-length plain in
      record {
        numbers = e.numbers;
        line = line-numbers (drop at s) ∙ rw (e.same, empty);
        ended = rest-feed plain ∙ rw (rest, eq-eqb _ feed b);
        stored = e.stored;
        place = omega (arith, size, ap length empty, length-drop at s, length-drop m.next s);
      }

  pub at-past : length s ≤ m.next → ended_sample (drop at s) ≡ none
  unfolding has_feed
  at-past h =
      let over : drop m.next s ≡ [] = drop_of_length-le s h in
      let none_left : has_feed (drop at s) ≡ false = rest-feed plain ∙ rw over in
      rw none_left

  pub at_other : m.next < length s → (get_or s m.next 0 ≡ feed → ⊥) → ended_sample (drop at s) ≡ none
  unfolding first_line
  at_other h b =
      let rest : drop m.next s ≡ get_or s m.next 0 ∷ drop (suc m.next) s = drop-cons s m.next 0 h in
      not-ended (has_feed (drop at s)) _ (line-numbers (drop at s) ∙ rw (e.same, rest, ne_eqb _ feed b))

-- what the contract says, where there is a line and where there is none
pub sample-found : (s : List ℕ) (at : ℕ) (m : Match) (slice : List ℕ) → EndedAt s at m → slice ≡ map nat_abs (take 7 m.n)
    → Some (record { next = m.next + 1; slice = slice }) ≡ sample_at s at
unfolding sample_at
sample-found s at m slice e q =
    rw (e.ended, e.line, ← e.place, q, e.stored, sample-seven (first_line (drop at s)) e.numbers e.line)

pub sample-none : (s : List ℕ) (at : ℕ) → ended_sample (drop at s) ≡ none → None ≡ sample_at s at
unfolding sample_at
sample-none s at e = rw e
