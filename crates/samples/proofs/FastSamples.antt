-- The fast reader of sample lines: the sample form number by number.
-- Assumes nothing.
use mathlib.Core.Path.{◌≡◌, refl, sym, ap, ◌∙◌}
use mathlib.Core.Bool.{Bool, true, false, cond, ◌||◌}
use mathlib.Core.List.{List, [], ◌∷◌, ◌++◌, map, append-nil, map-append, map-map, map-id}
use mathlib.Core.Option.{some}
use Prim.Native.Nat.{ℕ, zero, suc, ◌+◌, ◌-◌, ◌*◌, ◌≤◌, ◌<◌}
use native.Mathlib.Numerals.{add-one}
use native.Mathlib.Omega.{arith}
use borrow.Author.Tests.{eq-eqb, ne_eqb}
use lib.Dec.{eqb}
use lib.IntN.{ℤ, pos, nat_abs}
use lib.ListN.{length, get_or, take, drop, set, replicate, length-set, length-map}
use lib.Seq.{take_all, take_at, take-suc-set}
use Rattle.rules.specs.Text.{feed}
use Rattle.rules.specs.Forms.{number_mark, sample_form}
use Rattle.formats.specs.Marks.{is_mark}
use Rattle.std.specs.Prelude.{Some}
use Rattle.matching.specs.Forms.{after, take_form}
use Rattle.matching.specs.Places.{padded, Matched}
use Rattle.matching.specs.declared.Match.{Match}
use Rattle.matching.proofs.Matching.{after-none-before, after-after}
use Rattle.fastfields.specs.Fast.{FastField, HeadTaken, closing_byte}
use Rattle.fastfields.specs.declared.Found.{Found}
use Rattle.fastfields.proofs.Fields.{byte-taken}
use Rattle.samples.specs.Lines.{sample_at}
use Rattle.samples.proofs.Samples.{at-feed, sample-found}

-- ---- the sample form, number by number

-- the form from number k on
abbrev from : ℕ → List ℕ
from k = drop (get_or (5 ∷ 7 ∷ 9 ∷ 12 ∷ 14 ∷ 16 ∷ 18 ∷ []) k 20) sample_form

-- a space more stands after the third number
abbrev spaced : ℕ → List ℕ → List ℕ
spaced k form = cond (eqb k 2) (32 ∷ form) form

from-closing : (k : ℕ) → k < 7 → from k ≡ number_mark ∷ closing_byte k ∷ spaced k (from (k + 1))
unfolding sample_form
from-closing zero h = refl
from-closing (suc zero) h = refl
from-closing (suc (suc zero)) h = refl
from-closing (suc (suc (suc zero))) h = refl
from-closing (suc (suc (suc (suc zero)))) h = refl
from-closing (suc (suc (suc (suc (suc zero))))) h = refl
from-closing (suc (suc (suc (suc (suc (suc zero)))))) h = refl
from-closing (suc (suc (suc (suc (suc (suc (suc k))))))) h = absurd (omega arith)

pub closing-plain : (k : ℕ) → is_mark (closing_byte k) ≡ false
closing-plain k = by-test (eqb k 2 || eqb k 6)
  where
    by-test : (t : Bool) → is_mark (cond t 41 32) ≡ false
    by-test true = refl
    by-test false = refl

-- k numbers are stored, and the form from number k on stands against the text from `at` on
pub record SoFar (s : List ℕ) (start : ℕ) (slice : List ℕ) (k at : ℕ) : Type 0 where
  pub left : take_form sample_form (drop start s) ≡ after (map pos (take k slice)) (take_form (from k) (drop at s))
  pub size : length slice ≡ 7
  pub count : k ≤ 7
  pub bound : at ≤ start + 5 + 8 * k

pub fast-start : (s : List ℕ) (start : ℕ) → HeadTaken s start → SoFar s start (replicate 7 0) 0 (start + 5)
fast-start s start e =
    record {
      left = e ∙ sym (after-none-before (take_form (drop 5 sample_form) (drop (start + 5) s)));
      size = refl;
      count = omega arith;
      bound = omega arith;
    }

module _ (s : List ℕ) (start : ℕ) (slice : List ℕ) (k at : ℕ) (g : SoFar s start slice k at) (h : k < 7)
    (x : Found) (e : FastField s at (closing_byte k) x) where
  stored : take_form sample_form (drop start s) ≡ after (map pos (take (k + 1) (set slice k x.value))) (take_form (spaced k (from (k + 1))) (drop x.next s))
  stored =
      let longer : take (k + 1) (set slice k x.value) ≡ take k slice ++ (x.value ∷ [])
      = rw (add-one) (take-suc-set slice k x.value (omega (arith, g.size))) in
      g.left
      ∙ rw (from-closing k h, e.same (spaced k (from (k + 1))), longer, map-append pos (take k slice) (x.value ∷ []))
      (after-after (map pos (take k slice)) (pos x.value ∷ []) (take_form (spaced k (from (k + 1))) (drop x.next s)))

  next-from : (next : ℕ) → next ≤ at + 8 → take_form (spaced k (from (k + 1))) (drop x.next s) ≡ take_form (from (k + 1)) (drop next s)
      → SoFar s start (set slice k x.value) (k + 1) next
  next-from next l q =
      record {
        left = stored ∙ ap (after (map pos (take (k + 1) (set slice k x.value)))) q;
        size = length-set slice k x.value ∙ g.size;
        count = omega arith;
        bound = omega (arith, g.bound);
      }

  -- the next number follows at once, or after a space
  pub next-number : (k ≡ 2 → ⊥) → SoFar s start (set slice k x.value) (k + 1) x.next
  next-number other = next-from x.next (omega (arith, e.few)) (rw (ne_eqb k 2 other))

  pub next-spaced : k ≡ 2 → start + 64 ≤ length s → get_or s x.next 0 ≡ 32 → SoFar s start (set slice k x.value) (k + 1) (x.next + 1)
  next-spaced third room b =
      let inside : x.next < length s = omega (arith, g.bound, e.few) in
      next-from (x.next + 1) (omega (arith, e.few)) (rw (eq-eqb k 2 third) (byte-taken 32 (from (k + 1)) s x.next (x.next + 1) refl inside b refl))

-- ---- where the sample form ends

from_end : from 7 ≡ []
unfolding sample_form
from_end = refl

module _ (s : List ℕ) (start : ℕ) (slice : List ℕ) (k at : ℕ) (g : SoFar s start slice k at) (h : 7 ≤ k) where
  abbrev numbers : List ℤ
  numbers = map pos slice

  all-taken : take_form sample_form (drop start s) ≡ some (record { numbers = numbers; rest = drop at s })
  unfolding take_form
  all-taken =
      let seven : k ≡ 7 = omega (arith, g.count) in
      g.left ∙ rw (seven, from_end, take_all 7 slice (omega (arith, g.size)), append-nil)

  -- a line feed there ends the line
  pub fast-ends : start + 64 ≤ length s → get_or s at 0 ≡ feed → Some (record { next = at + 1; slice = slice }) ≡ sample_at s start
  fast-ends room b =
      let m : Match = record { next = at; n = padded numbers } in
      let inside : at < length s = omega (arith, g.bound, g.count) in
      let matched : Matched (take_form sample_form (drop start s)) s m = record { numbers = numbers; same = all-taken; stored = refl; inside = omega arith } in
      let seven : take 7 (padded numbers) ≡ numbers = take_at numbers (replicate (8 - length numbers) (pos 0)) 7 (length-map slice pos ∙ g.size) in
      sample-found s start m slice (at-feed s start m (omega arith) matched inside b) (rw (seven, map-map nat_abs pos slice, map-id slice))
