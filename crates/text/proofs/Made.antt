-- What the fourteen forms have in common, by one computed test: at most eight numbers, apart from each other, lines of at most
-- 128 bytes, and no line feed. And the law that follows: no longer line has any of the forms.
-- Assumes nothing.
use mathlib.Core.Path.{◌≡◌, refl, ap}
use mathlib.Core.Bool.{Bool, true, ◌&&◌, not}
use mathlib.Core.List.{List, [], ◌∷◌, map}
use mathlib.Core.Option.{Option, none, some}
use Prim.Native.Nat.{ℕ, zero, suc, ◌+◌, ◌*◌, ◌≤◌, ◌<◌}
use native.Mathlib.Omega.{arith}
use borrow.Author.Tests.{leb-true}
use lib.Dec.{leb}
use lib.IntN.{ℤ}
use lib.ListN.{length, get_or}
use Rattle.rules.specs.Tests.{all, within}
use Rattle.rules.specs.Text.{has_feed}
use Rattle.rules.specs.Forms.{sheet_forms, sample_form, numbers_of}
use Rattle.formats.specs.Marks.{marks, forms, form_at}
use Rattle.basics.proofs.Bools.{both}
use Rattle.formats.proofs.Forms.{separated, line-written, written-length}
use Rattle.text.specs.Forms.{longest}

-- ---- one test for all forms

abbrev made : List ℕ → Bool
made f = leb (marks f) 8 && (separated f && (leb (length f + 6 * marks f) longest && not (has_feed f)))

at_all : (fs : List (List ℕ)) → all (map made fs) ≡ true → made [] ≡ true → (i : ℕ) → made (get_or fs i []) ≡ true
unfolding all
at_all [] e z i = z
at_all (f ∷ fs) e z zero = (both (made f) (all (map made fs)) e).0
at_all (f ∷ fs) e z (suc i) = at_all fs (both (made f) (all (map made fs)) e).1 z i

form-made : (i : ℕ) → made (form_at i) ≡ true
unfolding forms sheet_forms sample_form all marks separated has_feed within
form-made i = at_all forms refl refl i

-- ---- what it says of each form

pub record Made (f : List ℕ) : Type 0 where
  pub few : marks f ≤ 8
  pub apart : separated f ≡ true
  pub short : length f + 6 * marks f ≤ longest
  pub plain : not (has_feed f) ≡ true

pub made_at : (i : ℕ) → Made (form_at i)
made_at i =
    let f = form_at i in
    let a = both (leb (marks f) 8) (separated f && (leb (length f + 6 * marks f) longest && not (has_feed f))) (form-made i) in
    let b = both (separated f) (leb (length f + 6 * marks f) longest && not (has_feed f)) a.1 in
    let d = both (leb (length f + 6 * marks f) longest) (not (has_feed f)) b.1 in
    record { few = leb-true _ _ a.0; apart = b.0; short = leb-true _ _ d.0; plain = d.1 }

-- ---- no line of a form is longer than 128 bytes

pub too_long : (i : ℕ) (line : List ℕ) → longest < length line → numbers_of (form_at i) line ≡ none
too_long i line h = by-numbers (numbers_of (form_at i) line) refl
  where
    by-numbers : (o : Option (List ℤ)) → numbers_of (form_at i) line ≡ o → o ≡ none
    by-numbers none e = refl
    by-numbers (some ns) e =
        let w = line-written (form_at i) line ns e in
        absurd (omega (arith, ap length w.text, written-length (form_at i) ns w.suit, (made_at i).short))
