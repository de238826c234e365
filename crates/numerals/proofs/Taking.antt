-- A number taken at a place: from its run of digits, and after a minus.
-- Assumes nothing.
use mathlib.Core.Path.{◌≡◌, refl, sym, ap, ◌∙◌}
use mathlib.Core.Bool.{Bool, true, false, cond}
use mathlib.Core.List.{List, [], ◌∷◌}
use mathlib.Core.Option.{Option, none, some}
use Prim.Native.Nat.{ℕ, zero, suc, ◌+◌, ◌-◌, ◌≤◌, ◌<◌}
use native.Mathlib.Nat.{add-zero}
use native.Mathlib.Numerals.{add-one}
use native.Mathlib.Omega.{arith}
use borrow.Author.Tests.{eq-eqb, ne_eqb}
use lib.IntN.{ℤ, pos, negsuc, neg_ℤ, nat_abs, pos-ne-negsuc}
use lib.ListN.{length, get_or, drop, drop_of_length-le}
use lib.Seq.{drop-cons, get_or-drop}
use mir.Syntax.{w32}
use mir.Val.{SFits}
use Rattle.rules.specs.Text.{minus, is_digit, leading_digits, after_digits, value_after, well_formed, Taken, take_number, negated, take_signed}
use Rattle.rules.specs.Forms.{number_mark}
use Rattle.rules.specs.Tests.{within}
use Rattle.formats.specs.Marks.{take_marked}
use Rattle.formats.proofs.Digits.{WellFormed, well-formed, formed-well, leading-digits, value-below, tens-mono}
use Rattle.formats.proofs.Numbers.{number-written, signed-other}
use Rattle.numerals.specs.Places.{DigitsAt, NumberTaken}
use Rattle.numerals.specs.declared.Digits.{Digits}
use Rattle.numerals.specs.declared.Number.{Number}

-- ---- from a run of digits

take_none : (l : List ℕ) → (WellFormed (leading_digits l) → ⊥) → take_number l ≡ none
unfolding take_number
take_none l ill = by-test (well_formed (leading_digits l)) refl
  where
    by-test : (t : Bool) → well_formed (leading_digits l) ≡ t
        → cond {A = Option Taken} t (some (record { value = pos (value_after 0 (leading_digits l)); rest = after_digits l })) none ≡ none
    by-test true e = absurd (ill (well-formed (leading_digits l) e))
    by-test false e = refl

lead-byte : (l : List ℕ) → 1 ≤ length (leading_digits l) → get_or (leading_digits l) 0 0 ≡ get_or l 0 0
unfolding leading_digits
lead-byte [] h = refl
lead-byte (b ∷ l) h = by-test (is_digit b) h
  where
    by-test : (t : Bool) → 1 ≤ length (cond t (b ∷ leading_digits l) []) → get_or (cond t (b ∷ leading_digits l) []) 0 0 ≡ b
    by-test true h = refl
    by-test false h = absurd (omega arith)

module _ (s : List ℕ) (at : ℕ) (r : Digits) (d : DigitsAt s at r) where
  first_byte : 1 ≤ r.next - at → get_or (leading_digits (drop at s)) 0 0 ≡ get_or s at 0
  first_byte h = lead-byte (drop at s) (omega (arith, d.count)) ∙ get_or-drop at s 0 0 ∙ ap (λ (k : ℕ). get_or s k 0) (add-zero at)

  -- no digit, or seven
  pub not_counted : (1 ≤ r.next - at → 6 < r.next - at) → take_number (drop at s) ≡ none
  not_counted h = take_none (drop at s) (λ w. omega (arith, d.count, w.most, h (omega (arith, d.count, w.some))))

  pub leading-zero : 1 < r.next - at → get_or s at 0 ≡ 48 → take_number (drop at s) ≡ none
  leading-zero h z = take_none (drop at s) (λ w. omega (arith, d.count, w.lead (first_byte (omega arith) ∙ z)))

  pub value-small : r.next - at ≤ 6 → r.value ≤ 999999
  value-small h =
      let ds = leading_digits (drop at s) in
      omega (arith, d.value h, d.count, value-below ds 0 0 (leading-digits (drop at s)) (omega arith), tens-mono (0 + length ds) 6 (omega (arith, d.count)))

  pub well-taken : 1 ≤ r.next - at → r.next - at ≤ 6 → (get_or s at 0 ≡ 48 → r.next - at ≤ 1)
      → take_number (drop at s) ≡ some (record { value = pos r.value; rest = drop r.next s })
  unfolding take_number
  well-taken one six lead =
      let w : WellFormed (leading_digits (drop at s))
      = record { some = omega (arith, d.count); most = omega (arith, d.count); lead = λ z. omega (arith, d.count, lead (sym (first_byte one) ∙ z)) } in
      rw (formed-well (leading_digits (drop at s)) w, ← d.value six, ← d.rest six)

-- ---- after a minus

-- six digits fit an i32, with either sign
pub small-fits : (z : ℤ) → nat_abs z ≤ 999999 → SFits w32 z
small-fits (pos n) h = record { sfits = omega arith }
small-fits (negsuc n) h = record { sfits = omega arith }

pub small-negated : (z : ℤ) → nat_abs z ≤ 999999 → nat_abs (neg_ℤ z) ≤ 999999
small-negated (pos zero) h = omega arith
small-negated (pos (suc n)) h = h
small-negated (negsuc n) h = h

module _ (l s : List ℕ) (x : Number) (k : NumberTaken (take_number l) s x) where
  pub negated-zero : x.value ≡ pos 0 → negated (take_number l) ≡ none
  negated-zero e = ap negated k.same ∙ rw e

  pub negated-some : (x.value ≡ pos 0 → ⊥) → NumberTaken (negated (take_number l)) s (record { value = neg_ℤ x.value; next = x.next })
  negated-some other =
      record { same = ap negated k.same ∙ by_value x.value refl; inside = k.inside; small = small-negated x.value k.small }
    where
      by_value : (z : ℤ) → x.value ≡ z
          → negated (some (record { value = z; rest = drop x.next s })) ≡ some (record { value = neg_ℤ z; rest = drop x.next s })
      by_value (pos zero) q = absurd (other q)
      by_value (pos (suc n)) q = refl
      by_value (negsuc n) q = absurd (pos-ne-negsuc _ _ (sym (number-written l _ k.same).value ∙ q))

-- ---- by the mark

pub marked-number : (mark : ℕ) (l : List ℕ) → mark ≡ number_mark → take_marked mark l ≡ take_number l
marked-number mark l e = rw (eq-eqb mark number_mark e)

module _ (mark : ℕ) (s : List ℕ) (at : ℕ) (signed : mark ≡ number_mark → ⊥) where
  pub marked-minus : at < length s → get_or s at 0 ≡ minus → take_marked mark (drop at s) ≡ negated (take_number (drop (at + 1) s))
  unfolding take_signed
  marked-minus h e = rw (ne_eqb mark number_mark signed, drop-cons s at 0 h, eq-eqb _ minus e, add-one)

  -- a number without a minus
  pub marked_other : at < length s → (get_or s at 0 ≡ minus → ⊥) → take_marked mark (drop at s) ≡ take_number (drop at s)
  marked_other h other = rw (ne_eqb mark number_mark signed, drop-cons s at 0 h) (signed-other (get_or s at 0) (drop (suc at) s) other)

  pub marked-past : length s ≤ at → take_marked mark (drop at s) ≡ take_number (drop at s)
  unfolding take_signed take_number well_formed within leading_digits
  marked-past h = rw (ne_eqb mark number_mark signed, drop_of_length-le s h)
