-- A run of digits, byte by byte: what is left of it, its value so far, and what it is when it stops.
-- Assumes nothing.
use mathlib.Core.Path.{◌≡◌, refl, sym, ap, ◌∙◌}
use mathlib.Core.Bool.{false}
use mathlib.Core.List.{List, [], ◌∷◌}
use Prim.Native.Nat.{ℕ, suc, ◌+◌, ◌-◌, ◌*◌, ◌≤◌, ◌<◌, min}
use native.Mathlib.Decide.{dec_le}
use native.Mathlib.Nat.{sub_self}
use native.Mathlib.Numerals.{add-one}
use native.Mathlib.Omega.{arith}
use lib.ListN.{length, get_or, drop, drop_of_length-le}
use lib.Seq.{drop-cons}
use Rattle.rules.specs.Text.{is_digit, leading_digits, after_digits, value_after}
use Rattle.formats.proofs.Digits.{IsDigit, is-digit, leading-more, leading-none, after_more, after_none, tens, tens-mono}
use Rattle.numerals.specs.Places.{DigitsAt}

-- the digits from `at` on are those up to i, with the value v, and those from i on
pub record Run (s : List ℕ) (at v i : ℕ) : Type 0 where
  pub from : at ≤ i
  pub count : length (leading_digits (drop at s)) ≡ i - at + length (leading_digits (drop i s))
  pub value : value_after 0 (leading_digits (drop at s)) ≡ value_after v (leading_digits (drop i s))
  pub rest : after_digits (drop at s) ≡ after_digits (drop i s)
  pub below : v < tens (i - at)

pub run-start : (s : List ℕ) (at : ℕ) → Run s at 0 at
run-start s at =
    let none : at - at ≡ 0 = sub_self at in
    record { from = omega arith; count = omega arith; value = refl; rest = refl; below = rw none (omega arith) }

module _ (s : List ℕ) (at v i : ℕ) (r : Run s at v i) where
  pub run_more : i < length s → IsDigit (get_or s i 0) → Run s at (v * 10 + (get_or s i 0 - 48)) (i + 1)
  unfolding value_after
  run_more h d =
      let t = is-digit (get_or s i 0) d in
      let next : leading_digits (drop i s) ≡ get_or s i 0 ∷ leading_digits (drop (i + 1) s) = rw (drop-cons s i 0 h, add-one, leading-more _ _ t) in
      let size = ap length next in
      let one : i + 1 - at ≡ suc (i - at) = omega (arith, r.from) in
      record {
        from = omega (arith, r.from);
        count = omega (arith, r.count, size, one);
        value = r.value ∙ ap (value_after v) next;
        rest = r.rest ∙ rw (drop-cons s i 0 h, add-one, after_more _ _ t);
        below = rw one (omega (arith, r.below, d.high));
      }

  -- the run has stopped at i, before its eighth digit
  pub run-stops : i ≤ length s → i - at ≤ 7 → leading_digits (drop i s) ≡ [] → after_digits (drop i s) ≡ drop i s → DigitsAt s at (record { value = v; next = i })
  unfolding value_after
  run-stops h small none same =
      let size = ap length none in
      record {
        from = r.from;
        inside = h;
        count = omega (arith, r.count, size);
        value = λ _. sym (r.value ∙ ap (value_after v) none);
        rest = λ _. sym (r.rest ∙ same);
      }

  -- at a byte that is no digit
  pub run-other : i < length s → i - at ≤ 7 → is_digit (get_or s i 0) ≡ false → DigitsAt s at (record { value = v; next = i })
  run-other h small t = run-stops (omega arith) small (rw (drop-cons s i 0 h, leading-none _ _ t)) (rw (drop-cons s i 0 h, after_none _ _ t))

  -- at the end of the text
  run_past : i ≤ length s → length s ≤ i → i - at ≤ 7 → DigitsAt s at (record { value = v; next = i })
  unfolding leading_digits after_digits
  run_past h past small = run-stops h small (rw (drop_of_length-le s past)) (rw (drop_of_length-le s past))

  -- with its seventh digit
  run-full : i ≤ length s → i - at ≡ 7 → DigitsAt s at (record { value = v; next = i })
  run-full h seven =
      record {
        from = r.from;
        inside = h;
        count = omega (arith, r.count);
        value = λ l. absurd (omega arith);
        rest = λ l. absurd (omega arith);
      }

  -- at the last place that is looked at
  pub run_ends : (end : ℕ) → end ≡ at + min (length s - at) 7 → i ≡ end → at ≤ length s → DigitsAt s at (record { value = v; next = end })
  run_ends end e here inside = rw (← here) (by_end (dec_le (length s) i))
    where
      by_end : Dec (length s ≤ i) → DigitsAt s at (record { value = v; next = i })
      by_end (yes past) = run_past (omega arith) past (omega arith)
      by_end (no before) = run-full (omega arith) (omega (arith, before))

  -- the value fits while the run is short
  pub run-below : i - at ≤ 7 → v < 10000000
  run-below h = omega (arith, r.below, tens-mono (i - at) 7 h)
