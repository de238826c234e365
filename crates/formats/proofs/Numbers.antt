-- A number of at most six digits is read exactly where it is written out, unsigned and by its mark.
-- Assumes nothing.
use mathlib.Core.Path.{◌≡◌, refl, sym, ap, ◌∙◌}
use mathlib.Core.Bool.{Bool, true, false, cond, ◌||◌}
use mathlib.Core.List.{List, [], ◌∷◌, ◌++◌, append-nil}
use mathlib.Core.Option.{Option, none, some, some-injective, none-ne-some}
use Prim.Native.Nat.{ℕ, zero, suc, ◌+◌, ◌-◌, ◌*◌, ◌/◌, ◌%◌, ◌≤◌, ◌<◌}
use native.Mathlib.Omega.{arith}
use native.Mathlib.Decide.{dec_le}
use native.Mathlib.Nat.{zero-add}
use borrow.Author.Tests.{leb-true, le-leb, eqb-true, ne_eqb}
use lib.Dec.{leb, eqb}
use lib.IntN.{ℤ, pos, negsuc}
use lib.ListN.{length, get_or, length-append, get_or-append}
use Rattle.rules.specs.Text.{minus, leading_digits, after_digits, value_after, well_formed, digits_before, decimal, signed_decimal, Taken, take_number, negated, take_signed}
use Rattle.rules.specs.Forms.{number_mark, signed_mark}
use Rattle.formats.specs.Marks.{is_mark, take_marked, fits}
use Rattle.basics.proofs.Bools.{both}
use Rattle.basics.proofs.Digits.{last-only}
use Rattle.formats.proofs.Digits.{IsDigit, AllDigits, end, more, NoDigit, WellFormed, well-formed, formed-well, written_back, value-below}
use Rattle.formats.proofs.Digits.{value-snoc, all_snoc, tens, tens-mono, leading-digits, leading-after, leading-append, after-append}

-- ---- decimal, and the digits that it writes

-- digits after the first, d, which is 0 only where no digit follows
after_first : (d : ℕ) (ds : List ℕ) → IsDigit d → AllDigits ds → length ds ≤ 19 → (d ≡ 48 → length ds ≡ 0)
    → digits_before 20 (value_after (d - 48) ds) [] ≡ d ∷ ds
unfolding value_after
after_first d [] x r h z = last-only 19 (d - 48) [] (omega (arith, x.high)) ∙ ap (λ (b : ℕ). b ∷ []) (omega (arith, x.low))
after_first d (e ∷ ds) x r h z =
    let above : (d ≡ 48 → ⊥) = λ q. omega (arith, z q) in
    let one : 1 ≤ d - 48 = omega (arith, x.low, above) in
    let same : 48 + (d - 48) ≡ d = omega (arith, x.low) in
    let count : 20 ≡ length (e ∷ ds) + suc (19 - length (e ∷ ds)) = omega arith in
    ap (λ (k : ℕ). digits_before k (value_after (d - 48) (e ∷ ds)) []) count
    ∙ written_back (e ∷ ds) (d - 48) (suc (19 - length (e ∷ ds))) [] r one
    ∙ last-only (19 - length (e ∷ ds)) (d - 48) ((e ∷ ds) ++ []) (omega (arith, x.high))
    ∙ rw (append-nil (e ∷ ds), same)

-- well-formed digits are what is written for their number
pub decimal-back : (ds : List ℕ) → AllDigits ds → WellFormed ds → decimal (value_after 0 ds) ≡ ds
unfolding decimal value_after
decimal-back [] end w = absurd (omega (arith, w.some))
decimal-back (d ∷ ds) (more x r) w = rw zero-add (after_first d ds x r (omega (arith, w.most)) (λ z. omega (arith, w.lead z)))

-- a number with at most k digits
record Numeral (k n : ℕ) : Type 0 where
  digits : List ℕ
  are : AllDigits digits
  first : 1 ≤ length digits
  most : length digits ≤ k
  lead : get_or digits 0 0 ≡ 48 → length digits ≡ 1
  value : value_after 0 digits ≡ n

digit : (n : ℕ) → n < 10 → Numeral 1 n
unfolding value_after
digit n h =
    let d : IsDigit (48 + n) = record { low = omega arith; high = omega arith } in
    record {
      digits = (48 + n) ∷ [];
      are = more d end;
      first = omega arith;
      most = omega arith;
      lead = λ _. refl;
      value = omega arith;
    }

wider : {j k n : ℕ} → j ≤ k → Numeral j n → Numeral k n
wider h d = record { digits = d.digits; are = d.are; first = d.first; most = omega (arith, d.most); lead = d.lead; value = d.value }

-- the first digit of a number above 0 is none
lead-value : (ds : List ℕ) → 1 ≤ value_after 0 ds → length ds ≡ 1 → get_or ds 0 0 ≡ 48 → ⊥
unfolding value_after
lead-value [] h l z = omega arith
lead-value (d ∷ []) h l z = omega arith
lead-value (d ∷ e ∷ ds) h l z = omega arith

-- one digit more
longer : {k : ℕ} (n : ℕ) → 10 ≤ n → Numeral k (n / 10) → Numeral (suc k) n
longer {k} n h d =
    let last : IsDigit (48 + n % 10) = record { low = omega arith; high = omega arith } in
    let size = length-append d.digits ((48 + n % 10) ∷ []) in
    record {
      digits = d.digits ++ ((48 + n % 10) ∷ []);
      are = all_snoc d.are last;
      first = omega (arith, size);
      most = omega (arith, size, d.most);
      lead = λ z. absurd (not-zero (rw (get_or-append d.digits ((48 + n % 10) ∷ []) 0 0 d.first) at z));
      value = value-snoc d.digits 0 (48 + n % 10) ∙ omega (arith, d.value);
    }
  where
    not-zero : get_or d.digits 0 0 ≡ 48 → ⊥
    not-zero z = lead-value d.digits (omega (arith, d.value)) (d.lead z) z

grown : (k n p : ℕ) → ((m : ℕ) → m < p → Numeral (suc k) m) → n < 10 * p → Numeral (suc (suc k)) n
grown k n p f h = by_size (dec_le 10 n)
  where
    by_size : Dec (10 ≤ n) → Numeral (suc (suc k)) n
    by_size (yes l) = longer n l (f (n / 10) (omega arith))
    by_size (no g) = wider (omega arith) (digit n (omega (arith, g)))

numeral : (k n : ℕ) → n < tens (suc k) → Numeral (suc k) n
numeral zero n h = digit n h
numeral (suc k) n h = grown k n (tens (suc k)) (numeral k) h

-- ---- numbers without a sign

-- what was read is the writing-out of a number
pub record IsWritten (s : List ℕ) (t : Taken) : Type 0 where
  pub number : ℕ
  pub small : number ≤ 999999
  pub value : t.value ≡ pos number
  pub text : s ≡ decimal number ++ t.rest

pub number-written : (s : List ℕ) (t : Taken) → take_number s ≡ some t → IsWritten s t
unfolding take_number
number-written s t e = by-test (well_formed ds) refl e
  where
    ds : List ℕ
    ds = leading_digits s

    by-test : (w : Bool) → well_formed ds ≡ w → cond w (some (record { value = pos (value_after 0 ds); rest = after_digits s })) none ≡ some t → IsWritten s t
    by-test false q e = let z : ◌≡◌ {A = ℕ} 0 1 = cc in absurd (omega arith)
    by-test true q e =
        let same = some-injective (record { value = pos (value_after 0 ds); rest = after_digits s }) t e in
        let below : value_after 0 ds < tens (0 + length ds) = value-below ds 0 0 (leading-digits s) (omega arith) in
        let most : tens (0 + length ds) ≤ tens 6 = tens-mono (0 + length ds) 6 (omega (arith, (well-formed ds q).most)) in
        record {
          number = value_after 0 ds;
          small = omega arith;
          value = ap (λ (u : Taken). u.value) (sym same);
          text = rw (decimal-back ds (leading-digits s) (well-formed ds q), ← same) (sym (leading-after s));
        }

decimal-numeral : (n : ℕ) (h : n ≤ 999999) → decimal n ≡ (numeral 5 n (omega arith)).digits
decimal-numeral n h =
    let d = numeral 5 n (omega arith) in
    rw d.value at (decimal-back d.digits d.are (record { some = d.first; most = d.most; lead = d.lead }))

pub decimal-digits : (n : ℕ) → n ≤ 999999 → AllDigits (decimal n)
decimal-digits n h = rw (decimal-numeral n h) (numeral 5 n (omega arith)).are

pub decimal-length : (n : ℕ) → n ≤ 999999 → length (decimal n) ≤ 6
decimal-length n h = rw (decimal-numeral n h) (numeral 5 n (omega arith)).most

pub written-number : (n : ℕ) (rest : List ℕ) → n ≤ 999999 → NoDigit rest
    → take_number (decimal n ++ rest) ≡ some (record { value = pos n; rest = rest })
unfolding take_number
written-number n rest h q =
    let d = numeral 5 n (omega arith) in
    let w : WellFormed d.digits = record { some = d.first; most = d.most; lead = d.lead } in
    rw (decimal-numeral n h, leading-append d.are q, after-append d.are q, formed-well d.digits w, d.value)

-- ---- numbers by their mark

pub record IsMarked (mark : ℕ) (s : List ℕ) (t : Taken) : Type 0 where
  pub text : s ≡ signed_decimal t.value ++ t.rest
  pub fit : fits mark t.value ≡ true

unsigned-marked : (mark : ℕ) (s : List ℕ) (t : Taken) → take_number s ≡ some t → IsMarked mark s t
unfolding signed_decimal
unsigned-marked mark s t e =
    let w = number-written s t e in
    record { text = rw w.value w.text; fit = rw w.value (le-leb w.number 999999 w.small) }

-- after a minus, what is read is not 0
negated-marked : (mark : ℕ) (s : List ℕ) (t : Taken) (o : Option Taken) → eqb mark signed_mark ≡ true → take_number s ≡ o → negated o ≡ some t
    → IsMarked mark (minus ∷ s) t
unfolding signed_decimal
negated-marked mark s t none m q e = absurd (none-ne-some t e)
negated-marked mark s t (some u) m q e = by_value u.value refl e
  where
    w : IsWritten s u
    w = number-written s u q

    by_value : (z : ℤ) → u.value ≡ z → negated (some (record { value = z; rest = u.rest })) ≡ some t → IsMarked mark (minus ∷ s) t
    by_value (pos zero) v e = absurd (none-ne-some t e)
    by_value (negsuc n) v e = absurd (none-ne-some t e)
    by_value (pos (suc n)) v e =
        let same = some-injective (record { value = negsuc n; rest = u.rest }) t e in
        let read : w.number ≡ suc n = cc w.value in
        let text : s ≡ decimal (suc n) ++ u.rest = rw read at w.text in
        let small : suc n ≤ 999999 = omega (arith, w.small) in
        record { text = rw (← same, ← text); fit = rw (← same, m, le-leb (suc n) 999999 small) }

signed-marked : (mark : ℕ) (s : List ℕ) (t : Taken) → eqb mark signed_mark ≡ true → take_signed s ≡ some t → IsMarked mark s t
unfolding take_signed
signed-marked mark [] t m e = absurd (none-ne-some t e)
signed-marked mark (b ∷ s) t m e = by-test (eqb b minus) refl e
  where
    by-test : (p : Bool) → eqb b minus ≡ p → cond p (negated (take_number s)) (take_number (b ∷ s)) ≡ some t → IsMarked mark (b ∷ s) t
    by-test true q e = rw (eqb-true b minus q) (negated-marked mark s t (take_number s) m refl e)
    by-test false q e = unsigned-marked mark (b ∷ s) t e

-- what is read in the place of a mark is the writing-out of a number that fits it
pub marked-written : (mark : ℕ) (s : List ℕ) (t : Taken) → is_mark mark ≡ true → take_marked mark s ≡ some t → IsMarked mark s t
marked-written mark s t m e = by-mark (eqb mark number_mark) m e
  where
    by-mark : (p : Bool) → (p || eqb mark signed_mark) ≡ true → cond p (take_number s) (take_signed s) ≡ some t → IsMarked mark s t
    by-mark true m e = unsigned-marked mark s t e
    by-mark false m e = signed-marked mark s t m e

pub signed-other : (b : ℕ) (s : List ℕ) → (b ≡ minus → ⊥) → take_signed (b ∷ s) ≡ take_number (b ∷ s)
unfolding take_signed
signed-other b s h = rw (ne_eqb b minus h)

-- a number's first byte is no minus
written-signed : (n : ℕ) (rest : List ℕ) → n ≤ 999999 → take_signed (decimal n ++ rest) ≡ take_number (decimal n ++ rest)
written-signed n rest h =
    let d = numeral 5 n (omega arith) in
    rw (decimal-numeral n h) (by_digits d.digits d.are d.first)
  where
    by_digits : (ds : List ℕ) → AllDigits ds → 1 ≤ length ds → take_signed (ds ++ rest) ≡ take_number (ds ++ rest)
    by_digits [] a l = absurd (omega arith)
    by_digits (b ∷ ds) (more x r) l = signed-other b (ds ++ rest) (λ e. omega (arith, x.low))

pub written-marked : (mark : ℕ) (n : ℤ) (rest : List ℕ) → is_mark mark ≡ true → fits mark n ≡ true → NoDigit rest
    → take_marked mark (signed_decimal n ++ rest) ≡ some (record { value = n; rest = rest })
unfolding signed_decimal take_signed
written-marked mark (pos n) rest m f q = by-mark (eqb mark number_mark)
  where
    small : n ≤ 999999
    small = leb-true n 999999 f

    by-mark : (p : Bool) → cond p (take_number (decimal n ++ rest)) (take_signed (decimal n ++ rest)) ≡ some (record { value = pos n; rest = rest })
    by-mark true = written-number n rest small q
    by-mark false = written-signed n rest small ∙ written-number n rest small q
written-marked mark (negsuc n) rest m f q =
    let both_hold = both (eqb mark signed_mark) (leb (suc n) 999999) f in
    let not_plain : eqb mark number_mark ≡ false = ne_eqb mark number_mark (λ e. omega (arith, eqb-true mark signed_mark both_hold.0)) in
    rw (not_plain, written-number (suc n) rest (leb-true (suc n) 999999 both_hold.1) q)
