-- The fields of a sample line, read fast: a digit by exclusive or, a number, a number with the byte that closes it, and the bytes
-- before the first number.
-- Assumes nothing.
use mathlib.Core.Path.{◌≡◌, refl, sym, ap, ◌∙◌}
use mathlib.Core.Bool.{Bool, true, false}
use mathlib.Core.List.{List, [], ◌∷◌, ◌++◌}
use Prim.Native.Nat.{ℕ, ◌+◌, ◌-◌, ◌*◌, ◌/◌, ◌%◌, ◌≤◌, ◌<◌}
use native.Mathlib.Nat.{div-add-mod', mod-lt}
use native.Mathlib.Numerals.{add-one}
use native.Mathlib.Omega.{arith}
use borrow.Author.Tests.{eq-eqb}
use lib.Bits.{bit_xor, xor_block, xor_zero_r, xor_add_and, and_le_l, and_le_r}
use lib.IntN.{pos}
use lib.ListN.{length, get_or, take, drop, length-drop}
use lib.Dec.{eqb}
use lib.Seq.{drop-cons, take_all, drop-drop}
use Rattle.std.specs.List.{starts_with}
use Rattle.std.proofs.lemmas.Slice.Eq.{starts_is}
use Rattle.std.proofs.lemmas.Bool.Decides.{Decides-eqb}
use Rattle.rules.specs.Text.{is_digit}
use Rattle.rules.specs.Forms.{sample_form}
use Rattle.formats.specs.Marks.{is_mark}
use Rattle.formats.proofs.Digits.{IsDigit, digit-is}
use Rattle.numerals.proofs.Taking.{well-taken}
use Rattle.matching.specs.Forms.{after, take_form}
use Rattle.fastfields.specs.Fast.{FastDigits, FastNumber, FastField, HeadTaken}
use Rattle.fastfields.specs.declared.Found.{Found}

-- ---- a digit by exclusive or

-- 48 has none of the four low bits
xor-parts : (b : ℕ) → bit_xor b 48 ≡ bit_xor (b / 16) 3 * 16 + b % 16
xor-parts b =
    ap (λ (n : ℕ). bit_xor n 48) (sym (div-add-mod' b 16))
    ∙ xor_block 4 (b / 16) 3 (b % 16) 0 (mod-lt b (omega arith)) (omega arith)
    ∙ ap (λ (n : ℕ). bit_xor (b / 16) 3 * 16 + n) (xor_zero_r (b % 16))

pub xor-digit : (b : ℕ) → bit_xor b 48 ≤ 9 → IsDigit b
xor-digit b h =
    let h3 = xor_add_and (b / 16) 3 in
    record {
      low = omega (arith, xor-parts b, h3, and_le_l (b / 16) 3);
      high = omega (arith, xor-parts b, h3, and_le_r (b / 16) 3);
    }

pub xor-value : (b : ℕ) → IsDigit b → bit_xor b 48 ≡ b - 48
xor-value b d =
    let three : b / 16 ≡ 3 = omega (arith, d.low, d.high) in
    xor-parts b ∙ rw three (omega (arith, three))

pub xor-other : (b : ℕ) → 9 < bit_xor b 48 → is_digit b ≡ false
xor-other b h = by-test (is_digit b) refl
  where
    by-test : (t : Bool) → is_digit b ≡ t → t ≡ false
    by-test true e = absurd (omega (arith, xor-value b (digit-is b e), (digit-is b e).high))
    by-test false e = refl

-- ---- a form at a place of a text

-- a byte that stands for itself
pub byte-taken : (mark : ℕ) (form s : List ℕ) (at next : ℕ) → is_mark mark ≡ false → at < length s → get_or s at 0 ≡ mark → next ≡ at + 1
    → take_form (mark ∷ form) (drop at s) ≡ take_form form (drop next s)
unfolding take_form
byte-taken mark form s at next m h e n = rw (m, drop-cons s at 0 h, eq-eqb _ mark e, n, add-one at)

-- a run of digits without a leading zero
pub number-taken : (s : List ℕ) (at : ℕ) (d : Found) → FastDigits s at d → (get_or s at 0 ≡ 48 → d.next ≤ at + 1) → FastNumber s at d
number-taken s at d n lead =
    record {
      few = n.few;
      same = well-taken s at (record { value = d.value; next = d.next }) n.digits (omega (arith, n.any)) (omega (arith, n.few)) (λ z. omega (arith, lead z));
    }

-- a number and the byte that closes it
pub field-taken : (s : List ℕ) (at close : ℕ) (x : Found) → FastNumber s at x → is_mark close ≡ false → x.next < length s → get_or s x.next 0 ≡ close
    → FastField s at close (record { next = x.next + 1; value = x.value })
unfolding take_form
field-taken s at close x n m h e =
    record {
      few = omega (arith, n.few);
      same = λ form. rw n.same (ap (after (pos x.value ∷ [])) (byte-taken close form s x.next (x.next + 1) m h e refl));
    }

-- the bytes of the sample form before its first number
abbrev head : List ℕ
head = 40 ∷ 97 ∷ 116 ∷ 32 ∷ 40 ∷ []

pub head-taken : (s : List ℕ) (at : ℕ) (r : Bool) → r ≡ starts_with eqb (take (length s - at) (drop at s)) head → r ≡ true → HeadTaken s at
unfolding sample_form take_form
head-taken s at r e found =
    let whole : take (length s - at) (drop at s) ≡ drop at s = take_all (length s - at) (drop at s) (omega (arith, length-drop at s)) in
    let text : drop at s ≡ head ++ drop 5 (drop at s) = (starts_is Decides-eqb (drop at s) head r (e ∙ rw whole)).0 found in
    ap (λ (l : List ℕ). take_form sample_form l) text ∙ ap (λ (l : List ℕ). take_form (drop 5 sample_form) l) (drop-drop 5 at s)
