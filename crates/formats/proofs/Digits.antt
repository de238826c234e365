-- Digits: those that a text begins with, and the numbers that they write.
-- Assumes nothing.
use mathlib.Core.Path.{◌≡◌, refl, sym, ◌∙◌, subst}
use mathlib.Core.Bool.{Bool, true, false, not, ◌||◌, or-false, or-true}
use mathlib.Core.List.{List, [], ◌∷◌, ◌++◌}
use Prim.Native.Nat.{ℕ, zero, suc, ◌+◌, ◌-◌, ◌*◌, ◌/◌, ◌%◌, ◌≤◌, ◌<◌}
use native.Mathlib.Omega.{arith}
use native.Mathlib.Nat.{zero-add, add-zero}
use borrow.Author.Tests.{leb-true, eqb-true, le-leb, lt-leb, le-ltb, eq-eqb}
use lib.Dec.{leb, ltb, eqb}
use lib.ListN.{length, get_or}
use Rattle.rules.specs.Tests.{within}
use Rattle.basics.proofs.Bools.{both}
use Rattle.rules.specs.Text.{is_digit, leading_digits, after_digits, value_after, well_formed, digits_before}

pub record IsDigit (b : ℕ) : Type 0 where
  pub low : 48 ≤ b
  pub high : b ≤ 57

pub data AllDigits : List ℕ → Type 0 where
  end : AllDigits []
  more : {b : ℕ} {ds : List ℕ} → IsDigit b → AllDigits ds → AllDigits (b ∷ ds)

pub digit-is : (b : ℕ) → is_digit b ≡ true → IsDigit b
unfolding within
digit-is b e = record { low = leb-true 48 b (both (leb 48 b) (leb b 57) e).0; high = leb-true b 57 (both (leb 48 b) (leb b 57) e).1 }

pub is-digit : (b : ℕ) → IsDigit b → is_digit b ≡ true
unfolding within
is-digit b d = rw (le-leb 48 b d.low, le-leb b 57 d.high)

pub below-digit : (b : ℕ) → b < 48 → is_digit b ≡ false
unfolding within
below-digit b h = rw (lt-leb 48 b h)

pub above-digit : (b : ℕ) → 57 < b → is_digit b ≡ false
unfolding within
above-digit b h = rw (le-leb 48 b (omega arith), lt-leb b 57 h)

-- ---- the digits that a text begins with

pub leading-more : (b : ℕ) (s : List ℕ) → is_digit b ≡ true → leading_digits (b ∷ s) ≡ b ∷ leading_digits s
unfolding leading_digits
leading-more b s e = rw e

pub leading-none : (b : ℕ) (s : List ℕ) → is_digit b ≡ false → leading_digits (b ∷ s) ≡ []
unfolding leading_digits
leading-none b s e = rw e

pub after_more : (b : ℕ) (s : List ℕ) → is_digit b ≡ true → after_digits (b ∷ s) ≡ after_digits s
unfolding after_digits
after_more b s e = rw e

pub after_none : (b : ℕ) (s : List ℕ) → is_digit b ≡ false → after_digits (b ∷ s) ≡ b ∷ s
unfolding after_digits
after_none b s e = rw e

pub leading-digits : (s : List ℕ) → AllDigits (leading_digits s)
unfolding leading_digits
leading-digits [] = end
leading-digits (b ∷ s) = by-test (is_digit b) refl (leading-digits s)
  where
    by-test : (t : Bool) → is_digit b ≡ t → AllDigits (leading_digits s) → AllDigits (leading_digits (b ∷ s))
    by-test true e r = subst AllDigits (sym (leading-more b s e)) (more (digit-is b e) r)
    by-test false e r = subst AllDigits (sym (leading-none b s e)) end

-- a text is its first digits and what follows them
pub leading-after : (s : List ℕ) → leading_digits s ++ after_digits s ≡ s
unfolding leading_digits after_digits
leading-after [] = refl
leading-after (b ∷ s) = by-test (is_digit b) refl (leading-after s)
  where
    by-test : (t : Bool) → is_digit b ≡ t → leading_digits s ++ after_digits s ≡ s → leading_digits (b ∷ s) ++ after_digits (b ∷ s) ≡ b ∷ s
    by-test true e r = rw (leading-more b s e, after_more b s e, r)
    by-test false e r = rw (leading-none b s e, after_none b s e)

-- a text whose first byte, if it has one, is no digit
pub data NoDigit : List ℕ → Type 0 where
  empty : NoDigit []
  other : {b : ℕ} {s : List ℕ} → is_digit b ≡ false → NoDigit (b ∷ s)

pub leading-append : {ds rest : List ℕ} → AllDigits ds → NoDigit rest → leading_digits (ds ++ rest) ≡ ds
unfolding leading_digits
leading-append end empty = refl
leading-append end (other {b} {s} e) = leading-none b s e
leading-append {rest = rest} (more {b} {ds} d r) n = rw (leading-more b (ds ++ rest) (is-digit b d), leading-append r n)

pub after-append : {ds rest : List ℕ} → AllDigits ds → NoDigit rest → after_digits (ds ++ rest) ≡ rest
unfolding after_digits
after-append end empty = refl
after-append end (other {b} {s} e) = after_none b s e
after-append {rest = rest} (more {b} {ds} d r) n = after_more b (ds ++ rest) (is-digit b d) ∙ after-append r n

-- ---- the number that digits write

-- one digit after those of a number above 0
digit-back : (d v k : ℕ) (after : List ℕ) → IsDigit d → 1 ≤ v → digits_before (suc k) (v * 10 + (d - 48)) after ≡ digits_before k v (d ∷ after)
unfolding digits_before
digit-back d v k after w h =
    let small : d - 48 < 10 = omega (arith, w.high) in
    let ten : ltb (v * 10 + (d - 48)) 10 ≡ false = le-ltb (v * 10 + (d - 48)) 10 (omega arith) in
    let quotient : (v * 10 + (d - 48)) / 10 ≡ v = omega arith in
    let last : 48 + (v * 10 + (d - 48)) % 10 ≡ d = omega (arith, w.low) in
    rw (ten, quotient, last)

-- digits after those of a number above 0, written back
pub written_back : (ds : List ℕ) (v k : ℕ) (after : List ℕ) → AllDigits ds → 1 ≤ v
    → digits_before (length ds + k) (value_after v ds) after ≡ digits_before k v (ds ++ after)
unfolding value_after
written_back [] v k after end h = rw zero-add
written_back (d ∷ ds) v k after (more w r) h =
    let more-than : 1 ≤ v * 10 + (d - 48) = omega arith in
    let count : suc (length ds) + k ≡ length ds + suc k = omega arith in
    rw count (written_back ds (v * 10 + (d - 48)) (suc k) after r more-than ∙ digit-back d v k (ds ++ after) w h)

-- ---- how large a number of k digits can be

abbrev pub tens : ℕ → ℕ
tens zero = 1
tens (suc k) = 10 * tens k

pub tens-mono : (j k : ℕ) → j ≤ k → tens j ≤ tens k
tens-mono zero zero h = omega arith
tens-mono zero (suc k) h = omega (arith, tens-mono zero k (omega arith))
tens-mono (suc j) zero h = absurd (omega arith)
tens-mono (suc j) (suc k) h = omega (arith, tens-mono j k (omega arith))

pub value-below : (ds : List ℕ) (v j : ℕ) → AllDigits ds → v < tens j → value_after v ds < tens (j + length ds)
unfolding value_after
value-below [] v j end h = rw add-zero h
value-below (d ∷ ds) v j (more w r) h =
    let step : v * 10 + (d - 48) < tens (suc j) = omega (arith, w.high) in
    let count : j + suc (length ds) ≡ suc j + length ds = omega arith in
    rw count (value-below ds (v * 10 + (d - 48)) (suc j) r step)

pub value-snoc : (ds : List ℕ) (v d : ℕ) → value_after v (ds ++ (d ∷ [])) ≡ value_after v ds * 10 + (d - 48)
unfolding value_after
value-snoc [] v d = refl
value-snoc (x ∷ ds) v d = value-snoc ds (v * 10 + (x - 48)) d

pub all_snoc : {ds : List ℕ} {d : ℕ} → AllDigits ds → IsDigit d → AllDigits (ds ++ (d ∷ []))
all_snoc end w = more w end
all_snoc (more x r) w = more x (all_snoc r w)

-- ---- well-formed digits

pub record WellFormed (ds : List ℕ) : Type 0 where
  pub some : 1 ≤ length ds
  pub most : length ds ≤ 6
  pub lead : get_or ds 0 0 ≡ 48 → length ds ≡ 1

pub well-formed : (ds : List ℕ) → well_formed ds ≡ true → WellFormed ds
unfolding well_formed within
well-formed ds e =
    let sizes = both (within 1 6 (length ds)) (eqb (length ds) 1 || not (eqb (get_or ds 0 0) 48)) e in
    let size = both (leb 1 (length ds)) (leb (length ds) 6) sizes.0 in
    record {
      some = leb-true 1 (length ds) size.0;
      most = leb-true (length ds) 6 size.1;
      lead = λ z. lone (length ds) (get_or ds 0 0) z sizes.1;
    }
  where
    lone : (n d : ℕ) → d ≡ 48 → (eqb n 1 || not (eqb d 48)) ≡ true → n ≡ 1
    lone n d z e = eqb-true n 1 (sym (or-false (eqb n 1)) ∙ (rw (eq-eqb d 48 z) at e))

pub formed-well : (ds : List ℕ) → WellFormed ds → well_formed ds ≡ true
unfolding well_formed within
formed-well ds w =
    rw (le-leb 1 (length ds) w.some, le-leb (length ds) 6 w.most) (either (eqb (get_or ds 0 0) 48) refl)
  where
    either : (t : Bool) → eqb (get_or ds 0 0) 48 ≡ t → (eqb (length ds) 1 || not (eqb (get_or ds 0 0) 48)) ≡ true
    either true e = rw (eq-eqb (length ds) 1 (w.lead (eqb-true _ 48 e)))
    either false e = rw e (or-true (eqb (length ds) 1))
