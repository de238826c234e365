-- Shares (spec 6.14) of two ramp counts that grow alike: with a ramp of at most 60000 steps the share moves at least once in six, so that counts
-- whose shares agree for five steps more are equal. And what a step makes of a ramp count, and of two whose shares agree.
-- Assumes nothing.
use mathlib.Core.Path.{◌≡◌, refl, sym, ap, ◌∙◌, subst}
use mathlib.Core.Bool.{Bool, true, false, cond}
use mathlib.Core.Logic.{◌⊎◌, inl, inr, ⊎_elim}
use Prim.Native.Nat.{ℕ, zero, suc, ◌+◌, ◌*◌, ◌/◌, ◌≤◌, ◌<◌, min, zero-le}
use native.Mathlib.Nat.{le_trans, le_of_eq, zero-add, suc-mul, mul-div_cancel, div-mul-le_self, le-div_iff_mul-le, div-lt_iff_lt-mul}
use native.Mathlib.Omega.{arith}
use lib.Dec.{leb, ltb, eqb, leb→le, le→leb}
use borrow.Author.Tests.{leb-true, leb-false, ltb-true, ltb-false, eqb-true, eqb-false}
use Rattle.rules.specs.Service.{ramped}
use Rattle.basics.proofs.Bools.{bool-ext, eqb-min}

-- the share of a count of steps, cut at the ramp length
abbrev pub share_at : ℕ → ℕ → ℕ
share_at len n = 10000 * min len n / len

-- shares of two counts are equal, now and while both grow by up to so many steps
abbrev pub SharesAgree : ℕ → ℕ → ℕ → ℕ → Type 0
SharesAgree most len a b = (k : ℕ) → k ≤ most → share_at len (k + a) ≡ share_at len (k + b)

-- ---- one share

module _ (len : ℕ) (low : 1 ≤ len) where
  share-rises : (a b : ℕ) → a ≤ b → share_at len a ≤ share_at len b
  share-rises a b h = (le-div_iff_mul-le low).1 (le_trans (div-mul-le_self (10000 * min len a) len) (omega arith))

  -- the share is 10000 exactly when the ramp is full
  share-full : (a : ℕ) → len ≤ a → share_at len a ≡ 10000
  share-full a h = let m : min len a ≡ len = omega arith in ap (λ (n : ℕ). 10000 * n / len) m ∙ mul-div_cancel 10000 low

  share-short : (a : ℕ) → a < len → share_at len a < 10000
  share-short a h = (div-lt_iff_lt-mul low).1 (omega arith)

  share-carry : (a b : ℕ) → share_at len a ≡ share_at len b → len ≤ a → len ≤ b
  share-carry a b e h = by (leb len b) refl
    where
      by : (t : Bool) → leb len b ≡ t → len ≤ b
      by true t = leb-true len b t
      by false t = absurd (omega (arith, share-full a h, e, share-short b (leb-false len b t)))

  -- six steps move it, where the ramp is not longer than 60000
  six-move : len ≤ 60000 → (a : ℕ) → a < len → share_at len a < share_at len (6 + a)
  six-move high a h = by (leb len (6 + a)) refl
    where
      by : (t : Bool) → leb len (6 + a) ≡ t → share_at len a < share_at len (6 + a)
      by true t = subst (λ (n : ℕ). share_at len a < n) (sym (share-full (6 + a) (leb-true len (6 + a) t))) (share-short a h)
      by false t =
          let less = leb-false len (6 + a) t in
          let left = div-mul-le_self (10000 * min len a) len in
          (le-div_iff_mul-le low).1 (le_trans (le_of_eq (suc-mul (share_at len a) len)) (omega (arith, left)))

  -- ---- two counts

  no-lag : len ≤ 60000 → (a b : ℕ) → a < b → a < len → ¬ SharesAgree 5 len a b
  no-lag high a b h short f =
      let move = six-move high a short in
      absurd (omega (arith, move, stays 6 (omega arith)))
    where
      stays : (j : ℕ) → j ≤ 6 → share_at len (j + a) ≤ share_at len a
      stays zero l = le_of_eq (ap (share_at len) (omega arith))
      stays (suc j) l = le_trans (share-rises (suc j + a) (j + b) (omega arith)) (le_trans (le_of_eq (sym (f j (omega arith)))) (stays j (omega arith)))

  keeps-up : len ≤ 60000 → (a b : ℕ) → SharesAgree 5 len a b → min len b ≤ min len a
  keeps-up high a b f = by (leb len a) (ltb a b) refl refl
    where
      by : (full behind : Bool) → leb len a ≡ full → ltb a b ≡ behind → min len b ≤ min len a
      by true behind p q = omega (arith, leb-true len a p)
      by false true p q = absurd (no-lag high a b (ltb-true a b q) (leb-false len a p) f)
      by false false p q = omega (arith, ltb-false a b q)

  -- counts whose shares agree for five steps more are equal, cut at the ramp length
  same-ramp : len ≤ 60000 → (a b : ℕ) → SharesAgree 5 len a b → min len a ≡ min len b
  same-ramp high a b f = omega (arith, keeps-up high a b f, keeps-up high b a (λ k l. sym (f k l)))

-- ---- where two functions that do not agree up to n differ

agree-or-differ : (n : ℕ) (f g : ℕ → ℕ) → ((k : ℕ) → k ≤ n → f k ≡ g k) ⊎ ((k : ℕ) × (k ≤ n) × ¬ (f k ≡ g k))
agree-or-differ zero f g = by (eqb (f 0) (g 0)) refl
  where
    by : (t : Bool) → eqb (f 0) (g 0) ≡ t → ((k : ℕ) → k ≤ 0 → f k ≡ g k) ⊎ ((k : ℕ) × (k ≤ 0) × ¬ (f k ≡ g k))
    by true t = inl (λ k l. let z : 0 ≡ k = omega arith in subst (λ (m : ℕ). f m ≡ g m) z (eqb-true (f 0) (g 0) t))
    by false t = inr (0, omega arith, eqb-false (f 0) (g 0) t)
agree-or-differ (suc n) f g = ⊎_elim (λ same. by same (eqb (f (suc n)) (g (suc n))) refl) (λ t. inr (t.0, omega (arith, t.1), t.2)) (agree-or-differ n f g)
  where
    by : ((k : ℕ) → k ≤ n → f k ≡ g k) → (t : Bool) → eqb (f (suc n)) (g (suc n)) ≡ t
        → ((k : ℕ) → k ≤ suc n → f k ≡ g k) ⊎ ((k : ℕ) × (k ≤ suc n) × ¬ (f k ≡ g k))
    by same true t = inl (λ k l. last k l (leb k n) refl)
      where
        last : (k : ℕ) → k ≤ suc n → (u : Bool) → leb k n ≡ u → f k ≡ g k
        last k l true u = same k (leb-true k n u)
        last k l false u = let z : suc n ≡ k = omega (arith, leb-false k n u) in subst (λ (m : ℕ). f m ≡ g m) z (eqb-true (f (suc n)) (g (suc n)) t)
    by same false t = inr (suc n, omega arith, eqb-false (f (suc n)) (g (suc n)) t)

-- two ramp counts that differ show different shares within five steps
pub ramps-apart : (len : ℕ) → 1 ≤ len → len ≤ 60000 → (a b : ℕ) → ¬ (min len a ≡ min len b)
    → (k : ℕ) × (k ≤ 5) × ¬ (share_at len (k + a) ≡ share_at len (k + b))
ramps-apart len low high a b d =
    ⊎_elim (λ f. absurd (d (same-ramp len low high a b f))) (λ t. t) (agree-or-differ 5 (λ k. share_at len (k + a)) (λ k. share_at len (k + b)))

-- ---- after a step (spec 5.4, 6.11, 6.12)

-- a ramp count is read as, and stays, at most the ramp length
pub read-top : (was : Bool) (len old : ℕ) → cond was (min len old) 0 ≤ len
read-top true len old = omega arith
read-top false len old = omega arith

pub ramp-top : (was on continuous : Bool) (len n : ℕ) → n ≤ len → ramped was on continuous len n ≤ len
ramp-top was false continuous len n h = omega arith
ramp-top false true continuous len n h = omega arith
ramp-top true true true len n h = omega arith
ramp-top true true false len n h = h

-- shares that agree for a while do so as the counts are read, and for one step less after a step, whatever it is
pub read-agree : (was : Bool) (most len a b : ℕ) → SharesAgree most len a b → SharesAgree most len (cond was (min len a) 0) (cond was (min len b) 0)
read-agree false most len a b f k l = refl
read-agree true most len a b f k l = sym (cut a) ∙ f k l ∙ cut b
  where
    cut : (n : ℕ) → share_at len (k + n) ≡ share_at len (k + min len n)
    cut n = let m : min len (k + n) ≡ min len (k + min len n) = omega arith in ap (λ (i : ℕ). 10000 * i / len) m

pub ramped-agree : (was on continuous : Bool) (most len a b : ℕ) → SharesAgree (suc most) len a b
    → SharesAgree most len (ramped was on continuous len a) (ramped was on continuous len b)
ramped-agree was false continuous most len a b f k l = refl
ramped-agree false true continuous most len a b f k l = refl
ramped-agree true true false most len a b f k l = f k (omega arith)
ramped-agree true true true most len a b f k l = sym (grown a) ∙ f (suc k) (omega arith) ∙ grown b
  where
    grown : (n : ℕ) → share_at len (suc k + n) ≡ share_at len (k + min len (suc n))
    grown n = let m : min len (suc k + n) ≡ min len (k + min len (suc n)) = omega arith in ap (λ (i : ℕ). 10000 * i / len) m

-- ---- two counts whose shares agree

pub agree-now : (most len a b : ℕ) → SharesAgree most len a b → share_at len a ≡ share_at len b
agree-now most len a b f = ap (share_at len) (sym (zero-add a)) ∙ f 0 zero-le ∙ ap (share_at len) (zero-add b)

-- they are full alike
pub full-alike : (len a b : ℕ) → 1 ≤ len → share_at len a ≡ share_at len b → eqb (min len a) len ≡ eqb (min len b) len
full-alike len a b low e =
    eqb-min len a
    ∙ bool-ext (leb len a) (leb len b) (λ t. le→leb len b (share-carry len low a b e (leb→le len a t)))
    (λ t. le→leb len a (share-carry len low b a (sym e) (leb→le len b t)))
    ∙ sym (eqb-min len b)

-- a count within the ramp is not cut
pub uncut : (len n : ℕ) → n ≤ len → min len n ≡ n
uncut len n h = omega arith
