-- The place of the first test that passes: that test passes and none before it; and where one passes there is such a place.
-- Assumes nothing.
use mathlib.Core.Path.{◌≡◌, refl, ◌∙◌}
use mathlib.Core.Bool.{Bool, true, false, false≢true}
use mathlib.Core.List.{List, [], ◌∷◌, map}
use Prim.Native.Nat.{ℕ, zero, suc, ◌+◌, ◌≤◌, ◌<◌}
use native.Mathlib.Nat.{not-suc-le-zero, le_of_suc-le-suc, add-zero, add-suc, suc-add}
use native.Mathlib.Omega.{arith}
use lib.ListN.{length, get_or}
use Rattle.rules.specs.Tests.{any}
use Rattle.rules.specs.Samples.{Equipment}
use Rattle.rules.specs.Counters.{Rule, Kind, undervoltage, limit_rule, limit_rules}
use Rattle.rules.specs.declared.Settings.{Settings}
use Rattle.statusrules.specs.StatusRules.{first_place}

-- the test at this place passes, and none before it does
pub record IsFirst (tests : List Bool) (i : ℕ) : Type 0 where
  pub passes : get_or tests i false ≡ true
  pub none_before : (j : ℕ) → j < i → get_or tests j false ≡ false

-- ---- from the test to its place

pub place_of : (n i : ℕ) (tests : List Bool) → IsFirst tests i → first_place n tests ≡ n + i
place_of n i [] f = absurd (false≢true f.passes)
place_of n zero (t ∷ ts) f = rw f.passes (omega arith)
place_of n (suc i) (t ∷ ts) f =
    rw (f.none_before 0 (omega arith))
    (place_of (suc n) i ts (record { passes = f.passes; none_before = λ j l. f.none_before (suc j) (omega arith) }) ∙ omega arith)

-- ---- from the place to the test

later : (n : ℕ) (tests : List Bool) → first_place n tests < n → first_place n tests ≡ 0
later n [] l = refl
later n (true ∷ ts) l = absurd (omega arith)
later n (false ∷ ts) l = later (suc n) ts (omega (arith, l))

pub test_at : (n i : ℕ) (tests : List Bool) → 0 < n → first_place n tests ≡ n + i → IsFirst tests i
test_at n i [] some e = absurd (omega arith)
test_at n zero (true ∷ ts) some e = record { passes = refl; none_before = λ j l. absurd (not-suc-le-zero l) }
test_at n (suc i) (true ∷ ts) some e = absurd (omega arith)
test_at n zero (false ∷ ts) some e =
    let here : first_place (suc n) ts ≡ n = e ∙ add-zero n in
    absurd (omega (arith, here, some, later (suc n) ts (omega (arith, here))))
test_at n (suc i) (false ∷ ts) some e =
    let f = test_at (suc n) i ts (omega arith) (e ∙ omega arith) in
    record { passes = f.passes; none_before = before f }
  where
    before : IsFirst ts i → (j : ℕ) → j < suc i → get_or (false ∷ ts) j false ≡ false
    before f zero l = refl
    before f (suc j) l = f.none_before j (le_of_suc-le-suc l)

-- ---- there is one

pub some-place : (n : ℕ) (tests : List Bool) → any tests ≡ true → (n ≤ first_place n tests) × (first_place n tests < n + length tests)
unfolding any
some-place n [] a = absurd (false≢true a)
some-place n (true ∷ ts) a = (omega arith, omega arith)
some-place n (false ∷ ts) a = let k = some-place (suc n) ts a in (omega (arith, k.0), omega (arith, k.1))

-- one that passes
pub any_at : (tests : List Bool) (i : ℕ) → get_or tests i false ≡ true → any tests ≡ true
unfolding any
any_at [] i p = absurd (false≢true p)
any_at (t ∷ ts) zero p = rw p refl
any_at (true ∷ ts) (suc i) p = refl
any_at (false ∷ ts) (suc i) p = any_at ts i p

-- ---- the tests of the limits

pub limit-test : (g : Rule → Bool) (e : Equipment) (st : Settings) (i : ℕ) (ks : List Kind) (j : ℕ) → j < length ks
    → get_or (map g (limit_rules e st i ks)) j false ≡ g (limit_rule e st (get_or ks j undervoltage) (i + j))
limit-test g e st i [] j l = absurd (not-suc-le-zero l)
limit-test g e st i (k ∷ ks) zero l = rw add-zero refl
limit-test g e st i (k ∷ ks) (suc j) l = rw (add-suc, ← suc-add) (limit-test g e st (suc i) ks j (le_of_suc-le-suc l))
