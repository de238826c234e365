-- The first limit's place, read off the nine bits as one number: how many zeros lead it in sixteen binary digits.
-- Assumes nothing.
use Rattle.std.proofs.Common.{◌≡◌, refl, sym, ◌∙◌, Bool, true, false, cond, List, [], ◌∷◌, ◌++◌, length, ℕ, suc, ◌+◌, ◌*◌, ◌-◌, ◌^◌, ◌≤◌, ◌<◌, arith, length-append}
use Rattle.std.specs.Int.Count.{count_leading_zeros, leading_unique, leading_of_zero}
use native.Mathlib.Nat.{le_trans, mul_comm, mul_assoc, mul-le-mul_right, pow-suc}
use Rattle.rules.specs.Reports.{packed_after}
use Rattle.counters.proofs.Counting.{packed-below}
use Rattle.statusrules.specs.StatusRules.{first_place}

-- bits put after a number do not make it less than shifted
packed-low : (n : ℕ) (bs : List Bool) → n * 2 ^ length bs ≤ packed_after n bs
packed-low n [] = omega arith
packed-low n (b ∷ bs) =
    let twice : n * 2 ^ suc (length bs) ≡ 2 * n * 2 ^ length bs = rw (pow-suc 2 (length bs), mul_comm 2 n, mul_assoc n 2 (2 ^ length bs), mul_comm 2 (2 ^ length bs)) refl in
    le_trans (omega (arith, twice, mul-le-mul_right (2 ^ length bs) (more b))) (packed-low (2 * n + cond b 1 0) bs)
  where
    more : (b : Bool) → 2 * n ≤ 2 * n + cond b 1 0
    more true = omega arith
    more false = omega arith

-- what the zeros that lead the bits tell of the first place, that of the list's first bit being i
pub record Leads (i place zeros : ℕ) : Type 0 where
  pub from : 6 + i ≤ zeros
  pub some : zeros ≤ 14 → zeros ≡ 6 + place
  pub none : 15 ≤ zeros → place ≡ 0

-- a number whose highest digit is digit k
digits : (k a : ℕ) → k < 16 → 2 ^ k ≤ a → a < 2 ^ suc k → 15 - k ≡ count_leading_zeros 16 a
digits k a l low high = leading_unique 16 a (15 - k) (suc k) (omega arith) high (rw pow-suc (omega (arith, low)))

leads : (i : ℕ) (bs : List Bool) (ready : Bool) → 1 ≤ i → i + length bs ≡ 9
    → Leads i (first_place i bs) (count_leading_zeros 16 (packed_after 0 (bs ++ (ready ∷ []))))
leads i [] true h l =
    let one : 15 ≡ count_leading_zeros 16 1 = digits 0 1 (omega arith) (omega arith) (omega arith) in
    record { from = omega (arith, one); some = λ low. absurd (omega (arith, one)); none = λ high. refl }
leads i [] false h l =
    let all : count_leading_zeros 16 0 ≡ 16 = leading_of_zero 16 in
    record { from = omega (arith, all); some = λ low. absurd (omega (arith, all)); none = λ high. refl }
leads i (false ∷ bs) ready h l =
    let next = leads (suc i) bs ready (omega arith) (omega arith) in
    record { from = omega (arith, next.from); some = next.some; none = next.none }
leads i (true ∷ bs) ready h l =
    let long : length (bs ++ (ready ∷ [])) ≡ 9 - i = length-append bs (ready ∷ []) ∙ omega arith in
    let low : 2 ^ (9 - i) ≤ packed_after 1 (bs ++ (ready ∷ [])) = omega (arith, rw long at (packed-low 1 (bs ++ (ready ∷ [])))) in
    let high : packed_after 1 (bs ++ (ready ∷ [])) < 2 ^ suc (9 - i) = rw pow-suc (omega (arith, packed-below (9 - i) 1 (bs ++ (ready ∷ [])) (omega (arith, long)))) in
    let here = digits (9 - i) (packed_after 1 (bs ++ (ready ∷ []))) (omega arith) low high in
    record { from = omega (arith, here); some = λ few. omega (arith, here); none = λ many. absurd (omega (arith, here)) }

-- of the eight limits' bits and ready's
pub leads-packed : (bits : ℕ) (trips : List Bool) (ready : Bool) → length trips ≡ 8 → bits ≡ packed_after 0 (trips ++ (ready ∷ []))
    → Leads 1 (first_place 1 trips) (count_leading_zeros 16 bits)
leads-packed bits trips ready eight e = rw e (leads 1 trips ready (omega arith) (omega arith))
