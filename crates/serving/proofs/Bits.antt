-- What the nine bits, as one number, tell: the lowest is ready, and the rest are 0 exactly when no limit's bit is 1.
-- Assumes nothing.
use mathlib.Core.Path.{◌≡◌, refl, ◌∙◌}
use mathlib.Core.Bool.{Bool, true, false, cond, not}
use mathlib.Core.List.{List, [], ◌∷◌, ◌++◌}
use Prim.Native.Nat.{ℕ, ◌+◌, ◌*◌, ◌%◌, ◌≤◌}
use native.Mathlib.Omega.{arith}
use lib.Dec.{ltb, eqb}
use borrow.Author.Tests.{lt-ltb, le-ltb, eq-eqb, ne_eqb}
use Rattle.rules.specs.Tests.{any}
use Rattle.rules.specs.Reports.{packed_after}
use Rattle.counters.proofs.Counting.{packed-last}

packed-some : (n : ℕ) (bs : List Bool) → 1 ≤ n → 1 ≤ packed_after n bs
packed-some n [] h = h
packed-some n (b ∷ bs) h = packed-some (2 * n + cond b 1 0) bs (omega arith)

none-packed : (bs : List Bool) → any bs ≡ false → packed_after 0 bs ≡ 0
unfolding any
none-packed [] e = refl
none-packed (true ∷ bs) e = absurd (mathlib.Core.Bool.true≢false e)
none-packed (false ∷ bs) e = none-packed bs e

some-packed : (bs : List Bool) → any bs ≡ true → 1 ≤ packed_after 0 bs
unfolding any
some-packed [] e = absurd (mathlib.Core.Bool.false≢true e)
some-packed (true ∷ bs) e = packed-some 1 bs (omega arith)
some-packed (false ∷ bs) e = some-packed bs e

pub no-trip : (bits : ℕ) (trips : List Bool) (ready : Bool) → bits ≡ packed_after 0 (trips ++ (ready ∷ [])) → ltb bits 2 ≡ not (any trips)
no-trip bits trips ready e = by (any trips) ready refl (e ∙ packed-last 0 trips ready)
  where
    by : (a b : Bool) → any trips ≡ a → bits ≡ 2 * packed_after 0 trips + cond b 1 0 → ltb bits 2 ≡ not a
    by true b q p = le-ltb bits 2 (omega (arith, some-packed trips q))
    by false true q p = lt-ltb bits 2 (omega (arith, none-packed trips q))
    by false false q p = lt-ltb bits 2 (omega (arith, none-packed trips q))

pub is-ready : (bits : ℕ) (trips : List Bool) (ready : Bool) → bits ≡ packed_after 0 (trips ++ (ready ∷ [])) → eqb (bits % 2) 1 ≡ ready
is-ready bits trips ready e = by ready (e ∙ packed-last 0 trips ready)
  where
    by : (b : Bool) → bits ≡ 2 * packed_after 0 trips + cond b 1 0 → eqb (bits % 2) 1 ≡ b
    by true p = eq-eqb (bits % 2) 1 (omega arith)
    by false p = ne_eqb (bits % 2) 1 (λ q. omega arith)
