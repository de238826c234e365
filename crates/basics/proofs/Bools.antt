-- Tests: what a passed one tells, and when two are equal.
-- Assumes nothing.
use mathlib.Core.Path.{◌≡◌, refl, sym, subst}
use mathlib.Core.Bool.{Bool, true, false, ◌&&◌, ◌||◌, false≢true}
use mathlib.Core.List.{List, [], ◌∷◌}
use Prim.Native.Nat.{ℕ, zero, suc, ◌≤◌, min}
use native.Mathlib.Omega.{arith}
use lib.Dec.{T, leb, leb→le, le→leb, eqb, eqb→eq, eqb_refl}
use lib.ListN.{get_or}
use borrow.Author.Tests.{leb-true, le-leb}
use Rattle.rules.specs.Tests.{all, within}

-- two tests that pass together pass each
pub both : (a b : Bool) → (a && b) ≡ true → (a ≡ true) × (b ≡ true)
both true b e = (refl, e)
both false b e = absurd (false≢true e)

-- two tests that fail together fail each
pub neither : (a b : Bool) → (a || b) ≡ false → (a ≡ false) × (b ≡ false)
neither true b e = absurd (false≢true (sym e))
neither false b e = (refl, e)

-- computed tests that pass together
pub both_left : (a b : Bool) → T (a && b) → T a
both_left true b t = tt
both_left false b t = t

pub both_right : (a b : Bool) → T (a && b) → T b
both_right true b t = t
both_right false b t = absurd t

-- a test of a passed list, by its place
pub at_all : (bs : List Bool) → all bs ≡ true → (i : ℕ) → get_or bs i true ≡ true
unfolding all
at_all [] e i = refl
at_all (b ∷ bs) e zero = (both b (all bs) e).0
at_all (b ∷ bs) e (suc i) = at_all bs (both b (all bs) e).1 i

pub within-true : {low high n : ℕ} → within low high n ≡ true → (low ≤ n) × (n ≤ high)
unfolding within
within-true {low} {high} {n} e =
    (leb-true low n (both (leb low n) (leb n high) e).0, leb-true n high (both (leb low n) (leb n high) e).1)

pub true-within : (low high n : ℕ) → low ≤ n → n ≤ high → within low high n ≡ true
unfolding within
true-within low high n a b = rw (le-leb low n a, le-leb n high b)

-- two tests with one meaning
pub bool-ext : (a b : Bool) → (T a → T b) → (T b → T a) → a ≡ b
bool-ext true true f g = refl
bool-ext true false f g = absurd (f tt)
bool-ext false true f g = absurd (g tt)
bool-ext false false f g = refl

-- a count that is cut at its top equals the top exactly when it has reached it
pub eqb-min : (m a : ℕ) → eqb (min m a) m ≡ leb m a
eqb-min m a =
    bool-ext (eqb (min m a) m) (leb m a) (λ t. le→leb m a (omega (arith, eqb→eq (min m a) m t)))
    (λ t. subst (λ (n : ℕ). T (eqb n m)) (down (leb→le m a t)) (eqb_refl m))
  where
    down : m ≤ a → m ≡ min m a
    down h = omega arith
