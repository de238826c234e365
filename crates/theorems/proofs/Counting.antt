-- Spec 6.1 and 6.4 for an arbitrary rule: the counter of a history is its streak, cut at the top.
-- Assumes nothing.
use mathlib.Core.Path.{◌≡◌, refl, ap₂, subst}
use mathlib.Core.Bool.{Bool, true, false, cond}
use mathlib.Core.List.{List, [], ◌∷◌, ◌++◌, map, append-nil}
use Prim.Native.Nat.{ℕ, suc, min}
use native.Mathlib.Omega.{arith}
use Rattle.rules.specs.Samples.{Slice}
use Rattle.rules.specs.Counters.{Rule, counted, full}
use Rattle.rules.specs.Records.{each, capped}
use Rattle.rules.specs.History.{History, streak, complete}
use Rattle.claims.specs.TripAndReturn.{count_of}
use Rattle.basics.proofs.Bools.{eqb-min}

-- one sample more
pub counted_is : (x : Slice) (h : History) (r : Rule) → counted x r (count_of h r) ≡ count_of (x ∷ h) r
unfolding streak
counted_is x h r = go (r.counts x)
  where
    go : (b : Bool) → cond b (min r.top (suc (min r.top (streak r.counts h)))) 0 ≡ min r.top (cond b (suc (streak r.counts h)) 0)
    go true = omega arith
    go false = omega arith

pub capped_is : (h : History) (r : Rule) → capped r (count_of h r) ≡ count_of h r
capped_is h r = omega arith

pub full_is : (h : History) (r : Rule) → full r (count_of h r) ≡ complete h r
full_is h r = eqb-min r.top (streak r.counts h)

-- a function of each rule and its counter, where the counters are those of a history
pub each_of {ℓ} : {A : Type ℓ} (f : Rule → ℕ → A) (g : Rule → A) (h : History) → ((r : Rule) → f r (count_of h r) ≡ g r)
    → (rs qs : List Rule) → each f rs (map (count_of h) (rs ++ qs)) ≡ map g rs
unfolding each
each_of f g h e [] qs = refl
each_of f g h e (r ∷ rs) qs = ap₂ ◌∷◌ (e r) (each_of f g h e rs qs)

pub each_all {ℓ} : {A : Type ℓ} (f : Rule → ℕ → A) (g : Rule → A) (h : History) → ((r : Rule) → f r (count_of h r) ≡ g r)
    → (rs : List Rule) → each f rs (map (count_of h) rs) ≡ map g rs
each_all f g h e rs = subst (λ (l : List Rule). each f rs (map (count_of h) l) ≡ map g rs) (append-nil rs) (each_of f g h e rs [])
