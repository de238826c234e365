-- Lists of rules that count alike and have the same tops: their counters, bits and readings are the same.
-- Assumes nothing.
use mathlib.Core.Path.{◌≡◌, refl, ap, ap₂}
use mathlib.Core.Bool.{Bool, cond}
use mathlib.Core.List.{List, [], ◌∷◌, ◌++◌}
use Prim.Native.Nat.{ℕ, suc, min}
use lib.Dec.{eqb}
use Rattle.rules.specs.Samples.{Slice}
use Rattle.rules.specs.Counters.{Rule, counted, full}
use Rattle.rules.specs.Records.{each, capped}

-- r at the sample x counts as q does at y, and up to the same top
abbrev pub SameRule : Slice → Rule → Slice → Rule → Type 0
SameRule x r y q = (r.counts x ≡ q.counts y) × (r.top ≡ q.top)

abbrev pub SameRules : Slice → List Rule → Slice → List Rule → Type 0
SameRules x [] y [] = Unit {0}
SameRules x [] y (q ∷ qs) = ⊥
SameRules x (r ∷ rs) y [] = ⊥
SameRules x (r ∷ rs) y (q ∷ qs) = SameRule x r y q × SameRules x rs y qs

pub same-append : (x : Slice) (rs : List Rule) (y : Slice) (qs : List Rule) (r q : Rule) → SameRules x rs y qs → SameRule x r y q
    → SameRules x (rs ++ (r ∷ [])) y (qs ++ (q ∷ []))
same-append x [] y [] r q a s = (s, tt)
same-append x [] y (p ∷ qs) r q a s = absurd a
same-append x (p ∷ rs) y [] r q a s = absurd a
same-append x (p ∷ rs) y (t ∷ qs) r q a s = (a.0, same-append x rs y qs r q a.1 s)

module _ (x y : Slice) where
  each_same {ℓ} : {A : Type ℓ} (f g : Rule → ℕ → A) → ((r q : Rule) (n : ℕ) → SameRule x r y q → f r n ≡ g q n)
      → (rs qs : List Rule) (ns : List ℕ) → SameRules x rs y qs → each f rs ns ≡ each g qs ns
  unfolding each
  each_same f g same [] [] ns a = refl
  each_same f g same [] (q ∷ qs) ns a = absurd a
  each_same f g same (r ∷ rs) [] ns a = absurd a
  each_same f g same (r ∷ rs) (q ∷ qs) [] a = refl
  each_same f g same (r ∷ rs) (q ∷ qs) (n ∷ ns) a = ap₂ ◌∷◌ (same r q n a.0) (each_same f g same rs qs ns a.1)

  pub counted_same : (rs qs : List Rule) (ns : List ℕ) → SameRules x rs y qs → each (counted x) rs ns ≡ each (counted y) qs ns
  counted_same = each_same (counted x) (counted y) (λ r q n s. ap₂ (λ (hit : Bool) (top : ℕ). cond hit (min top (suc n)) 0) s.0 s.1)

  pub full-same : (rs qs : List Rule) (ns : List ℕ) → SameRules x rs y qs → each full rs ns ≡ each full qs ns
  full-same = each_same full full (λ r q n s. ap (eqb n) s.1)

  pub capped_same : (rs qs : List Rule) (ns : List ℕ) → SameRules x rs y qs → each capped rs ns ≡ each capped qs ns
  capped_same = each_same capped capped (λ r q n s. ap (λ (top : ℕ). min top n) s.1)
