-- Where no limit is broken, the eight counters are 0 and below their tops: only the ninth is counted.
-- Assumes nothing.
use mathlib.Core.Path.{◌≡◌, sym, ap, ap₂, subst, ◌∙◌}
use mathlib.Core.Bool.{Bool, true, false, cond}
use mathlib.Core.List.{List, [], ◌∷◌}
use Prim.Native.Nat.{ℕ, zero, suc, ◌+◌, ◌*◌, ◌≤◌, ◌<◌, min}
use native.Mathlib.Nat.{not-suc-le-zero, le_of_suc-le-suc, add-zero, add-suc, suc-add, zero-add}
use native.Mathlib.Omega.{arith}
use lib.Dec.{eqb}
use lib.ListN.{length, get_or, set, replicate}
use borrow.Author.Tests.{ne_eqb, lt-ltb}
use Rattle.rules.specs.Settings.{settings_accepted, limit_at}
use Rattle.rules.specs.Counters.{Kind, kinds, counted, full}
use Rattle.rules.specs.Records.{each}
use Rattle.rules.specs.Reports.{packed_after}
use Rattle.rules.specs.declared.Settings.{Settings}
use Rattle.laws.proofs.Limits.{LimitsIn, limits-in}
use Rattle.readings.specs.declared.reading.Reading.{Reading}
use Rattle.counters.specs.Rules.{rule_at, rules_from, rules_at}
use Rattle.counting.specs.Counting.{hit_at, top_at}

-- the clearing time of each limit is at least 1
clearing-some : (s : Settings) (i : ℕ) (ks : List Kind) → LimitsIn s i ks → (j : ℕ) → j < length ks → 1 ≤ (limit_at s (i + j)).clearing
clearing-some s i [] l j h = absurd (not-suc-le-zero h)
clearing-some s i (k ∷ ks) l zero h = rw add-zero l.0.clearing-low
clearing-some s i (k ∷ ks) l (suc j) h = rw (add-suc, ← suc-add) (clearing-some s (suc i) ks l.1 j (le_of_suc-le-suc h))

top-some : (s : Settings) → settings_accepted s ≡ true → (i : ℕ) → i < 8 → 1 ≤ top_at s i
top-some s ok i h = rw (lt-ltb i 8 h) (subst (λ (j : ℕ). 1 ≤ (limit_at s j).clearing) (zero-add i) (clearing-some s 0 kinds (limits-in s ok) i h))

-- ---- k rules from rule i on that are not hit, and one more: its counter and its bit are the only ones that are not 0

module _ (r : Reading) (s : Settings) where
  last-counted : (k i : ℕ) (old : List ℕ) → length old ≡ suc k → ((j : ℕ) → i ≤ j → j < i + k → hit_at r s j ≡ false)
      → set (replicate (suc k) 0) k (counted [] (rule_at r s (i + k)) (get_or old k 0)) ≡ each (counted []) (rules_from r s i (suc k)) old
  unfolding rules_from each
  last-counted k i [] e off = absurd (omega arith)
  last-counted zero i (n ∷ ns) e off = rw add-zero
  last-counted (suc k) i (n ∷ ns) e off =
      ap₂ ◌∷◌ (rw (off i (omega arith) (omega arith)))
      (rw (add-suc, ← suc-add) (last-counted k (suc i) ns (omega arith) (λ j low high. off j (omega arith) (omega arith))))

  last-full : (k i n : ℕ) → ((j : ℕ) → i ≤ j → j < i + k → 1 ≤ top_at s j)
      → packed_after 0 (each full (rules_from r s i (suc k)) (set (replicate (suc k) 0) k n)) ≡ 2 * 0 + cond (eqb n (top_at s (i + k))) 1 0
  unfolding rules_from each
  last-full zero i n some = rw add-zero
  last-full (suc k) i n some =
      rw (ne_eqb 0 (top_at s i) (omega (arith, some i (omega arith) (omega arith))), add-suc, ← suc-add)
      (last-full k (suc i) n (λ j low high. some j (omega arith) (omega arith)))

  -- ---- all nine: the counters are n in the ninth place and 0 before it

  pub ninth-counted : (old : List ℕ) → length old ≡ 9 → ((i : ℕ) → i < 8 → hit_at r s i ≡ false)
      → (hit : Bool) (most n : ℕ) → hit ≡ hit_at r s 8 → most ≡ top_at s 8 → n ≡ cond hit (min most (suc (get_or old 8 0))) 0
      → set (replicate 9 0) 8 n ≡ each (counted []) (rules_at r s) old
  ninth-counted old nine off hit most n e₁ e₂ e₃ =
      ap (set (replicate 9 0) 8) (e₃ ∙ ap₂ (λ (h : Bool) (m : ℕ). cond h (min m (suc (get_or old 8 0))) 0) e₁ e₂)
      ∙ last-counted 8 0 old nine (λ j low high. off j high)

  pub ninth-marked : settings_accepted s ≡ true → (most n bits : ℕ) → most ≡ top_at s 8 → bits ≡ 2 * 0 + cond (eqb n most) 1 0
      → bits ≡ packed_after 0 (each full (rules_at r s) (set (replicate 9 0) 8 n))
  ninth-marked ok most n bits e₁ e₂ =
      e₂ ∙ ap (λ (m : ℕ). 2 * 0 + cond (eqb n m) 1 0) e₁ ∙ sym (last-full 8 0 n (λ j low high. top-some s ok j high))
