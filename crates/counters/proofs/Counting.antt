-- Counting one rule more: the counters and the bits of the rules passed, at an arbitrary place.
-- Assumes nothing.
use mathlib.Core.Path.{◌≡◌, refl, sym, ap, ap₂, ◌∙◌}
use mathlib.Core.Bool.{Bool, false, cond}
use mathlib.Core.List.{List, [], ◌∷◌, ◌++◌}
use Prim.Native.Nat.{ℕ, zero, suc, ◌+◌, ◌*◌, ◌^◌, ◌≤◌, ◌<◌, min}
use native.Mathlib.Nat.{not-suc-le-zero, le_of_suc-le-suc, add-zero, zero-add, add-suc, suc-add, pow-suc, mul_assoc, mul_comm, mul-le-mul_right}
use native.Mathlib.Nat.{mul-le-mul_left, le_trans}
use native.Mathlib.Numerals.{add-one}
use native.Mathlib.Omega.{arith}
use lib.Dec.{eqb}
use lib.ListN.{length, take, get_or, set, length-take}
use lib.Pow.{pow_pos}
use lib.Seq.{take-suc, take_all}
use Rattle.rules.specs.Counters.{Rule, counted, full}
use Rattle.rules.specs.Records.{each}
use Rattle.rules.specs.Reports.{packed_after}
use Rattle.rules.specs.declared.Settings.{Settings}
use Rattle.readings.specs.declared.reading.Reading.{Reading}
use Rattle.counters.specs.Rules.{rule_at, rules_from, rules_at}

-- ---- the rule at a place

rule-from : (r : Reading) (s : Settings) (d : Rule) (k i j : ℕ) → j < k → get_or (rules_from r s i k) j d ≡ rule_at r s (i + j)
unfolding rules_from
rule-from r s d zero i j h = absurd (not-suc-le-zero h)
rule-from r s d (suc k) i zero h = rw add-zero
rule-from r s d (suc k) i (suc j) h = rule-from r s d k (suc i) j (le_of_suc-le-suc h) ∙ ap (rule_at r s) (suc-add i j ∙ sym (add-suc i j))

pub rule-at : (r : Reading) (s : Settings) (d : Rule) (i : ℕ) → i < 9 → get_or (rules_at r s) i d ≡ rule_at r s i
rule-at r s d i h = rule-from r s d 9 0 i h ∙ ap (rule_at r s) (zero-add i)

pub rules-length : (r : Reading) (s : Settings) → length (rules_at r s) ≡ 9
unfolding rules_from
rules-length r s = refl

-- ---- the counters

-- the first i counters by their rules, and the rest as they were
unfoldable pub each_up_to : ℕ → (Rule → ℕ → ℕ) → List Rule → List ℕ → List ℕ
each_up_to zero f rs ns = ns
each_up_to (suc i) f [] ns = ns
each_up_to (suc i) f (r ∷ rs) [] = []
each_up_to (suc i) f (r ∷ rs) (n ∷ ns) = f r n ∷ each_up_to i f rs ns

up-to-suc : (f : Rule → ℕ → ℕ) (d : Rule) (rs : List Rule) (ns : List ℕ) (i : ℕ) → i < length rs → i < length ns
    → set (each_up_to i f rs ns) i (f (get_or rs i d) (get_or (each_up_to i f rs ns) i 0)) ≡ each_up_to (suc i) f rs ns
unfolding each_up_to
up-to-suc f d [] ns i h k = absurd (not-suc-le-zero h)
up-to-suc f d (r ∷ rs) [] i h k = absurd (not-suc-le-zero k)
up-to-suc f d (r ∷ rs) (n ∷ ns) zero h k = refl
up-to-suc f d (r ∷ rs) (n ∷ ns) (suc i) h k = ap (λ (l : List ℕ). f r n ∷ l) (up-to-suc f d rs ns i (le_of_suc-le-suc h) (le_of_suc-le-suc k))

pub up-to-more : (f : Rule → ℕ → ℕ) (d : Rule) (rs : List Rule) (ns next : List ℕ) (i : ℕ) → i < length rs → i < length ns → next ≡ each_up_to i f rs ns
    → set next i (f (get_or rs i d) (get_or next i 0)) ≡ each_up_to (i + 1) f rs ns
up-to-more f d rs ns next i h k e = rw (e, add-one) (up-to-suc f d rs ns i h k)

pub up-to-all : (f : Rule → ℕ → ℕ) (rs : List Rule) (ns : List ℕ) (i : ℕ) → length rs ≡ i → length ns ≡ i → each_up_to i f rs ns ≡ each f rs ns
unfolding each_up_to each
up-to-all f [] [] zero h k = refl
up-to-all f [] [] (suc i) h k = absurd (omega arith)
up-to-all f [] (n ∷ ns) zero h k = absurd (omega arith)
up-to-all f [] (n ∷ ns) (suc i) h k = absurd (omega arith)
up-to-all f (r ∷ rs) [] zero h k = absurd (omega arith)
up-to-all f (r ∷ rs) [] (suc i) h k = absurd (omega arith)
up-to-all f (r ∷ rs) (n ∷ ns) zero h k = absurd (omega arith)
up-to-all f (r ∷ rs) (n ∷ ns) (suc i) h k = ap (λ (l : List ℕ). f r n ∷ l) (up-to-all f rs ns i (omega arith) (omega arith))

-- the counter at a place that is not passed yet
pub up-to-old : (f : Rule → ℕ → ℕ) (rs : List Rule) (ns : List ℕ) (i : ℕ) → i < length rs → get_or (each_up_to i f rs ns) i 0 ≡ get_or ns i 0
unfolding each_up_to
up-to-old f rs ns zero h = refl
up-to-old f [] ns (suc i) h = absurd (not-suc-le-zero h)
up-to-old f (r ∷ rs) [] (suc i) h = refl
up-to-old f (r ∷ rs) (n ∷ ns) (suc i) h = up-to-old f rs ns i (le_of_suc-le-suc h)

-- ---- the bits

-- the bits of the counters that the rules leave
abbrev pub bits_of : (Rule → ℕ → ℕ) → List Rule → List ℕ → List Bool
bits_of f rs ns = each (λ r n. full r (f r n)) rs ns

pub bits_each : (f : Rule → ℕ → ℕ) (rs : List Rule) (ns : List ℕ) → each full rs (each f rs ns) ≡ bits_of f rs ns
unfolding each
bits_each f [] ns = refl
bits_each f (r ∷ rs) [] = refl
bits_each f (r ∷ rs) (n ∷ ns) = ap (λ (l : List Bool). full r (f r n) ∷ l) (bits_each f rs ns)

pub bits-length : (f : Rule → ℕ → ℕ) (rs : List Rule) (ns : List ℕ) (k : ℕ) → length rs ≡ k → length ns ≡ k → length (bits_of f rs ns) ≡ k
unfolding each
bits-length f [] ns k h l = h
bits-length f (r ∷ rs) [] k h l = l
bits-length f (r ∷ rs) (n ∷ ns) zero h l = absurd (omega arith)
bits-length f (r ∷ rs) (n ∷ ns) (suc k) h l = ap suc (bits-length f rs ns k (omega arith) (omega arith))

pub bit_at : (f : Rule → ℕ → ℕ) (d : Rule) (rs : List Rule) (ns : List ℕ) (i : ℕ) → i < length rs → i < length ns
    → get_or (bits_of f rs ns) i false ≡ full (get_or rs i d) (f (get_or rs i d) (get_or ns i 0))
unfolding each
bit_at f d [] ns i h k = absurd (not-suc-le-zero h)
bit_at f d (r ∷ rs) [] i h k = absurd (not-suc-le-zero k)
bit_at f d (r ∷ rs) (n ∷ ns) zero h k = refl
bit_at f d (r ∷ rs) (n ∷ ns) (suc i) h k = bit_at f d rs ns i (le_of_suc-le-suc h) (le_of_suc-le-suc k)

pub packed-last : (n : ℕ) (bs : List Bool) (b : Bool) → packed_after n (bs ++ (b ∷ [])) ≡ 2 * packed_after n bs + cond b 1 0
packed-last n [] b = refl
packed-last n (c ∷ bs) b = packed-last (2 * n + cond c 1 0) bs b

-- one bit more
pub packed_more : (bs : List Bool) (i : ℕ) → i < length bs → packed_after 0 (take (i + 1) bs) ≡ 2 * packed_after 0 (take i bs) + cond (get_or bs i false) 1 0
packed_more bs i h = ap (packed_after 0) (ap (λ (n : ℕ). take n bs) (add-one i) ∙ take-suc bs i false h) ∙ packed-last 0 (take i bs) (get_or bs i false)

-- k bits make a number below 2 ^ k
pub packed-below : (k n : ℕ) (bs : List Bool) → length bs ≤ k → packed_after n bs < (n + 1) * 2 ^ k
packed-below k n [] h = rw (add-one) (le_trans (omega arith) (mul-le-mul_left (suc n) (pow_pos k)))
packed-below zero n (b ∷ bs) h = absurd (not-suc-le-zero h)
packed-below (suc k) n (b ∷ bs) h =
    let small : 2 * n + cond b 1 0 + 1 ≤ 2 * (n + 1) = by b in
    let p : (n + 1) * 2 ^ suc k ≡ 2 * (n + 1) * 2 ^ k = rw (pow-suc, mul_comm (2 ^ k) 2, ← mul_assoc, mul_comm (n + 1) 2) in
    le_trans (packed-below k (2 * n + cond b 1 0) bs (le_of_suc-le-suc h)) (rw p (mul-le-mul_right (2 ^ k) small))
  where
    by : (c : Bool) → 2 * n + cond c 1 0 + 1 ≤ 2 * (n + 1)
    by mathlib.Core.Bool.true = omega arith
    by false = omega arith

pub packed-small : (bs : List Bool) (i : ℕ) → i ≤ 9 → packed_after 0 (take i bs) < 512
packed-small bs i h = packed-below 9 0 (take i bs) (omega (arith, length-take i bs))

-- ---- one turn of the loop

abbrev no_rule : Rule
no_rule = record { counts = λ x. false; top = 0 }

-- the counters and the bits of the rules before i
pub record Passed (r : Reading) (s : Settings) (old : List ℕ) (i : ℕ) (next : List ℕ) (bits : ℕ) : Type 0 where
  pub counters : next ≡ each_up_to i (counted []) (rules_at r s) old
  pub packed : bits ≡ packed_after 0 (take i (bits_of (counted []) (rules_at r s) old))

module _ (r : Reading) (s : Settings) (old : List ℕ) (nine : length old ≡ 9) where
  module _ (i : ℕ) (next : List ℕ) (bits : ℕ) (low : i < 9) (passed : Passed r s old i next bits) (n most : ℕ) (hit : Bool) where
    counted-here : most ≡ (rule_at r s i).top → hit ≡ (rule_at r s i).counts [] → n ≡ cond hit (min most (suc (get_or next i 0))) 0
        → n ≡ counted [] (get_or (rules_at r s) i no_rule) (get_or next i 0)
    counted-here e₁ e₂ e₃ =
        e₃ ∙ ap₂ (λ (h : Bool) (m : ℕ). cond h (min m (suc (get_or next i 0))) 0) e₂ e₁
        ∙ ap (λ (q : Rule). counted [] q (get_or next i 0)) (sym (rule-at r s no_rule i low))

    pub turn : most ≡ (rule_at r s i).top → hit ≡ (rule_at r s i).counts [] → n ≡ cond hit (min most (suc (get_or next i 0))) 0
        → (b : ℕ) → b ≡ 2 * bits + cond (eqb n most) 1 0
        → Passed r s old (i + 1) (set next i n) b
    turn e₁ e₂ e₃ b e₄ =
        let long : i < length (rules_at r s) = omega (arith, rules-length r s) in
        let here = counted-here e₁ e₂ e₃ in
        let before : get_or next i 0 ≡ get_or old i 0 = ap (λ (l : List ℕ). get_or l i 0) passed.counters ∙ up-to-old (counted []) (rules_at r s) old i long in
        let same : counted [] (get_or (rules_at r s) i no_rule) (get_or next i 0) ≡ counted [] (get_or (rules_at r s) i no_rule) (get_or old i 0)
        = ap (counted [] (get_or (rules_at r s) i no_rule)) before in
        let most-is : most ≡ (get_or (rules_at r s) i no_rule).top = e₁ ∙ ap (λ (q : Rule). q.top) (sym (rule-at r s no_rule i low)) in
        let bit : eqb n most ≡ get_or (bits_of (counted []) (rules_at r s) old) i false
        = ap₂ eqb (here ∙ same) most-is ∙ sym (bit_at (counted []) no_rule (rules_at r s) old i long (omega arith)) in
        record {
          counters =
              ap (set next i) here
              ∙ up-to-more (counted []) no_rule (rules_at r s) old next i long (omega arith) passed.counters;
          packed =
              e₄ ∙ ap₂ (λ (m : ℕ) (q : Bool). 2 * m + cond q 1 0) passed.packed bit
              ∙ sym (packed_more (bits_of (counted []) (rules_at r s) old) i (omega (arith, bits-length (counted []) (rules_at r s) old 9 (rules-length r s) nine)));
        }

  -- at the end
  pub all-counters : (i : ℕ) (next : List ℕ) (bits : ℕ) → i ≡ 9 → Passed r s old i next bits → next ≡ each (counted []) (rules_at r s) old
  all-counters i next bits e p =
      p.counters ∙ ap (λ (k : ℕ). each_up_to k (counted []) (rules_at r s) old) e ∙ up-to-all (counted []) (rules_at r s) old 9 (rules-length r s) nine

  pub all-bits : (i : ℕ) (next : List ℕ) (bits : ℕ) → i ≡ 9 → Passed r s old i next bits → bits ≡ packed_after 0 (each full (rules_at r s) next)
  all-bits i next bits e p =
      p.packed
      ∙ ap (packed_after 0) (ap (λ (k : ℕ). take k (bits_of (counted []) (rules_at r s) old)) e
      ∙ take_all 9 (bits_of (counted []) (rules_at r s) old) (omega (arith, bits-length (counted []) (rules_at r s) old 9 (rules-length r s) nine))
      ∙ sym (bits_each (counted []) (rules_at r s) old)
      ∙ ap (each full (rules_at r s)) (sym (all-counters i next bits e p)))

  pub bits_small : (i : ℕ) (next : List ℕ) (bits : ℕ) → i ≤ 9 → Passed r s old i next bits → bits < 512
  bits_small i next bits h p = rw p.packed (packed-small (bits_of (counted []) (rules_at r s) old) i h)
