-- Samples that tell counters apart: for every rule of a sheet either an accepted sample counts, or none does.
-- Assumes nothing.
use mathlib.Core.Path.{◌≡◌, refl, sym, ap, ap₂, ◌∙◌, subst}
use mathlib.Core.Bool.{Bool, true, false}
use mathlib.Core.Logic.{◌⊎◌, inl, inr, ⊎_elim}
use mathlib.Core.List.{List, [], ◌∷◌, ◌++◌, map}
use Prim.Native.Nat.{ℕ, zero, suc, ◌+◌, ◌≤◌, min}
use native.Mathlib.Omega.{arith}
use lib.Dec.{leb, ltb}
use lib.ListN.{length, replicate, length-replicate}
use borrow.Author.Tests.{ltb-true, ltb-false, lt-ltb, le-ltb, le-leb}
use Rattle.rules.specs.Tests.{all}
use Rattle.rules.specs.Sensing.{last_code}
use Rattle.rules.specs.Settings.{rows, settings_accepted, limit_at}
use Rattle.rules.specs.Samples.{Slice, Equipment, lowest, highest, sample_check, sample_accepted}
use Rattle.rules.specs.Counters.{Rule, Kind, undervoltage, overvoltage, underfrequency, overfrequency, kinds, broken, in_range, limit_rules, ready_rule, rules}
use Rattle.rules.specs.History.{History, followed_by, streak, complete}
use Rattle.rules.specs.declared.Settings.{Settings}
use Rattle.claims.specs.Sound.{Sound}
use Rattle.claims.specs.TripAndReturn.{count_of}
use Rattle.claims.specs.TwoHistories.{AllAccepted}
use Rattle.basics.proofs.Bools.{true-within}
use Rattle.laws.proofs.Accepted.{sample-right, sheet-rows}
use Rattle.laws.proofs.Limits.{LevelIn, LimitsIn, limits-in}
use Rattle.theorems.proofs.Saturating.{same_count, carry, streak-run}

-- what can be told: the top is within reach, and either an accepted sample counts or none does
pub record Tellable (r : Rule) : Type 0 where
  pub reach : r.top ≤ 100000
  pub probe : ((x : Slice) × (sample_accepted x ≡ true) × (r.counts x ≡ true)) ⊎ ((x : Slice) → sample_accepted x ≡ true → r.counts x ≡ false)

abbrev pub AllTellable : List Rule → Type 0
AllTellable [] = Unit {0}
AllTellable (r ∷ rs) = Tellable r × AllTellable rs

pub accepted-run : (x : Slice) → sample_accepted x ≡ true → (n : ℕ) → AllAccepted (replicate n x)
accepted-run x a zero = tt
accepted-run x a (suc n) = (a, accepted-run x a n)

-- what no accepted sample counts stands at 0
never : (t : Slice → Bool) → ((x : Slice) → sample_accepted x ≡ true → t x ≡ false) → (h : History) → AllAccepted h → streak t h ≡ 0
unfolding streak
never t f [] a = refl
never t f (x ∷ h) a = rw (f x a.0)

-- ---- two histories whose bits agree after every common run have equal counters

module _ (h g : History) (ha : AllAccepted h) (ga : AllAccepted g) where
  one-rule : (r : Rule) → Tellable r
      → ((run : List Slice) → length run ≤ 100000 → AllAccepted run → complete (followed_by h run) r ≡ complete (followed_by g run) r)
      → count_of h r ≡ count_of g r
  one-rule r t f = ⊎_elim some none t.probe
    where
      at : (x : Slice) → sample_accepted x ≡ true → r.counts x ≡ true → (k : ℕ) → k ≤ 100000
          → leb r.top (k + streak r.counts h) ≡ leb r.top (k + streak r.counts g)
      at x a e k l =
          ap (leb r.top) (sym (streak-run r.counts x e k h))
          ∙ f (replicate k x) (subst (λ (n : ℕ). n ≤ 100000) (sym (length-replicate k x)) l) (accepted-run x a k)
          ∙ ap (leb r.top) (streak-run r.counts x e k g)

      some : (x : Slice) × (sample_accepted x ≡ true) × (r.counts x ≡ true) → count_of h r ≡ count_of g r
      some s =
          same_count r.top (streak r.counts h) (streak r.counts g) 100000 t.reach
          (λ k l. carry _ _ _ (at s.0 s.1 s.2 k l))
          (λ k l. carry _ _ _ (sym (at s.0 s.1 s.2 k l)))

      none : ((x : Slice) → sample_accepted x ≡ true → r.counts x ≡ false) → count_of h r ≡ count_of g r
      none n = ap (min r.top) (never r.counts n h ha ∙ sym (never r.counts n g ga))

  pub all-rules : (rs : List Rule) → AllTellable rs
      → ((run : List Slice) → length run ≤ 100000 → AllAccepted run → map (complete (followed_by h run)) rs ≡ map (complete (followed_by g run)) rs)
      → map (count_of h) rs ≡ map (count_of g) rs
  all-rules [] t f = refl
  all-rules (r ∷ rs) t f = ap₂ ◌∷◌ (one-rule r t.0 (λ run l a. heads (f run l a))) (all-rules rs t.1 (λ run l a. tails (f run l a)))
    where
      heads : {b c : Bool} {bs cs : List Bool} → ◌≡◌ {A = List Bool} (b ∷ bs) (c ∷ cs) → b ≡ c
      heads e = cc

      tails : {b c : Bool} {bs cs : List Bool} → ◌≡◌ {A = List Bool} (b ∷ bs) (c ∷ cs) → bs ≡ cs
      tails e = cc

-- ---- the probes

-- all three phases at one code, with permission on
abbrev pub flat : ℕ → ℕ → Slice
flat c f = c ∷ c ∷ c ∷ f ∷ 1 ∷ 0 ∷ 0 ∷ []

pub flat-accepted : (c f : ℕ) → c ≤ last_code → 40000 ≤ f → f ≤ 80000 → sample_accepted (flat c f) ≡ true
unfolding sample_check all
flat-accepted c f a b d = rw (le-leb c 4095 a, true-within 40000 80000 f b d)

module _ (e : Equipment) (sound : Sound e) where
  -- a limit is told: broken by some accepted sample, or, for a low voltage that the table never gives, by none
  limit-tellable : (k : Kind) (n c : ℕ) → LevelIn k n → c ≤ 100000 → Tellable (record { counts = broken e k n; top = c })
  unfolding broken
  limit-tellable undervoltage n c i l = record { reach = l; probe = by (ltb (e.sensing 0) n) refl }
    where
      by : (b : Bool) → ltb (e.sensing 0) n ≡ b
          → ((x : Slice) × (sample_accepted x ≡ true) × (ltb (lowest e x) n ≡ true)) ⊎ ((x : Slice) → sample_accepted x ≡ true → ltb (lowest e x) n ≡ false)
      by true t = inl (
        flat 0 60000,
        flat-accepted 0 60000 (omega arith) (omega arith) (omega arith),
        lt-ltb (lowest e (flat 0 60000)) n (omega (arith, ltb-true (e.sensing 0) n t)),
      )
      by false t =
          inr
          (λ x a. let s = sample-right x a in le-ltb (lowest e x) n
          (omega (arith, ltb-false (e.sensing 0) n t, sound.least _ s.code0, sound.least _ s.code1, sound.least _ s.code2)))
  limit-tellable overvoltage n c i l =
      record {
        reach = l;
        probe = inl (
          flat last_code 60000,
          flat-accepted last_code 60000 (omega arith) (omega arith) (omega arith),
          lt-ltb n (highest e (flat last_code 60000)) (omega (arith, sound.above)),
        );
      }
  limit-tellable underfrequency n c i l =
      record { reach = l; probe = inl (flat 0 40000, flat-accepted 0 40000 (omega arith) (omega arith) (omega arith), lt-ltb 40000 n (omega arith)) }
  limit-tellable overfrequency n c i l =
      record { reach = l; probe = inl (flat 0 80000, flat-accepted 0 80000 (omega arith) (omega arith) (omega arith), lt-ltb n 80000 (omega arith)) }

  limits-tellable : (st : Settings) (i : ℕ) (ks : List Kind) → LimitsIn st i ks → (rs : List Rule) → AllTellable rs → AllTellable (limit_rules e st i ks ++ rs)
  limits-tellable st i [] l rs t = t
  limits-tellable st i (k ∷ ks) l rs t =
      (limit-tellable k (limit_at st i).level (limit_at st i).clearing l.0.level_in l.0.clearing-high, limits-tellable st (suc i) ks l.1 rs t)

  -- a sample at nominal: in range with permission on, in the continuous region, and breaking no limit
  abbrev pub calm : Slice
  calm = flat sound.nominal 60000

  pub calm-accepted : sample_accepted calm ≡ true
  calm-accepted = flat-accepted sound.nominal 60000 sound.nominal-code (omega arith) (omega arith)

  pub calm-breaks-none : (k : Kind) (n : ℕ) → LevelIn k n → broken e k n calm ≡ false
  unfolding broken
  calm-breaks-none undervoltage n i = le-ltb (lowest e calm) n (omega (arith, sound.nominal-low))
  calm-breaks-none overvoltage n i = le-ltb n (highest e calm) (omega (arith, sound.nominal-high))
  calm-breaks-none underfrequency n i = le-ltb 60000 n (omega arith)
  calm-breaks-none overfrequency n i = le-ltb n 60000 (omega arith)

  module _ (st : Settings) (ok : settings_accepted st ≡ true) where
    pub calm-in-range : in_range e st calm ≡ true
    unfolding in_range all rows
    calm-in-range =
        let k = sheet-rows st ok in
        rw (
          true-within st.volts.low st.volts.high (lowest e calm) (omega (arith, sound.nominal-low)) (omega (arith, sound.nominal-high)),
          true-within st.volts.low st.volts.high (highest e calm) (omega (arith, sound.nominal-low)) (omega (arith, sound.nominal-high)),
          true-within st.hertz.low st.hertz.high 60000 (omega arith) (omega arith),
        )

    ready-tellable : Tellable (ready_rule e st)
    unfolding rows
    ready-tellable =
        let k = sheet-rows st ok in
        record { reach = omega arith; probe = inl (calm, calm-accepted, calm-in-range) }

    pub rules-tellable : AllTellable (rules e st)
    rules-tellable = limits-tellable st 0 kinds (limits-in st ok) (ready_rule e st ∷ []) (ready-tellable, tt)
