-- What the rule for a status says: each case is named exactly when it is so, and there is no choice in it.
-- Assumes nothing.
use mathlib.Core.Path.{◌≡◌, refl, sym, ap, subst, ◌∙◌}
use mathlib.Core.Bool.{Bool, true, false, cond, true≢false}
use mathlib.Core.Logic.{◌↔◌}
use mathlib.Core.List.{List, [], ◌∷◌}
use Prim.Native.Nat.{ℕ, zero, suc, ◌≤◌, ◌<◌}
use native.Mathlib.Omega.{arith}
use lib.ListN.{length, get_or}
use borrow.Author.Tests.{eq-eqb, ne_eqb, eqb-true}
use Rattle.rules.specs.Tests.{any}
use Rattle.rules.specs.Samples.{Slice, Equipment, frequency, permitted, lowest, highest}
use Rattle.rules.specs.Regions.{frequency_region, rank, worse, region_in, region_of}
use Rattle.rules.specs.declared.Region.{Region}
use Rattle.rules.specs.declared.Region.TheVariants.{Continuous, Mandatory, Momentary, Cease}
use Rattle.laws.proofs.Regions.{rank-worst}
use Rattle.statusrules.specs.StatusRules.{first_place, same_region, region_cause, status_rule}
use Rattle.rules.specs.declared.Settings.{Settings}
use Rattle.explain.specs.Explains.{LowestHas, HighestHas, FrequencyHas, StatusNamed}
use Rattle.reasons.specs.declared.StatusRule.{StatusRule}
use Rattle.explain.proofs.FirstPlaces.{IsFirst, place_of, test_at, some-place, any_at}

-- ---- the cause of a region

-- the regions in the order of their ranks
abbrev ranked : ℕ → Region
ranked n = get_or (Continuous ∷ Mandatory ∷ Momentary ∷ Cease ∷ []) n Cease

ranked-rank : (r : Region) → ranked (rank r) ≡ r
ranked-rank Continuous = refl
ranked-rank Mandatory = refl
ranked-rank Momentary = refl
ranked-rank Cease = refl

rank-inj : (a b : Region) → rank a ≡ rank b → a ≡ b
rank-inj a b e = sym (ranked-rank a) ∙ ap ranked e ∙ ranked-rank b

same-yes : (a b : Region) → a ≡ b → same_region a b ≡ true
same-yes a b e = eq-eqb (rank a) (rank b) (ap rank e)

same-is : (a b : Region) → same_region a b ≡ true → a ≡ b
same-is a b p = rank-inj a b (eqb-true (rank a) (rank b) p)

other-is : (a b : Region) → same_region a b ≡ false → ¬ (a ≡ b)
other-is a b p k = true≢false (sym (same-yes a b k) ∙ p)

same-no : (a b : Region) → (¬ (a ≡ b)) → same_region a b ≡ false
same-no a b e = ne_eqb (rank a) (rank b) (λ k. e (rank-inj a b k))

-- where neither voltage has the worst region, frequency has
frequency-is : (e : Equipment) (st : Settings) (x : Slice) → (¬ (region_in e st (lowest e x) ≡ region_of e st x)) → (¬ (region_in e st (highest e x) ≡ region_of e st x))
    → frequency_region (frequency x) ≡ region_of e st x
unfolding region_of
frequency-is e st x l k = by (region_in e st (lowest e x)) (region_in e st (highest e x)) (frequency_region (frequency x)) l k
  where
    by : (a b c : Region) → (¬ (a ≡ worse a (worse b c))) → (¬ (b ≡ worse a (worse b c))) → c ≡ worse a (worse b c)
    by a b c p q =
        let not_a : ¬ (rank a ≡ rank (worse a (worse b c))) = λ m. p (rank-inj a (worse a (worse b c)) m) in
        let not-b : ¬ (rank b ≡ rank (worse a (worse b c))) = λ m. q (rank-inj b (worse a (worse b c)) m) in
        rank-inj c (worse a (worse b c)) (omega (arith, not_a, not-b, rank-worst a b c))

-- ---- a step's rule, whatever tells which limits have run out

module _ (e : Equipment) (st : Settings) (x : Slice) (was on : Bool) (trips : List Bool) (out : ℕ → Type 0)
    (eight : length trips ≡ 8)
    (bits : (i : ℕ) → i < 8 → (get_or trips i false ≡ true) ↔ out i)
    (trips-off : was ≡ true → permitted x ≡ true → any trips ≡ true → on ≡ false)
    (off-trips : was ≡ true → permitted x ≡ true → on ≡ false → any trips ≡ true) where
  abbrev rule : StatusRule
  rule = status_rule was on (permitted x) trips (region_cause e st x)

  -- the five cases of spec 8.6
  by-permission : was ≡ true → on ≡ false → permitted x ≡ false → rule ≡ StatusRule.Permission
  by-permission q r s = rw (q, r, s) refl

  by-limit : was ≡ true → on ≡ false → permitted x ≡ true → rule ≡ StatusRule.TripLimit (first_place 1 trips)
  by-limit q r s = rw (q, r, s) refl

  by-wait : was ≡ false → on ≡ false → rule ≡ StatusRule.WaitNotFull
  by-wait q r = rw (q, r) refl

  by-return : was ≡ false → on ≡ true → rule ≡ StatusRule.Returned
  by-return q r = rw (q, r) refl

  by-region : was ≡ true → on ≡ true → rule ≡ region_cause e st x
  by-region q r = rw (q, r) refl

  -- what a rule tells, where it is named
  abbrev Told : StatusRule → Type 0
  Told StatusRule.Permission = (was ≡ true) × (on ≡ false) × (permitted x ≡ false)
  Told (StatusRule.TripLimit place) = (was ≡ true) × (on ≡ false) × (permitted x ≡ true) × (place ≡ first_place 1 trips)
  Told StatusRule.WaitNotFull = (was ≡ false) × (on ≡ false)
  Told StatusRule.Returned = (was ≡ false) × (on ≡ true)
  Told StatusRule.LowestVoltage = (was ≡ true) × (on ≡ true) × LowestHas e st x
  Told StatusRule.HighestVoltage = (was ≡ true) × (on ≡ true) × HighestHas e st x × (¬ LowestHas e st x)
  Told StatusRule.Frequency = (was ≡ true) × (on ≡ true) × FrequencyHas e st x × (¬ LowestHas e st x) × (¬ HighestHas e st x)

  -- the cause of the region, from the ranks of the three
  cause-told : was ≡ true → on ≡ true → Told (region_cause e st x)
  unfolding region_cause
  cause-told q r = by (same_region low worst) (same_region high worst) refl refl
    where
      low : Region
      low = region_in e st (lowest e x)

      high : Region
      high = region_in e st (highest e x)

      worst : Region
      worst = region_of e st x

      by : (a b : Bool) → same_region low worst ≡ a → same_region high worst ≡ b
          → Told (cond a StatusRule.LowestVoltage (cond b StatusRule.HighestVoltage StatusRule.Frequency))
      by true b l k = (q, r, same-is low worst l)
      by false true l k = (q, r, same-is high worst k, other-is low worst l)
      by false false l k = (q, r, frequency-is e st x (other-is low worst l) (other-is high worst k), other-is low worst l, other-is high worst k)

  told : Told rule
  told = by was on (permitted x) refl refl refl
    where
      by : (a b p : Bool) → was ≡ a → on ≡ b → permitted x ≡ p → Told rule
      by true false false q r s = subst Told (sym (by-permission q r s)) (q, r, s)
      by true false true q r s = subst Told (sym (by-limit q r s)) (q, r, s, refl)
      by false false p q r s = subst Told (sym (by-wait q r)) (q, r)
      by false true p q r s = subst Told (sym (by-return q r)) (q, r)
      by true true p q r s = subst Told (sym (by-region q r)) (cause-told q r)

  named : (k : StatusRule) → rule ≡ k → Told k
  named k p = subst Told p told

  -- and where it is so, it is named
  lowest-named : LowestHas e st x → region_cause e st x ≡ StatusRule.LowestVoltage
  unfolding region_cause
  lowest-named l = rw (same-yes (region_in e st (lowest e x)) (region_of e st x) l) refl

  highest-named : HighestHas e st x → (¬ LowestHas e st x) → region_cause e st x ≡ StatusRule.HighestVoltage
  unfolding region_cause
  highest-named k l = rw (same-no (region_in e st (lowest e x)) (region_of e st x) l, same-yes (region_in e st (highest e x)) (region_of e st x) k) refl

  frequency-named : (¬ LowestHas e st x) → (¬ HighestHas e st x) → region_cause e st x ≡ StatusRule.Frequency
  unfolding region_cause
  frequency-named l k = rw (same-no (region_in e st (lowest e x)) (region_of e st x) l, same-no (region_in e st (highest e x)) (region_of e st x) k) refl

  -- ---- the limits

  no-bit : (i : ℕ) → i < 8 → (¬ out i) → get_or trips i false ≡ false
  no-bit i l n = by (get_or trips i false) refl
    where
      by : (b : Bool) → get_or trips i false ≡ b → get_or trips i false ≡ false
      by true p = absurd (n ((bits i l).0 p))
      by false p = p

  abbrev FirstOut : ℕ → Type 0
  FirstOut i = (was ≡ true) × (permitted x ≡ true) × out i × ((j : ℕ) → j < i → ¬ out j)

  limit-told : (i : ℕ) → i < 8 → rule ≡ StatusRule.TripLimit (suc i) → FirstOut i
  limit-told i l k =
      let t = named (StatusRule.TripLimit (suc i)) k in
      let first = test_at 1 i trips (omega arith) (sym t.3 ∙ omega arith) in (
        t.0,
        t.2,
        (bits i l).0 first.passes,
        (λ j m o. true≢false (sym ((bits j (omega arith)).1 o) ∙ first.none_before j m)),
      )

  limit-named : (i : ℕ) → i < 8 → FirstOut i → rule ≡ StatusRule.TripLimit (suc i)
  limit-named i l f =
      let bit = (bits i l).1 f.2 in
      let off = trips-off f.0 f.1 (any_at trips i bit) in
      let first : IsFirst trips i = record { passes = bit; none_before = λ j m. no-bit j (omega arith) (f.3 j m) } in
      by-limit f.0 off f.1 ∙ ap (λ (n : ℕ). StatusRule.TripLimit n) (place_of 1 i trips first ∙ omega arith)

  limit-place : (place : ℕ) → rule ≡ StatusRule.TripLimit place → (1 ≤ place) × (place ≤ 8)
  limit-place place k =
      let t = named (StatusRule.TripLimit place) k in
      let s = some-place 1 trips (off-trips t.0 t.2 t.1) in
      (omega (arith, s.0, t.3), omega (arith, s.1, t.3, eight))

  pub status-named : StatusNamed e st x was on out rule
  status-named =
      record {
        permission = (named StatusRule.Permission, λ c. by-permission c.0 c.1 c.2);
        limit = λ i l. (limit-told i l, limit-named i l);
        places = limit-place;
        wait = (named StatusRule.WaitNotFull, λ c. by-wait c.0 c.1);
        returned = (named StatusRule.Returned, λ c. by-return c.0 c.1);
        by-lowest = (named StatusRule.LowestVoltage, λ c. by-region c.0 c.1 ∙ lowest-named c.2);
        by-highest = (named StatusRule.HighestVoltage, λ c. by-region c.0 c.1 ∙ highest-named c.2 c.3);
        by-frequency = (named StatusRule.Frequency, λ c. by-region c.0 c.1 ∙ frequency-named c.3 c.4);
      }

  -- and there is no choice in it
  pub one-named : (other : StatusRule) → StatusNamed e st x was on out other → other ≡ rule
  one-named other n = by rule refl told
    where
      limited : (place : ℕ) → rule ≡ StatusRule.TripLimit place → (1 ≤ place) × (place ≤ 8) → other ≡ StatusRule.TripLimit place
      limited zero k l = absurd (omega arith)
      limited (suc i) k l = (n.limit i (omega (arith, l.1))).1 (limit-told i (omega (arith, l.1)) k)

      by : (k : StatusRule) → rule ≡ k → Told k → other ≡ k
      by StatusRule.Permission k t = n.permission.1 t
      by (StatusRule.TripLimit place) k t = limited place k (limit-place place k)
      by StatusRule.WaitNotFull k t = n.wait.1 t
      by StatusRule.Returned k t = n.returned.1 t
      by StatusRule.LowestVoltage k t = n.by-lowest.1 t
      by StatusRule.HighestVoltage k t = n.by-highest.1 t
      by StatusRule.Frequency k t = n.by-frequency.1 t
