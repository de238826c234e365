-- Above the deadband, a higher frequency in a sample's place: it leaves a board in service, and gives power, only where the lower one does.
-- Assumes nothing.
use mathlib.Core.Path.{◌≡◌, refl, sym, ap, ◌∙◌}
use mathlib.Core.Bool.{Bool, true, false, cond, not, ◌&&◌, ◌||◌, true≢false, false≢true}
use mathlib.Core.Logic.{inr}
use mathlib.Core.List.{List, [], ◌∷◌, map}
use Prim.Native.Nat.{ℕ, suc, ◌≤◌, ◌<◌}
use native.Mathlib.Decide.{dec_le}
use native.Mathlib.Nat.{lt_of_not-le}
use native.Mathlib.Omega.{arith}
use lib.Dec.{eqb}
use borrow.Author.Tests.{le-leb, leb-true, lt-ltb, ltb-true, not-true}
use Rattle.rules.specs.Tests.{all, any, within}
use Rattle.rules.specs.Settings.{rows, settings_accepted, limit_at}
use Rattle.rules.specs.Samples.{Slice, Equipment, frequency, permission, permitted, phase, lowest, highest, mean}
use Rattle.rules.specs.Counters.{Kind, undervoltage, overvoltage, underfrequency, overfrequency, kinds, Rule, broken, in_range, limit_rule, limit_rules, trip_rules, ready_rule}
use Rattle.rules.specs.Regions.{ceases}
use Rattle.rules.specs.Service.{serves, exports}
use Rattle.rules.specs.History.{History, streak, complete, serving, history_status}
use Rattle.rules.specs.declared.Settings.{Settings}
use Rattle.claims.specs.Droop.{SameButFrequency}
use Rattle.basics.proofs.Bools.{both, true-within, within-true, at_all}
use Rattle.laws.proofs.Accepted.{sheet-rows}
use Rattle.laws.proofs.Limits.{LevelIn, LimitsIn, limits-in}
use Rattle.theorems.proofs.Recovery.{gives}
use Rattle.theorems.proofs.RideThroughEnds.{silent, given-by-voltages}

-- ---- a rule that counts one sample only where it counts another is complete only where it is with the other

streak-low : (t : Slice → Bool) (a b : Slice) (h : History) → (t a ≡ true → t b ≡ true) → streak t (a ∷ h) ≤ streak t (b ∷ h)
unfolding streak
streak-low t a b h too = by (t a) refl
  where
    by : (s : Bool) → t a ≡ s → cond s (suc (streak t h)) 0 ≤ cond (t b) (suc (streak t h)) 0
    by true p = rw (too p) (omega arith)
    by false p = omega arith

complete-too : (r : Rule) (a b : Slice) (h : History) → (r.counts a ≡ true → r.counts b ≡ true) → complete (a ∷ h) r ≡ true → complete (b ∷ h) r ≡ true
complete-too r a b h too p =
    le-leb r.top (streak r.counts (b ∷ h))
    (omega (arith, streak-low r.counts a b h too, leb-true r.top (streak r.counts (a ∷ h)) p))

or-too : (a b c d : Bool) → (a ≡ true → c ≡ true) → (b ≡ true → d ≡ true) → (a || b) ≡ true → (c || d) ≡ true
or-too true b c d f g p = rw (f refl) refl
or-too false b true d f g p = refl
or-too false b false d f g p = g p

module _ (e : Equipment) (st : Settings) (x y : Slice) (same : SameButFrequency x y) where
  -- ---- what the samples share

  phase-same : (i : ℕ) → i < 3 → phase e x i ≡ phase e y i
  phase-same i low = ap e.sensing (same.codes i low)

  pub lowest-same : lowest e x ≡ lowest e y
  lowest-same = omega (arith, phase-same 0 (omega arith), phase-same 1 (omega arith), phase-same 2 (omega arith))

  pub highest-same : highest e x ≡ highest e y
  highest-same = omega (arith, phase-same 0 (omega arith), phase-same 1 (omega arith), phase-same 2 (omega arith))

  pub mean-same : mean e x ≡ mean e y
  mean-same = omega (arith, phase-same 0 (omega arith), phase-same 1 (omega arith), phase-same 2 (omega arith))

  permitted-same : permitted x ≡ permitted y
  permitted-same = ap (λ (n : ℕ). eqb n 1) same.permission

  module _ (ok : settings_accepted st ≡ true) (above : 60036 < frequency x) (up : frequency x ≤ frequency y) where
    -- ---- limits and criteria

    breaks-too : (k : Kind) (level : ℕ) → LevelIn k level → broken e k level x ≡ true → broken e k level y ≡ true
    unfolding broken
    breaks-too undervoltage level l p = rw lowest-same at p
    breaks-too overvoltage level l p = rw highest-same at p
    breaks-too underfrequency level l p = absurd (omega (arith, ltb-true (frequency x) level p, l.1))
    breaks-too overfrequency level l p = lt-ltb level (frequency y) (omega (arith, ltb-true level (frequency x) p))

    enters-too : in_range e st y ≡ true → in_range e st x ≡ true
    unfolding in_range rows
    enters-too p =
        let there : within st.hertz.low st.hertz.high (frequency y) ≡ true = at_all _ p 3 in
        let here : within st.hertz.low st.hertz.high (frequency x) ≡ true
        = true-within st.hertz.low st.hertz.high (frequency x) (omega (arith, (sheet-rows st ok).hertz)) (omega (arith, within-true there)) in
        rw (permitted-same, lowest-same, highest-same, here ∙ sym there) p

    trips-too : (h : History) (i : ℕ) (ks : List Kind) → LimitsIn st i ks
        → any (map (complete (x ∷ h)) (limit_rules e st i ks)) ≡ true → any (map (complete (y ∷ h)) (limit_rules e st i ks)) ≡ true
    unfolding any
    trips-too h i [] l p = absurd (false≢true p)
    trips-too h i (k ∷ ks) l p =
        or-too (complete (x ∷ h) (limit_rule e st k i)) _ (complete (y ∷ h) (limit_rule e st k i)) _
        (complete-too (limit_rule e st k i) x y h (breaks-too k (limit_at st i).level l.0.level_in)) (trips-too h (suc i) ks l.1) p

    -- ---- in service

    stays-too : (permit-x permit-y trip-x trip-y : Bool) → permit-x ≡ permit-y → (trip-x ≡ true → trip-y ≡ true)
        → (permit-y && not trip-y) ≡ true → (permit-x && not trip-x) ≡ true
    stays-too permit-x true true trip-y p f q = absurd (true≢false (sym q ∙ ap not (f refl)))
    stays-too permit-x true false trip-y p f q = rw p refl
    stays-too permit-x false trip-x trip-y p f q = absurd (false≢true q)

    pub serves-too : (h : History) → serving e st (y ∷ h) ≡ true → serving e st (x ∷ h) ≡ true
    unfolding serving
    serves-too h = by (serving e st h)
      where
        trip : Slice → Bool
        trip z = any (map (complete (z ∷ h)) (trip_rules e st))

        by : (was : Bool) → serves was (permitted y) (trip y) (complete (y ∷ h) (ready_rule e st)) ≡ true
            → serves was (permitted x) (trip x) (complete (x ∷ h) (ready_rule e st)) ≡ true
        by true p = stays-too (permitted x) (permitted y) (trip x) (trip y) permitted-same (trips-too h 0 kinds (limits-in st ok)) p
        by false p = complete-too (ready_rule e st) y x h enters-too p

    -- ---- power

    -- in service, a board gives power with the lower frequency wherever one does with the higher
    pub gives-too : (h g : History) → serving e st (x ∷ h) ≡ true → exports (history_status e st (y ∷ g)) ≡ true → exports (history_status e st (x ∷ h)) ≡ true
    gives-too h g on p =
        let top = in_reach g p in
        let given = (given-by-voltages e st y g (omega arith) top (gives e st y g p).0).0 p in
        (given-by-voltages e st x h (omega arith) (omega arith) on).1
        (rw lowest-same given.0, rw highest-same given.1)
      where
        in_reach : (g : History) → exports (history_status e st (y ∷ g)) ≡ true → frequency y ≤ 62000
        in_reach g p = by (dec_le (frequency y) 62000)
          where
            by : Dec (frequency y ≤ 62000) → frequency y ≤ 62000
            by (yes low) = low
            by (no high) = absurd (true≢false (sym p ∙ silent e st y g (inr (lt_of_not-le high))))
