-- A report without bits does not meet demand 3: a limit's counter of a tripped board shows in its bit alone, since a return clears it.
-- Assumes nothing.
use mathlib.Core.Path.{◌≡◌, refl, sym, ap, ap₂, ◌∙◌}
use mathlib.Core.Bool.{Bool, true, false, cond, false≢true}
use mathlib.Core.List.{List, [], ◌∷◌, ◌++◌, map}
use Prim.Native.Nat.{ℕ, suc, max}
use native.Mathlib.Omega.{arith}
use lib.Dec.{leb}
use borrow.Author.Tests.{lt-leb}
use Rattle.rules.specs.Tests.{any, within}
use Rattle.rules.specs.Settings.{settings_accepted, limit_at}
use Rattle.rules.specs.Samples.{Slice, Equipment, permitted, frequency, lowest, highest}
use Rattle.rules.specs.Counters.{Kind, undervoltage, overvoltage, underfrequency, overfrequency, kinds, broken, in_range}
use Rattle.rules.specs.Counters.{limit_rules, ready_rule}
use Rattle.rules.specs.Service.{serves, vars_of, watts_of}
use Rattle.rules.specs.History.{History, followed_by, streak, complete, serving, climbed, since_cessation, history_status}
use Rattle.rules.specs.History.{history_share, history_recovery, history_side, watts_holding, history_held, history_watts}
use Rattle.rules.specs.History.{history_vars, history_report}
use Rattle.rules.specs.declared.Settings.{Settings}
use Rattle.claims.specs.TwoHistories.{AgreeBy}
use Rattle.laws.proofs.Limits.{LevelIn, LimitsIn, limits-in}
use Rattle.laws.proofs.InRange.{breaks-none}
use Rattle.laws.proofs.Events.{tripped-side, side-none}
use Rattle.theorems.proofs.Trace.{same-items}
use Rattle.equipment.proofs.Examples.{tabled}
use Rattle.shams.specs.Shams.{report_without_bits}

-- a sample put before all others
abbrev under : History → Slice → History
under h x = h ++ (x ∷ [])

-- some sample of the history fails the test
abbrev Stops : (Slice → Bool) → History → Type 0
Stops t [] = ⊥
Stops t (y ∷ h) = cond (t y) (Stops t h) (Unit {0})

streak-under : (t : Slice → Bool) (x : Slice) (h : History) → Stops t h → streak t (under h x) ≡ streak t h
unfolding streak
streak-under t x [] s = absurd s
streak-under t x (y ∷ h) s = by (t y) s (streak-under t x h)
  where
    by : (b : Bool) → cond b (Stops t h) (Unit {0}) → (Stops t h → streak t (under h x) ≡ streak t h)
        → cond b (suc (streak t (under h x))) 0 ≡ cond b (suc (streak t h)) 0
    by true q f = ap suc (f q)
    by false q f = refl

streak-miss : (t : Slice → Bool) (x : Slice) → t x ≡ false → (h : History) → streak t (under h x) ≡ streak t h
unfolding streak
streak-miss t x e [] = rw e
streak-miss t x e (y ∷ h) = ap (λ (n : ℕ). cond (t y) (suc n) 0) (streak-miss t x e h)

stops-more : (t : Slice → Bool) (y : Slice) (h : History) → Stops t h → Stops t (y ∷ h)
stops-more t y h s = by (t y)
  where
    by : (b : Bool) → cond b (Stops t h) (Unit {0})
    by true = s
    by false = tt

stops-here : (t : Slice → Bool) (y : Slice) (h : History) → t y ≡ false → Stops t (y ∷ h)
stops-here t y h e = rw e tt

module _ (e : Equipment) (st : Settings) (ok : settings_accepted st ≡ true) where
  -- a sample in range breaks no limit
  in-range-breaks-none : (x : Slice) → in_range e st x ≡ true → (k : Kind) (n : ℕ) → LevelIn k n → broken e k n x ≡ false
  unfolding in_range broken
  in-range-breaks-none x p undervoltage n i = breaks-none st ok (permitted x) (lowest e x) (highest e x) (frequency x) p undervoltage n i
  in-range-breaks-none x p overvoltage n i = breaks-none st ok (permitted x) (lowest e x) (highest e x) (frequency x) p overvoltage n i
  in-range-breaks-none x p underfrequency n i = breaks-none st ok (permitted x) (lowest e x) (highest e x) (frequency x) p underfrequency n i
  in-range-breaks-none x p overfrequency n i = breaks-none st ok (permitted x) (lowest e x) (highest e x) (frequency x) p overfrequency n i

  ready-in-range : (x : Slice) (h : History) → complete (x ∷ h) (ready_rule e st) ≡ true → in_range e st x ≡ true
  unfolding streak
  ready-in-range x h p = by (in_range e st x) refl
    where
      by : (b : Bool) → in_range e st x ≡ b → in_range e st x ≡ true
      by true q = q
      by false q = absurd (false≢true (sym (lt-leb (max 1 st.wait) 0 (omega arith)) ∙ rw q at p))

  -- a board in service has had a sample that breaks none
  serving-stops : (h : History) → serving e st h ≡ true → (k : Kind) (n : ℕ) → LevelIn k n → Stops (broken e k n) h
  unfolding serving
  serving-stops [] p k n i = absurd (false≢true p)
  serving-stops (x ∷ h) p k n i = by (serving e st h) refl p (λ q. serving-stops h q k n i)
    where
      by : (b : Bool) → serving e st h ≡ b
          → serves b (permitted x) (any (map (complete (x ∷ h)) (limit_rules e st 0 kinds))) (complete (x ∷ h) (ready_rule e st)) ≡ true
          → (serving e st h ≡ true → Stops (broken e k n) h)
          → Stops (broken e k n) (x ∷ h)
      by true q r f = stops-more (broken e k n) x h (f q)
      by false q r f = stops-here (broken e k n) x h (in-range-breaks-none x (ready-in-range x h r) k n i)

  module _ (x : Slice) (out : in_range e st x ≡ false) where
    bits-under : (y : Slice) (h : History) → serving e st h ≡ true → (i : ℕ) (ks : List Kind) → LimitsIn st i ks
        → map (complete (y ∷ under h x)) (limit_rules e st i ks) ≡ map (complete (y ∷ h)) (limit_rules e st i ks)
    bits-under y h p i [] l = refl
    bits-under y h p i (k ∷ ks) l =
        ap₂ ◌∷◌
        (ap (leb (limit_at st i).clearing)
        (streak-under (broken e k (limit_at st i).level) x (y ∷ h)
        (stops-more (broken e k (limit_at st i).level) y h (serving-stops h p k (limit_at st i).level l.0.level_in))))
        (bits-under y h p (suc i) ks l.1)

    serving-under : (h : History) → serving e st (under h x) ≡ serving e st h
    unfolding serving
    serving-under [] = ap (leb (max 1 st.wait)) (streak-miss (in_range e st) x out []) ∙ none
      where
        none : leb (max 1 st.wait) (streak (in_range e st) []) ≡ false
        none = unfold streak in lt-leb (max 1 st.wait) 0 (omega arith)
    serving-under (y ∷ h) = rw (serving-under h) (by (serving e st h) refl)
      where
        by : (b : Bool) → serving e st h ≡ b
            → serves b (permitted y) (any (map (complete (y ∷ under h x)) (limit_rules e st 0 kinds))) (complete (y ∷ under h x) (ready_rule e st))
            ≡ serves b (permitted y) (any (map (complete (y ∷ h)) (limit_rules e st 0 kinds))) (complete (y ∷ h) (ready_rule e st))
        by true q = ap (λ (bs : List Bool). serves true (permitted y) (any bs) false) (bits-under y h q 0 kinds (limits-in st ok))
        by false q = ap (leb (max 1 st.wait)) (streak-miss (in_range e st) x out (y ∷ h))

    alone-tripped : serving e st (under [] x) ≡ false
    unfolding serving
    alone-tripped = serving-under []

    climbed-under : (h : History) → climbed e st (under h x) ≡ climbed e st h
    unfolding climbed
    climbed-under [] = rw alone-tripped
    climbed-under (y ∷ h) = rw (serving-under h, serving-under (y ∷ h), climbed-under h)

    -- ---- what is shown beside the bits

    status-under : (h : History) → history_status e st (under h x) ≡ history_status e st h
    unfolding history_status
    status-under [] = rw alone-tripped
    status-under (y ∷ h) = rw (serving-under (y ∷ h), climbed-under (y ∷ h))

    alone-status : history_status e st (under [] x) ≡ 0
    unfolding history_status
    alone-status = rw alone-tripped

    share-under : (h : History) → history_share e st (under h x) ≡ history_share e st h
    unfolding history_share
    share-under h = rw (climbed-under h)

    since-under : (h : History) → since_cessation e st (under h x) ≡ since_cessation e st h
    unfolding since_cessation
    since-under [] = rw alone-tripped
    since-under (y ∷ h) = rw (serving-under h, serving-under (y ∷ h), since-under h)

    recovery-under : (h : History) → history_recovery e st (under h x) ≡ history_recovery e st h
    unfolding history_recovery
    recovery-under h = rw (since-under h)

    side-under : (h : History) → history_side e st (under h x) ≡ history_side e st h
    unfolding history_side
    side-under [] = rw alone-tripped
    side-under (y ∷ h) = rw (serving-under (y ∷ h))

    holding-under : (h : History) (held : ℕ) → watts_holding e st (under h x) held ≡ watts_holding e st h held
    unfolding watts_holding watts_of within
    holding-under [] held = rw alone-status
    holding-under (y ∷ h) held = rw (status-under (y ∷ h), share-under (y ∷ h), recovery-under (y ∷ h))

    held-under : (h : History) → history_held e st (under h x) ≡ history_held e st h
    unfolding history_held
    held-under [] = side-none e st (x ∷ []) (tripped-side e st (x ∷ []) alone-tripped)
    held-under (y ∷ h) = rw (side-under h, side-under (y ∷ h), held-under h, holding-under h (history_held e st h))

    watts-under : (h : History) → history_watts e st (under h x) ≡ history_watts e st h
    unfolding history_watts
    watts-under h = rw (held-under h) (holding-under h (history_held e st h))

    vars-under : (h : History) → history_vars e st (under h x) ≡ history_vars e st h
    unfolding history_vars vars_of within
    vars-under [] = rw alone-status
    vars-under (y ∷ h) = rw (status-under (y ∷ h))

-- ---- a run after the sample, and the same run after none

run-under : (x : Slice) (run : List Slice) (h : History) → followed_by (under h x) run ≡ under (followed_by h run) x
run-under x [] h = refl
run-under x (y ∷ run) h = run-under x run (y ∷ h)

-- a sample out of range, alone or not there at all: without bits the reports agree for ever
pub agree-without-bits : (st : Settings) → settings_accepted st ≡ true → (x : Slice) → in_range tabled st x ≡ false → AgreeBy (report_without_bits tabled st) [] (x ∷ [])
unfolding report_without_bits history_report
agree-without-bits st ok x out run l a =
    same (followed_by [] run) ∙ ap (report_without_bits tabled st) (sym (run-under x run []))
  where
    same : (h : History) → (report_without_bits tabled) st h ≡ (report_without_bits tabled) st (under h x)
    same h =
        same-items (sym (status-under tabled st ok x out h)) refl (sym (share-under tabled st ok x out h))
        (sym (recovery-under tabled st ok x out h)) (sym (side-under tabled st ok x out h)) (sym (held-under tabled st ok x out h))
        (sym (watts-under tabled st ok x out h)) (sym (vars-under tabled st ok x out h))
