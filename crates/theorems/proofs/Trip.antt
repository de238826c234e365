-- The laws of trip and return on histories; one law says for an arbitrary rule when it is complete.
-- Assumes nothing.
use mathlib.Core.Path.{◌≡◌, refl, sym, ◌∙◌}
use mathlib.Core.Bool.{Bool, true, false, cond, not, ◌&&◌, ◌||◌, false≢true, true≢false}
use mathlib.Core.Logic.{◌⊎◌, inl, inr, ⊎_elim, ◌↔◌}
use mathlib.Core.List.{List, [], ◌∷◌, map}
use Prim.Native.Nat.{ℕ, zero, suc, ◌+◌, ◌≤◌, ◌<◌, zero-le, suc-le-suc}
use native.Mathlib.Nat.{le_of_suc-le-suc, not-suc-le-zero, le_trans, lt_of_lt_of_le, add-zero, add-suc, suc-add, zero-add}
use native.Mathlib.Omega.{arith}
use lib.ListN.{length, get_or}
use borrow.Author.Tests.{leb-true, le-leb}
use Rattle.rules.specs.Tests.{any}
use Rattle.rules.specs.Settings.{settings_accepted}
use Rattle.rules.specs.Samples.{Slice, Equipment, permitted, frequency, lowest, highest}
use Rattle.rules.specs.Counters.{Rule, Kind, kinds, undervoltage, in_range, limit_rule, limit_rules, trip_rules, ready_rule}
use Rattle.rules.specs.Regions.{region_in, region_of}
use Rattle.rules.specs.History.{History, streak, complete, serving}
use Rattle.rules.specs.declared.Settings.{Settings}
use Rattle.rules.specs.declared.Region.TheVariants.{Continuous}
use Rattle.claims.specs.Held.{Held, RanOut, WaitFull}
use Rattle.claims.specs.Sound.{Sound}
use Rattle.laws.proofs.InRange.{continuous-in}

-- ---- a streak is what held at each of the last samples

streak-length : (t : Slice → Bool) (h : History) → streak t h ≤ length h
unfolding streak
streak-length t [] = zero-le
streak-length t (x ∷ h) = by (t x) (streak-length t h)
  where
    by : (b : Bool) → streak t h ≤ length h → cond b (suc (streak t h)) 0 ≤ suc (length h)
    by true l = suc-le-suc l
    by false l = zero-le

streak-each : (t : Slice → Bool) (h : History) (k : ℕ) → k < streak t h → t (get_or h k []) ≡ true
unfolding streak
streak-each t [] k l = absurd (not-suc-le-zero l)
streak-each t (x ∷ h) zero l = by (t x) refl
  where
    by : (b : Bool) → t x ≡ b → t x ≡ true
    by true p = p
    by false p = absurd (not-suc-le-zero (rw p at l))
streak-each t (x ∷ h) (suc k) l = streak-each t h k (by (t x) l)
  where
    by : (b : Bool) → suc k < cond b (suc (streak t h)) 0 → k < streak t h
    by true m = le_of_suc-le-suc m
    by false m = absurd (not-suc-le-zero m)

held-streak : (t : Slice → Bool) (n : ℕ) (h : History) → Held t n h → n ≤ streak t h
unfolding streak
held-streak t zero h a = zero-le
held-streak t (suc n) [] a = absurd (not-suc-le-zero a.enough)
held-streak t (suc n) (x ∷ h) a =
    rw (a.throughout 0 (omega arith))
    (suc-le-suc (held-streak t n h (record { enough = le_of_suc-le-suc a.enough; throughout = λ k l. a.throughout (suc k) (suc-le-suc l) })))

-- the counter rule, for an arbitrary rule: it is complete exactly when it held at each of the last samples of its whole time
pub complete-held : (h : History) (r : Rule) → (complete h r ≡ true) ↔ Held r.counts r.top h
complete-held h r = (there, λ a. le-leb r.top (streak r.counts h) (held-streak r.counts r.top h a))
  where
    there : complete h r ≡ true → Held r.counts r.top h
    there p =
        let l : r.top ≤ streak r.counts h = leb-true r.top (streak r.counts h) p in
        record { enough = le_trans l (streak-length r.counts h); throughout = λ k m. streak-each r.counts h k (lt_of_lt_of_le m l) }

-- ---- some limit's bit

-- the rule of limit j of the kinds from limit i on
abbrev rule_at : Equipment → Settings → ℕ → List Kind → ℕ → Rule
rule_at e st i ks j = limit_rule e st (get_or ks j undervoltage) (i + j)

abbrev Some : (Rule → Bool) → Equipment → Settings → ℕ → List Kind → Type 0
Some g e st i ks = (j : ℕ) × (j < length ks) × (g (rule_at e st i ks j) ≡ true)

some_of : (g : Rule → Bool) (e : Equipment) (st : Settings) (i : ℕ) (ks : List Kind) → any (map g (limit_rules e st i ks)) ≡ true → Some g e st i ks
unfolding any
some_of g e st i [] p = absurd (false≢true p)
some_of g e st i (k ∷ ks) p = by (g (limit_rule e st k i)) refl p (some_of g e st (suc i) ks)
  where
    by : (b : Bool) → g (limit_rule e st k i) ≡ b → (b || any (map g (limit_rules e st (suc i) ks))) ≡ true
        → (any (map g (limit_rules e st (suc i) ks)) ≡ true → Some g e st (suc i) ks) → Some g e st i (k ∷ ks)
    by true q _ _ = (0, omega arith, rw add-zero q)
    by false q m f = let r = f m in (suc r.0, suc-le-suc r.1, rw (add-suc, ← suc-add) r.2)

of_some : (g : Rule → Bool) (e : Equipment) (st : Settings) (i : ℕ) (ks : List Kind) (j : ℕ) → j < length ks → g (rule_at e st i ks j) ≡ true
    → any (map g (limit_rules e st i ks)) ≡ true
unfolding any
of_some g e st i [] j l p = absurd (not-suc-le-zero l)
of_some g e st i (k ∷ ks) zero l p = rw (rw add-zero at p)
of_some g e st i (k ∷ ks) (suc j) l p =
    by (g (limit_rule e st k i)) (of_some g e st (suc i) ks j (le_of_suc-le-suc l) (rw (add-suc, ← suc-add) at p))
  where
    by : (b : Bool) → any (map g (limit_rules e st (suc i) ks)) ≡ true → (b || any (map g (limit_rules e st (suc i) ks))) ≡ true
    by true h = refl
    by false h = h

module _ (e : Equipment) (st : Settings) where
  -- some limit's bit is 1 exactly when some limit has been broken for its whole clearing time
  pub ran_out : (h : History) → (any (map (complete h) (trip_rules e st)) ≡ true) ↔ RanOut e st h
  ran_out h = (there, back)
    where
      there : any (map (complete h) (trip_rules e st)) ≡ true → RanOut e st h
      there p =
          let s = some_of (complete h) e st 0 kinds p in
          (s.0, s.1, (complete-held h (limit_rule e st (get_or kinds s.0 undervoltage) s.0)).0 (rw zero-add at s.2))

      back : RanOut e st h → any (map (complete h) (trip_rules e st)) ≡ true
      back s =
          of_some (complete h) e st 0 kinds s.0 s.1
          (rw zero-add ((complete-held h (limit_rule e st (get_or kinds s.0 undervoltage) s.0)).1 s.2))

  -- ---- trip and return

  -- permission and no bit, or not
  falls : (a o : Bool) → (a && not o) ≡ false → (a ≡ false) ⊎ (o ≡ true)
  falls true true p = inr refl
  falls true false p = absurd (true≢false p)
  falls false o p = inl refl

  falls-permit : (a o : Bool) → a ≡ false → (a && not o) ≡ false
  falls-permit a o p = rw p

  falls-bit : (a o : Bool) → o ≡ true → (a && not o) ≡ false
  falls-bit true o p = rw p
  falls-bit false o p = refl

  pub trip-law : (h : History) (x : Slice) → serving e st h ≡ true → (serving e st (x ∷ h) ≡ false) ↔ ((permitted x ≡ false) ⊎ RanOut e st (x ∷ h))
  unfolding serving
  trip-law h x p = (there, back)
    where
      was : serving e st (x ∷ h) ≡ (permitted x && not (any (map (complete (x ∷ h)) (trip_rules e st))))
      was = rw p

      there : serving e st (x ∷ h) ≡ false → (permitted x ≡ false) ⊎ RanOut e st (x ∷ h)
      there f =
          ⊎_elim inl (λ o. inr ((ran_out (x ∷ h)).0 o))
          (falls (permitted x) (any (map (complete (x ∷ h)) (trip_rules e st))) (sym was ∙ f))

      back : (permitted x ≡ false) ⊎ RanOut e st (x ∷ h) → serving e st (x ∷ h) ≡ false
      back =
          ⊎_elim (λ f. was ∙ falls-permit (permitted x) (any (map (complete (x ∷ h)) (trip_rules e st))) f)
          (λ s. was ∙ falls-bit (permitted x) (any (map (complete (x ∷ h)) (trip_rules e st))) ((ran_out (x ∷ h)).1 s))

  pub return-law : (h : History) (x : Slice) → serving e st h ≡ false → (serving e st (x ∷ h) ≡ true) ↔ WaitFull e st (x ∷ h)
  unfolding serving
  return-law h x p = (λ f. (complete-held (x ∷ h) (ready_rule e st)).0 (sym was ∙ f), λ a. was ∙ (complete-held (x ∷ h) (ready_rule e st)).1 a)
    where
      was : serving e st (x ∷ h) ≡ complete (x ∷ h) (ready_rule e st)
      was = rw p

  -- ---- a return is in the continuous operation region

  pub in-range-continuous : Sound e → settings_accepted st ≡ true → (x : Slice) → in_range e st x ≡ true → region_of e st x ≡ Continuous
  unfolding in_range region_of
  in-range-continuous sound ok x p = continuous-in st ok (permitted x) (lowest e x) (highest e x) (frequency x) p (region_in e st) sound.continuous

  pub return-continuous : Sound e → settings_accepted st ≡ true → (h : History) (x : Slice) → serving e st h ≡ false → serving e st (x ∷ h) ≡ true
      → region_of e st x ≡ Continuous
  return-continuous sound ok h x p q = in-range-continuous sound ok x (((return-law h x p).0 q).throughout 0 (omega arith))
