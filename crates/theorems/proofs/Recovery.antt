-- Power is back forty samples after a cessation (spec 13.9): the recovery count by the samples that give power.
-- Assumes nothing.
use mathlib.Core.Path.{◌≡◌, refl, sym, ap, ◌∙◌}
use mathlib.Core.Bool.{Bool, true, false, cond, false≢true, true≢false}
use mathlib.Core.List.{List, [], ◌∷◌, map}
use Prim.Native.Nat.{ℕ, suc, ◌+◌, ◌≤◌, ◌<◌, min}
use native.Mathlib.Omega.{arith}
use lib.ListN.{length, get_or, drop}
use Rattle.rules.specs.Settings.{settings_accepted}
use Rattle.rules.specs.Samples.{Slice, Equipment, available, sample_accepted}
use Rattle.rules.specs.Regions.{region_of, ceases}
use Rattle.rules.specs.Service.{status_of, exports, without_power, recovery_top, recovering, recovery_limit, vars_of, cessation_recovery, leaves, watts_of}
use Rattle.rules.specs.History.{History, followed_by, serving, since_cessation, history_status, history_share, history_recovery, watts_holding, history_held, history_watts, history_vars, history_report}
use Rattle.rules.specs.declared.Settings.{Settings}
use Rattle.rules.specs.declared.Region.{Region}
use Rattle.rules.specs.declared.Region.TheVariants.{Continuous, Mandatory, Momentary, Cease}
use Rattle.claims.specs.Sound.{Sound}
use Rattle.claims.specs.Recovery.{GivesPower, Ceased, left_by_others, RestoresPower}
use Rattle.laws.proofs.Accepted.{sample-right}
use Rattle.theorems.proofs.Demand2.{service-of, tripped-of}
use Rattle.theorems.proofs.Trip.{return-continuous}
use Rattle.theorems.proofs.Trace.{since-step}
use Rattle.laws.proofs.Events.{recovery-top, watts-within, left-available, standing-then}

-- ---- what a status tells

-- one that gives power: in service, outside momentary cessation and cease to energize
giving-region : (on : Bool) (r : Region) (full : Bool) → exports (status_of on r full) ≡ true → (on ≡ true) × (ceases r ≡ false)
giving-region false r full p = absurd (false≢true p)
giving-region true Continuous full p = (refl, refl)
giving-region true Mandatory full p = (refl, refl)
giving-region true Momentary full p = absurd (false≢true p)
giving-region true Cease full p = absurd (false≢true p)

-- one without power: in service, in one of them
ceased-region : (on : Bool) (r : Region) (full : Bool) → without_power (status_of on r full) ≡ true → (on ≡ true) × (ceases r ≡ true)
ceased-region false r full p = absurd (false≢true p)
ceased-region true Continuous false p = absurd (false≢true p)
ceased-region true Continuous true p = absurd (false≢true p)
ceased-region true Mandatory full p = absurd (false≢true p)
ceased-region true Momentary full p = (refl, refl)
ceased-region true Cease full p = (refl, refl)

module _ (e : Equipment) (st : Settings) where
  -- ---- one sample more

  pub one_more : (x : Slice) (h : History)
      → history_recovery e st (x ∷ h) ≡ recovering (serving e st h) (serving e st (x ∷ h)) (ceases (region_of e st x)) (history_recovery e st h)
  unfolding history_recovery since_cessation
  one_more x h = sym (since-step (serving e st h) (serving e st (x ∷ h)) (ceases (region_of e st x)) (since_cessation e st h))

  pub gives : (x : Slice) (h : History) → exports (history_status e st (x ∷ h)) ≡ true → (serving e st (x ∷ h) ≡ true) × (ceases (region_of e st x) ≡ false)
  unfolding history_status
  gives x h p = giving-region (serving e st (x ∷ h)) (region_of e st x) _ p

  -- a sample that gives power counts for a board that was in service, and leaves 40 at a return
  pub gives-counts : (x : Slice) (h : History) → exports (history_status e st (x ∷ h)) ≡ true → serving e st h ≡ true
      → history_recovery e st (x ∷ h) ≡ min recovery_top (suc (history_recovery e st h))
  gives-counts x h p was = let g = gives x h p in one_more x h ∙ rw (was, g.0, g.1)

  returns-full : (x : Slice) (h : History) → serving e st h ≡ false → history_recovery e st (x ∷ h) ≡ recovery_top
  returns-full x h was = one_more x h ∙ rw was (by (serving e st (x ∷ h)))
    where
      by : (on : Bool) → recovering false on (ceases (region_of e st x)) (history_recovery e st h) ≡ recovery_top
      by true = refl
      by false = refl

  tripped-full : (h : History) → serving e st h ≡ false → history_recovery e st h ≡ recovery_top
  unfolding history_recovery since_cessation
  tripped-full [] p = refl
  tripped-full (x ∷ h) p = rw p

  -- ---- a run that gives power

  run-counts : (run : List Slice) (h : History) → serving e st h ≡ true → GivesPower (history_report e st) h run
      → history_recovery e st (followed_by h run) ≡ min recovery_top (length run + history_recovery e st h)
  unfolding history_report
  run-counts [] h was g = omega (arith, recovery-top e st h)
  run-counts (x ∷ run) h was g =
      let c = gives-counts x h g.0 was in
      let r = run-counts run (x ∷ h) (gives x h g.0).0 g.1 in
      omega (arith, c, r)

  run-full : (run : List Slice) (h : History) → GivesPower (history_report e st) h run → 40 ≤ length run → history_recovery e st (followed_by h run) ≡ recovery_top
  unfolding history_report
  run-full [] h g long = absurd (omega (arith, long))
  run-full (x ∷ run) h g long = by (serving e st h) refl
    where
      by : (was : Bool) → serving e st h ≡ was → history_recovery e st (followed_by (x ∷ h) run) ≡ recovery_top
      by true p = omega (arith, run-counts (x ∷ run) h p g, long)
      by false p = omega (arith, run-counts run (x ∷ h) (gives x h g.0).0 g.1, returns-full x h p)

  -- ---- a cessation

  module _ (sound : Sound e) (ok : settings_accepted st ≡ true) where
    ceased-serving : (h : History) → without_power (history_status e st h) ≡ true → serving e st h ≡ true
    unfolding history_status
    ceased-serving [] p = absurd (false≢true p)
    ceased-serving (x ∷ h) p = (ceased-region (serving e st (x ∷ h)) (region_of e st x) _ p).0

    -- a board that ceases was in service before: a return is in the continuous operation region
    ceased-none : (h : History) → without_power (history_status e st h) ≡ true → history_recovery e st h ≡ 0
    unfolding history_status
    ceased-none [] p = absurd (false≢true p)
    ceased-none (x ∷ h) p = by (serving e st h) refl
      where
        found : (serving e st (x ∷ h) ≡ true) × (ceases (region_of e st x) ≡ true)
        found = ceased-region (serving e st (x ∷ h)) (region_of e st x) _ p

        by : (was : Bool) → serving e st h ≡ was → history_recovery e st (x ∷ h) ≡ 0
        by true was = one_more x h ∙ rw (was, found.0, found.1)
        by false was = absurd (true≢false (sym found.1 ∙ ap ceases (return-continuous e st sound ok h x was found.0)))

  -- ---- the limit

  watts-bound : (h : History) → history_watts e st h ≤ recovery_limit (history_recovery e st h)
  unfolding history_watts watts_holding
  watts-bound [] = omega arith
  watts-bound (x ∷ h) = watts-within e st x _ _ (history_recovery e st (x ∷ h)) _

  watts-held : (x : Slice) (h : History) → exports (history_status e st (x ∷ h)) ≡ true
      → history_watts e st (x ∷ h) ≡ min (left_by_others e st x (history_report e st (x ∷ h))) (recovery_limit (history_recovery e st (x ∷ h)))
  unfolding history_report history_watts watts_holding history_vars watts_of
  watts-held x h on =
      let vars = vars_of e st x (history_status e st (x ∷ h)) in
      rw on (standing-then e st x (history_share e st (x ∷ h)) (history_held e st (x ∷ h)) vars (leaves cessation_recovery (recovery_limit (history_recovery e st (x ∷ h)))))

  -- where the count is 40 it lets the rating through, and available power is never above that
  watts-free : (x : Slice) (h : History) → sample_accepted x ≡ true → exports (history_status e st (x ∷ h)) ≡ true → history_recovery e st (x ∷ h) ≡ 40
      → history_watts e st (x ∷ h) ≡ left_by_others e st x (history_report e st (x ∷ h))
  unfolding history_report
  watts-free x h good on full =
      let low : left_by_others e st x (history_report e st (x ∷ h)) ≤ available x
      = left-available e st x (history_share e st (x ∷ h)) (history_held e st (x ∷ h)) (history_vars e st (x ∷ h)) in
      omega (arith, watts-held x h on, full, low, (sample-right x good).available-top)

  pub restores-power : Sound e → settings_accepted st ≡ true → RestoresPower e st (history_report e st)
  unfolding history_report
  restores-power sound ok =
      let counted : (h : History) → Ceased (history_report e st) h → (run : List Slice) → GivesPower (history_report e st) h run
      → history_recovery e st (followed_by h run) ≡ min 40 (length run)
      = λ h c run g. omega (arith, run-counts run h (ceased-serving sound ok h c) g, ceased-none sound ok h c) in
      record {
        ceased = ceased-none sound ok;
        tripped = λ h p. tripped-full h (tripped-of e st h p);
        returned = λ x h p q. returns-full x h (tripped-of e st h p);
        goes_on = λ x h was on. gives-counts x h on (sym (service-of e st h) ∙ was);
        counts = counted;
        limit = λ h c run g few. omega (arith, counted h c run g, few);
        restored = λ h run g long. run-full run h g long;
        lesser = watts-held;
        free = watts-free;
        bound = watts-bound;
      }
