-- Where the frequency is beyond ride-through there is no power (spec 13.12): the worst region of the three is then cease.
-- Assumes nothing.
use mathlib.Core.Path.{◌≡◌, refl, sym, ap, ◌∙◌}
use mathlib.Core.Bool.{Bool, true, false, cond, not, ◌&&◌, true≢false}
use mathlib.Core.Logic.{◌⊎◌, inl, inr, ◌↔◌}
use mathlib.Core.List.{◌∷◌}
use Prim.Native.Nat.{ℕ, ◌≤◌, ◌<◌, max}
use native.Mathlib.Omega.{arith}
use lib.Dec.{leb}
use lib.IntN.{pos}
use borrow.Author.Tests.{lt-leb, not-true}
use Rattle.rules.specs.Tests.{within}
use Rattle.rules.specs.Settings.{settings_accepted}
use Rattle.rules.specs.Samples.{Slice, Equipment, frequency, lowest, highest}
use Rattle.rules.specs.Regions.{frequency_region, rank, worse, region_in, region_of, ceases}
use Rattle.rules.specs.Service.{status_of, exports, without_power, vars_of, watts_of}
use Rattle.rules.specs.History.{History, serving, climbed, history_status, history_recovery, watts_holding, history_watts, history_vars, history_report}
use Rattle.rules.specs.declared.Settings.{Settings}
use Rattle.rules.specs.declared.Region.{Region}
use Rattle.rules.specs.declared.Region.TheVariants.{Continuous, Mandatory, Momentary, Cease}
use Rattle.claims.specs.Sound.{Sound}
use Rattle.claims.specs.RideThroughEnds.{BeyondRideThrough, CeasesBeyondRideThrough}
use Rattle.basics.proofs.Bools.{true-within}
use Rattle.laws.proofs.Regions.{rank-worst}
use Rattle.theorems.proofs.Demand2.{service-of, tripped-of, tripped-status}
use Rattle.theorems.proofs.Trip.{return-continuous}
use Rattle.theorems.proofs.Recovery.{restores-power}

-- ---- the region of a frequency

below : (low high n : ℕ) → n < low → within low high n ≡ false
unfolding within
below low high n p = rw (lt-leb low n p)

above : (low high n : ℕ) → high < n → within low high n ≡ false
unfolding within
above low high n p = rw (lt-leb n high p) (by (leb low n))
  where
    by : (b : Bool) → (b && false) ≡ false
    by true = refl
    by false = refl

beyond-ceases : (f : ℕ) → (f < 57000) ⊎ (62000 < f) → frequency_region f ≡ Cease
unfolding frequency_region
beyond-ceases f (inl p) = rw (below 58800 61200 f (omega (arith, p)), below 57000 62000 f p)
beyond-ceases f (inr p) = rw (above 58800 61200 f (omega (arith, p)), above 57000 62000 f p)

near-rides : (f : ℕ) → 57000 ≤ f → f ≤ 62000 → rank (frequency_region f) < 2
unfolding frequency_region
near-rides f low high = rw (true-within 57000 62000 f low high) (by (within 58800 61200 f))
  where
    by : (b : Bool) → rank (cond b Continuous Mandatory) < 2
    by true = omega arith
    by false = omega arith

-- ---- the worst of three

worse-cease : (a : Region) → worse a Cease ≡ Cease
worse-cease Continuous = refl
worse-cease Mandatory = refl
worse-cease Momentary = refl
worse-cease Cease = refl

beyond-region : (e : Equipment) (st : Settings) (x : Slice) → BeyondRideThrough x → region_of e st x ≡ Cease
unfolding region_of
beyond-region e st x f =
    let low = region_in e st (lowest e x) in
    let high = region_in e st (highest e x) in
    ap (λ r. worse low (worse high r)) (beyond-ceases (frequency x) f) ∙ ap (worse low) (worse-cease high) ∙ worse-cease low

worst-rank : (e : Equipment) (st : Settings) (x : Slice)
    → rank (region_of e st x) ≡ max (rank (region_in e st (lowest e x))) (max (rank (region_in e st (highest e x))) (rank (frequency_region (frequency x))))
unfolding region_of
worst-rank e st x = rank-worst (region_in e st (lowest e x)) (region_in e st (highest e x)) (frequency_region (frequency x))

-- ---- what a region tells

no-cessation : (r : Region) → (ceases r ≡ false) ↔ (rank r < 2)
no-cessation Continuous = ((λ p. omega arith), (λ p. refl))
no-cessation Mandatory = ((λ p. omega arith), (λ p. refl))
no-cessation Momentary = ((λ p. absurd (true≢false p)), (λ p. absurd (omega (arith, p))))
no-cessation Cease = ((λ p. absurd (true≢false p)), (λ p. absurd (omega (arith, p))))

gives-unless : (r : Region) (full : Bool) → exports (status_of true r full) ≡ not (ceases r)
gives-unless Continuous false = refl
gives-unless Continuous true = refl
gives-unless Mandatory full = refl
gives-unless Momentary full = refl
gives-unless Cease full = refl

silent-status : (on full : Bool) → exports (status_of on Cease full) ≡ false
silent-status false full = refl
silent-status true full = refl

-- ---- of histories

module _ (e : Equipment) (st : Settings) where
  pub silent : (x : Slice) (h : History) → BeyondRideThrough x → exports (history_status e st (x ∷ h)) ≡ false
  unfolding history_status
  silent x h f = rw (beyond-region e st x f) (silent-status (serving e st (x ∷ h)) (leb st.ramp (climbed e st (x ∷ h))))

  no-watts : (x : Slice) (h : History) → BeyondRideThrough x → history_watts e st (x ∷ h) ≡ 0
  unfolding history_watts watts_holding watts_of
  no-watts x h f = rw (silent x h f)

  no-vars : (x : Slice) (h : History) → BeyondRideThrough x → history_vars e st (x ∷ h) ≡ pos 0
  unfolding history_vars vars_of
  no-vars x h f = rw (silent x h f)

  in-cease : (x : Slice) (h : History) → BeyondRideThrough x → serving e st (x ∷ h) ≡ true → history_status e st (x ∷ h) ≡ 5
  unfolding history_status
  in-cease x h f on = rw (on, beyond-region e st x f)

  given-unless : (x : Slice) (h : History) → serving e st (x ∷ h) ≡ true → exports (history_status e st (x ∷ h)) ≡ not (ceases (region_of e st x))
  unfolding history_status
  given-unless x h on = rw on (gives-unless (region_of e st x) (leb st.ramp (climbed e st (x ∷ h))))

  -- in service, from 57000 to 62000
  pub given-by-voltages : (x : Slice) (h : History) → 57000 ≤ frequency x → frequency x ≤ 62000 → serving e st (x ∷ h) ≡ true
      → (exports (history_status e st (x ∷ h)) ≡ true) ↔ ((ceases (region_in e st (lowest e x)) ≡ false) × (ceases (region_in e st (highest e x)) ≡ false))
  given-by-voltages x h low high on = (there, back)
    where
      there : exports (history_status e st (x ∷ h)) ≡ true → (ceases (region_in e st (lowest e x)) ≡ false) × (ceases (region_in e st (highest e x)) ≡ false)
      there p =
          let r = (no-cessation (region_of e st x)).0 (not-true (ceases (region_of e st x)) (sym (given-unless x h on) ∙ p)) in
          let worst = worst-rank e st x in (
            (no-cessation (region_in e st (lowest e x))).1 (omega (arith, r, worst)),
            (no-cessation (region_in e st (highest e x))).1 (omega (arith, r, worst)),
          )

      back : (ceases (region_in e st (lowest e x)) ≡ false) × (ceases (region_in e st (highest e x)) ≡ false) → exports (history_status e st (x ∷ h)) ≡ true
      back p =
          let a = (no-cessation (region_in e st (lowest e x))).0 p.0 in
          let b = (no-cessation (region_in e st (highest e x))).0 p.1 in
          let c = near-rides (frequency x) low high in
          given-unless x h on ∙ ap not ((no-cessation (region_of e st x)).1 (omega (arith, a, b, c, worst-rank e st x)))

  module _ (sound : Sound e) (ok : settings_accepted st ≡ true) where
    recovers-from-none : (x : Slice) (h : History) → BeyondRideThrough x → serving e st (x ∷ h) ≡ true → history_recovery e st (x ∷ h) ≡ 0
    unfolding history_report
    recovers-from-none x h f on = (restores-power e st sound ok).ceased (x ∷ h) (ap without_power (in-cease x h f on))

    -- a return is in the continuous operation region
    stays-tripped : (x : Slice) (h : History) → BeyondRideThrough x → serving e st h ≡ false → serving e st (x ∷ h) ≡ false
    stays-tripped x h f was = by (serving e st (x ∷ h)) refl
      where
        by : (on : Bool) → serving e st (x ∷ h) ≡ on → on ≡ false
        by false p = refl
        by true p = absurd (true≢false (sym (ap ceases (beyond-region e st x f)) ∙ ap ceases (return-continuous e st sound ok h x was p)))

    pub ceases-beyond-ride-through : CeasesBeyondRideThrough e st (history_report e st)
    unfolding history_report
    ceases-beyond-ride-through =
        record {
          nothing = λ x h f. (no-watts x h f, no-vars x h f);
          ceased = λ x h f on.
              let s = sym (service-of e st (x ∷ h)) ∙ on in
              (in-cease x h f s, recovers-from-none x h f s);
          waits = λ x h f p. tripped-status e st (x ∷ h) (stays-tripped x h f (tripped-of e st h p));
          rides = λ x h low high on. given-by-voltages x h low high (sym (service-of e st (x ∷ h)) ∙ on);
        }
