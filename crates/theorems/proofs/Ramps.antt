-- Two ramp counts are told apart by the share, within five samples at nominal.
-- Assumes nothing.
use mathlib.Core.Path.{◌≡◌, refl, sym, ap, ◌∙◌, subst}
use mathlib.Core.Bool.{Bool, true, false}
use mathlib.Core.List.{List, [], ◌∷◌, map}
use Prim.Native.Nat.{ℕ, zero, suc, ◌+◌, ◌≤◌, min}
use native.Mathlib.Nat.{zero-add, suc-add, add-suc}
use native.Mathlib.Omega.{arith}
use lib.ListN.{length, replicate, length-replicate}
use lib.Dec.{eqb}
use borrow.Author.Tests.{lt-leb, eqb-true, eqb-false}
use Rattle.rules.specs.Tests.{any}
use Rattle.rules.specs.Settings.{rows, settings_accepted, limit_at}
use Rattle.rules.specs.Samples.{Equipment}
use Rattle.rules.specs.Counters.{Kind, kinds, limit_rules}
use Rattle.rules.specs.Regions.{region_of, is_continuous}
use Rattle.rules.specs.Reports.{Items}
use Rattle.rules.specs.History.{History, followed_by, streak, complete, serving, climbed, history_share, history_report}
use Rattle.rules.specs.declared.Settings.{Settings}
use Rattle.claims.specs.Sound.{Sound}
use Rattle.claims.specs.TwoHistories.{AgreeWithin}
use Rattle.claims.specs.RampPairs.{ComeApart}
use Rattle.laws.proofs.Accepted.{sheet-rows}
use Rattle.laws.proofs.Limits.{LimitsIn, limits-in}
use Rattle.laws.proofs.Shares.{share_at, ramps-apart}
use Rattle.theorems.proofs.Trace.{tripped-climbed}
use Rattle.theorems.proofs.Trip.{in-range-continuous}
use Rattle.theorems.proofs.Probes.{accepted-run, calm, calm-accepted, calm-breaks-none, calm-in-range}

module _ (e : Equipment) (sound : Sound e) (st : Settings) (ok : settings_accepted st ≡ true) where
  -- ---- a run at nominal keeps a board in service, and each of its samples counts for the ramp

  calm-region : is_continuous (region_of e st (calm e sound)) ≡ true
  calm-region = ap is_continuous (in-range-continuous e st sound ok (calm e sound) (calm-in-range e sound st ok))

  calm-trips-none : (h : History) (i : ℕ) (ks : List Kind) → LimitsIn st i ks → any (map (complete (calm e sound ∷ h)) (limit_rules e st i ks)) ≡ false
  unfolding any streak
  calm-trips-none h i [] l = refl
  calm-trips-none h i (k ∷ ks) l =
      rw (calm-breaks-none e sound k (limit_at st i).level l.0.level_in, lt-leb (limit_at st i).clearing 0 (omega (arith, l.0.clearing-low)))
      (calm-trips-none h (suc i) ks l.1)

  pub calm-serves : (h : History) → serving e st h ≡ true → serving e st (calm e sound ∷ h) ≡ true
  unfolding serving
  calm-serves h p = rw (p, calm-trips-none h 0 kinds (limits-in st ok))

  calm-climbs : (h : History) → serving e st h ≡ true → climbed e st (calm e sound ∷ h) ≡ suc (climbed e st h)
  unfolding climbed
  calm-climbs h p = rw (p, calm-serves h p, calm-region)

  pub climb-run : (n : ℕ) (h : History) → serving e st h ≡ true → climbed e st (followed_by h (replicate n (calm e sound))) ≡ n + climbed e st h
  climb-run zero h p = sym (zero-add (climbed e st h))
  climb-run (suc n) h p =
      climb-run n (calm e sound ∷ h) (calm-serves h p) ∙ ap (λ (m : ℕ). n + m) (calm-climbs h p) ∙ add-suc n (climbed e st h) ∙ sym (suc-add n (climbed e st h))

  calm-run-length : (k : ℕ) → k ≤ 5 → length (replicate k (calm e sound)) ≤ 5
  calm-run-length k l = subst (λ (n : ℕ). n ≤ 5) (sym (length-replicate k (calm e sound))) l

  -- the share after a run at nominal
  calm-share : (h : History) → serving e st h ≡ true → (k : ℕ)
      → history_share e st (followed_by h (replicate k (calm e sound))) ≡ share_at st.ramp (k + climbed e st h)
  unfolding history_share
  calm-share h p k = ap (share_at st.ramp) (climb-run k h p)

  pub ramp-low : 1 ≤ st.ramp
  unfolding rows
  ramp-low = omega (arith, (sheet-rows st ok).wait.second-low)

  ramp-high : st.ramp ≤ 60000
  unfolding rows
  ramp-high = (sheet-rows st ok).wait.second-high

  -- ---- different ramp counts: within five samples the reports differ

  pub ramps-told : (h g : History) → serving e st h ≡ serving e st g → ¬ (min st.ramp (climbed e st h) ≡ min st.ramp (climbed e st g))
      → ComeApart 5 (history_report e st) h g
  unfolding history_report
  ramps-told h g o d = by (serving e st h) refl
    where
      by : (b : Bool) → serving e st h ≡ b → ComeApart 5 (history_report e st) h g
      by false p = absurd (d (ap (min st.ramp) (tripped-climbed e st h p ∙ sym (tripped-climbed e st g (sym o ∙ p)))))
      by true p =
          let t = ramps-apart st.ramp ramp-low ramp-high (climbed e st h) (climbed e st g) d in
          record {
            run = replicate t.0 (calm e sound);
            short = calm-run-length t.0 t.1;
            accepted = accepted-run (calm e sound) (calm-accepted e sound) t.0;
            differ = λ same. t.2 (sym (calm-share h p t.0) ∙ ap (λ (r : Items). r.share) same ∙ calm-share g (sym o ∙ p) t.0);
          }

  -- so reports that agree within five samples have equal ramp counts
  pub ramps-equal : (h g : History) → serving e st h ≡ serving e st g → AgreeWithin 5 (history_report e st) h g
      → min st.ramp (climbed e st h) ≡ min st.ramp (climbed e st g)
  ramps-equal h g o f = by (eqb (min st.ramp (climbed e st h)) (min st.ramp (climbed e st g))) refl
    where
      by : (b : Bool) → eqb (min st.ramp (climbed e st h)) (min st.ramp (climbed e st g)) ≡ b
          → min st.ramp (climbed e st h) ≡ min st.ramp (climbed e st g)
      by true p = eqb-true _ _ p
      by false p = let t = ramps-told h g o (eqb-false _ _ p) in absurd (t.differ (f t.run t.short t.accepted))
