-- The parts of a step, put together: what `settle` and `advance` make is what the rules make of a record.
-- Assumes nothing.
use Rattle.std.specs.Prelude.{Ok, Err}
use mathlib.Core.Path.{◌≡◌, refl, sym, ap, ap₂, subst, ◌∙◌}
use mathlib.Core.Bool.{Bool, true, false, cond, false≢true}
use mathlib.Core.List.{List, [], ◌∷◌, ◌++◌}
use Prim.Native.Nat.{ℕ, zero, suc, min}
use native.Mathlib.Nat.{suc_inj}
use native.Mathlib.Omega.{arith}
use lib.ListN.{length, get_or}
use Rattle.rules.specs.Tests.{any}
use Rattle.rules.specs.Settings.{settings_check, settings_passed, settings_accepted}
use Rattle.rules.specs.Samples.{Slice, Equipment, frequency, permitted, sample_check}
use Rattle.rules.specs.Counters.{Rule, counted, full, broken, in_range, trip_rules, ready_rule, rules}
use Rattle.rules.specs.Regions.{voltage_region, region_of, is_continuous, ceases}
use Rattle.rules.specs.Droop.{no_side, side_after, known_side, held_after}
use Rattle.rules.specs.Service.{serves, ramped, in_service, recovery_top, recovering}
use Rattle.rules.specs.Reports.{packed_after}
use Rattle.rules.specs.Records.{each, capped, read_as, settled, ruled, next, turned_away, on_sample, on_settings, step_of}
use Rattle.rules.specs.declared.Settings.{Settings}
use Rattle.rules.specs.declared.Board.{Board}
use Rattle.rules.specs.declared.Region.{Region}
use Rattle.rules.specs.declared.Refusal.{Refusal}
use Rattle.rules.specs.Answers.{SettingsCheck, settings_refused}
use Rattle.laws.proofs.Statuses.{kept-service}
use Rattle.laws.proofs.SameRules.{SameRules, counted_same, full-same}
use Rattle.readings.specs.declared.reading.Reading.{Reading}
use Rattle.readings.specs.Readings.{reading_of}
use Rattle.counters.specs.Rules.{rules_from, rules_at}
use Rattle.counting.specs.Counting.{enters}
use Rattle.ridethrough.specs.Regions.{region_at}
use Rattle.counters.proofs.Counting.{rules-length}
use Rattle.service.specs.Steps.{Bits}

-- ---- the counters, on a reading and on the sample

same-rules : (e : Equipment) (s : Settings) (x : Slice) (r : Reading) → reading_of e x ≡ r → SameRules x (rules e s) [] (rules_at r s)
same-rules e s x r q = subst (λ (y : Reading). SameRules x (rules e s) [] (rules_at y s)) q read
  where
    read : SameRules x (rules e s) [] (rules_at (reading_of e x) s)
    read =
        unfold rules_from broken in_range enters in
        ((refl, refl), ((refl, refl), ((refl, refl), ((refl, refl), ((refl, refl), ((refl, refl), ((refl, refl), ((refl, refl), ((refl, refl), tt)))))))))

-- a count that is read as its top counts on alike
counted-capped : (x : Slice) (rs : List Rule) (ns : List ℕ) → each (counted x) rs (each capped rs ns) ≡ each (counted x) rs ns
unfolding each
counted-capped x [] ns = refl
counted-capped x (r ∷ rs) [] = refl
counted-capped x (r ∷ rs) (n ∷ ns) = ap₂ ◌∷◌ (by (r.counts x)) (counted-capped x rs ns)
  where
    by : (b : Bool) → cond b (min r.top (suc (min r.top n))) 0 ≡ cond b (min r.top (suc n)) 0
    by true = omega arith
    by false = refl

pub each-length {ℓ} : {A : Type ℓ} (f : Rule → ℕ → A) (rs : List Rule) (ns : List ℕ) (k : ℕ) → length rs ≡ k → length ns ≡ k → length (each f rs ns) ≡ k
unfolding each
each-length f [] ns k h l = h
each-length f (r ∷ rs) [] k h l = l
each-length f (r ∷ rs) (n ∷ ns) zero h l = absurd (omega arith)
each-length f (r ∷ rs) (n ∷ ns) (suc k) h l = ap suc (each-length f rs ns k (suc_inj h) (suc_inj l))

-- the last of the bits is ready's
pub full-last : (rs : List Rule) (r : Rule) (ns : List ℕ) (k : ℕ) → length rs ≡ k → length ns ≡ suc k
    → each full (rs ++ (r ∷ [])) ns ≡ each full rs ns ++ (full r (get_or ns k 0) ∷ [])
unfolding each
full-last [] r [] k h l = absurd (omega arith)
full-last [] r (n ∷ ns) zero h l = refl
full-last [] r (n ∷ ns) (suc k) h l = absurd (omega arith)
full-last (q ∷ rs) r [] k h l = absurd (omega arith)
full-last (q ∷ rs) r (n ∷ ns) zero h l = absurd (omega arith)
full-last (q ∷ rs) r (n ∷ ns) (suc k) h l = ap (λ (bs : List Bool). full q n ∷ bs) (full-last rs r ns k (suc_inj h) (suc_inj l))

-- ---- counters, trip, return, ramp, recovery, side and held power

-- what `advance` works out before it settles the record and the report
pub record Found : Type 0 where
  pub counters : List ℕ
  pub bits : ℕ
  pub was : Bool
  pub on : Bool
  pub area : Region
  pub continues : Bool
  pub ramp : ℕ
  pub ceasing : Bool
  pub recovery : ℕ
  pub side : ℕ
  pub held : ℕ

-- what its parts promise of that, for a reading r and a record b
pub record Promised (s : Settings) (r : Reading) (b : Board) (f : Found) : Type 0 where
  pub counts : f.counters ≡ each (counted []) (rules_at r s) b.counters
  pub marks : f.bits ≡ packed_after 0 (each full (rules_at r s) f.counters)
  pub before : f.was ≡ in_service b.status
  pub after : (trips : List Bool) (ready : Bool) → f.bits ≡ packed_after 0 (trips ++ (ready ∷ [])) → f.on ≡ serves f.was r.permit (any trips) ready
  pub place : f.area ≡ region_at r
  pub steady : f.continues ≡ is_continuous f.area
  pub climb : f.ramp ≡ ramped f.was f.on f.continues s.ramp (cond f.was (min s.ramp b.ramp) 0)
  pub cessation : f.ceasing ≡ ceases f.area
  pub recovers : f.recovery ≡ recovering f.was f.on f.ceasing (min recovery_top b.recovery)
  pub sided : f.side ≡ side_after f.on r.frequency
  pub holds : f.held
      ≡ held_after (cond f.was (known_side b.side) no_side) f.side (cond f.was (min 10000 b.held) 0) (min 10000 b.watts)

module _ (e : Equipment) (s : Settings) (x : Slice) (r : Reading) (regions : e.region ≡ voltage_region) (q : reading_of e x ≡ r)
    (b : Board) (nine : length b.counters ≡ 9) (f : Found) (p : Promised s r b f) where
  pub region-found : region_of e s x ≡ f.area
  unfolding region_of
  region-found = rw regions (ap region_at q ∙ sym p.place)

  pub bits-found : Bits e s f.counters f.bits
  bits-found = p.marks ∙ ap (packed_after 0) (sym (full-same x [] (rules e s) (rules_at r s) f.counters (same-rules e s x r q)))

  counters-are : f.counters ≡ each (counted x) (rules e s) (read_as e s b).counters
  unfolding read_as
  counters-are =
      p.counts ∙ sym (counted_same x [] (rules e s) (rules_at r s) b.counters (same-rules e s x r q))
      ∙ sym (counted-capped x (rules e s) b.counters)

  nine-found : length f.counters ≡ 9
  nine-found = ap length p.counts ∙ each-length (counted []) (rules_at r s) b.counters 9 (rules-length r s) nine

  was-is : f.was ≡ in_service (read_as e s b).status
  unfolding read_as
  was-is = p.before ∙ sym (kept-service b.status)

  on-is : f.on ≡ serves f.was (permitted x) (any (each full (trip_rules e s) f.counters)) (full (ready_rule e s) (get_or f.counters 8 0))
  on-is =
      let trips = each full (trip_rules e s) f.counters in
      let ready = full (ready_rule e s) (get_or f.counters 8 0) in
      let split : each full (rules e s) f.counters ≡ trips ++ (ready ∷ [])
      = full-last (trip_rules e s) (ready_rule e s) f.counters 8 refl nine-found in
      p.after trips ready (bits-found ∙ ap (packed_after 0) split)
      ∙ ap (λ (y : Reading). serves f.was y.permit (any trips) ready) (sym q)

  ramp-is : f.ramp ≡ ramped f.was f.on (is_continuous (region_of e s x)) s.ramp (read_as e s b).ramp
  unfolding read_as
  ramp-is = p.climb ∙ rw (p.steady, region-found, p.before)

  recovery-is : f.recovery ≡ recovering f.was f.on (ceases (region_of e s x)) (read_as e s b).recovery
  unfolding read_as
  recovery-is = p.recovers ∙ rw (p.cessation, region-found)

  held-is : f.held ≡ held_after (read_as e s b).side (side_after f.on (frequency x)) (read_as e s b).held (read_as e s b).watts
  unfolding read_as
  held-is = p.holds ∙ rw (p.sided, p.before, sym q)

  pub advance-is : settled e s x f.counters f.on f.ramp f.recovery f.held ≡ next e s x b
  unfolding next ruled
  advance-is = rw (ramp-is, recovery-is, held-is, on-is, was-is, counters-are)

-- ---- refused calls

module _ (e : Equipment) (s : Settings) (x : Slice) (b : Board) where
  good-settings : settings_accepted s ≡ true → settings_check s ≡ Ok tt
  good-settings ok = by (settings_check s) refl ok
    where
      by : (k : SettingsCheck) → settings_check s ≡ k → settings_passed k ≡ true → settings_check s ≡ Ok tt
      by (Ok ok) k p = k
      by (Err away) k p = absurd (false≢true p)

  pub sample-refused : (cause : Refusal) → settings_accepted s ≡ true → sample_check x ≡ Err cause → step_of e b s x ≡ turned_away b cause
  unfolding step_of
  sample-refused cause ok k = ap (on_settings e s x b) (good-settings ok) ∙ ap (on_sample e s x b) k

  pub settings-refused : (cause : Refusal) (line : ℕ) → settings_check s ≡ settings_refused cause line → step_of e b s x ≡ turned_away b cause
  unfolding step_of
  settings-refused cause line k = ap (on_settings e s x b) k
