-- A record that is run from fresh under one sheet is the one its history gives, and shows the report that the history gives.
-- Assumes nothing.
use mathlib.Core.Path.{◌≡◌, refl, sym, ap, ap₂, ◌∙◌}
use mathlib.Core.Bool.{Bool, true, false, cond}
use mathlib.Core.List.{List, [], ◌∷◌, map}
use mathlib.Core.Option.{Option, none, some}
use Prim.Native.Nat.{ℕ, ◌≤◌, min}
use native.Mathlib.Nat.{min-zero}
use native.Mathlib.Omega.{arith}
use borrow.Author.Tests.{le-leb}
use lib.Dec.{eqb}
use lib.IntN.{ℤ}
use lib.ListN.{length}
use Rattle.rules.specs.Samples.{Slice, Equipment}
use Rattle.rules.specs.Counters.{counted, full, trip_rules, ready_rule, rules}
use Rattle.rules.specs.Regions.{region_of, is_continuous, ceases}
use Rattle.rules.specs.Droop.{no_side, low_side, known_side}
use Rattle.rules.specs.Service.{ramped, status_of, in_service, share_of, recovery_top, recovering}
use Rattle.rules.specs.Reports.{Items}
use Rattle.rules.specs.Records.{fresh, each, capped, read_as, settled, ruled, next, shown}
use Rattle.rules.specs.History.{History, streak, complete, serving, climbed_more, climbed, history_status, history_share, history_watts, history_vars, history_report}
use Rattle.rules.specs.History.{since_more, since_cessation, recovered_since, history_recovery, history_side, watts_holding, history_held}
use Rattle.rules.specs.declared.Settings.{Settings}
use Rattle.rules.specs.declared.Board.{Board}
use Rattle.rules.specs.declared.Region.{Region}
use Rattle.rules.specs.declared.Region.TheVariants.{Continuous, Mandatory, Momentary, Cease}
use Rattle.claims.specs.TripAndReturn.{count_of, record_of}
use Rattle.basics.proofs.Bools.{eqb-min}
use Rattle.laws.proofs.Statuses.{service-status, kept-service}
use Rattle.laws.proofs.Events.{recovery-top, side-below, tripped-side, side-none, watts-top, held-top}
use Rattle.theorems.proofs.Counting.{counted_is, capped_is, full_is, each_of, each_all}

pub same-items : {i j : Items} → i.status ≡ j.status → i.bits ≡ j.bits → i.share ≡ j.share → i.recovery ≡ j.recovery
    → i.side ≡ j.side → i.held ≡ j.held → i.watts ≡ j.watts → i.vars ≡ j.vars → i ≡ j
same-items e₁ e₂ e₃ e₄ e₅ e₆ e₇ e₈ = made e₁ e₂ e₃ e₄ e₅ e₆ e₇ e₈
  where
    made : {s s' : ℕ} {b b' : List Bool} {q q' n n' d d' p p' w w' : ℕ} {v v' : ℤ} → s ≡ s' → b ≡ b' → q ≡ q' → n ≡ n' → d ≡ d' → p ≡ p' → w ≡ w' → v ≡ v'
        → ◌≡◌ {A = Items} (record { status = s; bits = b; share = q; recovery = n; side = d; held = p; watts = w; vars = v })
        (record { status = s'; bits = b'; share = q'; recovery = n'; side = d'; held = p'; watts = w'; vars = v' })
    made e₁ e₂ e₃ e₄ e₅ e₆ e₇ e₈ = rw (e₁, e₂, e₃, e₄, e₅, e₆, e₇, e₈)

-- one sample more counts alike, on the count and on what it counts
pub since-step : (was on c : Bool) (o : Option ℕ) → recovering was on c (recovered_since o) ≡ recovered_since (since_more was on c o)
since-step was false c o = refl
since-step false true c o = refl
since-step true true true o = refl
since-step true true false none = refl
since-step true true false (some n) = omega arith

module _ (e : Equipment) (st : Settings) where
  -- ---- what the record holds, read off the history

  pub counters-are : (h : History) → (record_of e st h).counters ≡ map (count_of h) (rules e st)
  unfolding record_of settled fresh streak
  counters-are [] = simp min-zero
  counters-are (x ∷ h) = refl

  pub nine-counters : (h : History) → length (record_of e st h).counters ≡ 9
  nine-counters h = ap length (counters-are h)

  pub service-is : (h : History) → in_service (record_of e st h).status ≡ serving e st h
  unfolding record_of settled fresh serving
  service-is [] = refl
  service-is (x ∷ h) = service-status _ (region_of e st x) (eqb (min st.ramp (climbed e st (x ∷ h))) st.ramp)

  pub ramp-is : (h : History) → (record_of e st h).ramp ≡ min st.ramp (climbed e st h)
  unfolding record_of settled fresh climbed
  ramp-is [] = sym (min-zero st.ramp)
  ramp-is (x ∷ h) = refl

  pub recovery-is : (h : History) → (record_of e st h).recovery ≡ history_recovery e st h
  unfolding record_of settled fresh history_recovery since_cessation
  recovery-is [] = refl
  recovery-is (x ∷ h) = refl

  pub side-is : (h : History) → (record_of e st h).side ≡ history_side e st h
  unfolding record_of settled fresh history_side
  side-is [] = refl
  side-is (x ∷ h) = refl

  pub held-is : (h : History) → (record_of e st h).held ≡ history_held e st h
  unfolding record_of settled fresh history_held
  held-is [] = refl
  held-is (x ∷ h) = refl

  pub tripped-climbed : (h : History) → serving e st h ≡ false → climbed e st h ≡ 0
  unfolding climbed
  tripped-climbed [] p = refl
  tripped-climbed (x ∷ h) p = rw p

  -- ---- a record of a history is read as it is, in what a step reads

  pub read-counters : (h : History) → (read_as e st (record_of e st h)).counters ≡ map (count_of h) (rules e st)
  unfolding read_as
  read-counters h = ap (each capped (rules e st)) (counters-are h) ∙ each_all capped (count_of h) h (capped_is h) (rules e st)

  read-service : (h : History) → in_service (read_as e st (record_of e st h)).status ≡ serving e st h
  unfolding read_as
  read-service h = kept-service (record_of e st h).status ∙ service-is h

  pub read-ramp : (h : History) → (read_as e st (record_of e st h)).ramp ≡ min st.ramp (climbed e st h)
  unfolding read_as
  read-ramp h = rw (service-is h, ramp-is h) (by (serving e st h) refl)
    where
      by : (b : Bool) → serving e st h ≡ b → cond b (min st.ramp (min st.ramp (climbed e st h))) 0 ≡ min st.ramp (climbed e st h)
      by true p = omega arith
      by false p = omega (arith, tripped-climbed h p)

  pub read-recovery : (h : History) → (read_as e st (record_of e st h)).recovery ≡ history_recovery e st h
  unfolding read_as
  read-recovery h = omega (arith, recovery-is h, recovery-top e st h)

  pub read-side : (h : History) → (read_as e st (record_of e st h)).side ≡ history_side e st h
  unfolding read_as
  read-side h = rw (service-is h, side-is h) (by (serving e st h) refl)
    where
      by : (b : Bool) → serving e st h ≡ b → cond b (known_side (history_side e st h)) no_side ≡ history_side e st h
      by true p = rw (le-leb (history_side e st h) low_side (side-below e st h))
      by false p = sym (tripped-side e st h p)

  pub read_held : (h : History) → (read_as e st (record_of e st h)).held ≡ history_held e st h
  unfolding read_as
  read_held h = rw (service-is h, held-is h) (by (serving e st h) refl)
    where
      by : (b : Bool) → serving e st h ≡ b → cond b (min 10000 (history_held e st h)) 0 ≡ history_held e st h
      by true p = omega (arith, held-top e st h)
      by false p = sym (side-none e st h (tripped-side e st h p))

  pub watts-is : (h : History) → (record_of e st h).watts ≡ history_watts e st h
  unfolding record_of settled fresh history_status history_watts watts_holding history_share
  watts-is [] = refl
  watts-is (x ∷ h) = rw eqb-min

  pub read-watts : (h : History) → (read_as e st (record_of e st h)).watts ≡ history_watts e st h
  unfolding read_as
  read-watts h = omega (arith, watts-is h, watts-top e st h)

  -- ---- one accepted sample more

  ramp-step : (was on c : Bool) (top n : ℕ) → ramped was on c top (min top n) ≡ min top (climbed_more was on c n)
  ramp-step was false c top n = omega arith
  ramp-step false true c top n = omega arith
  ramp-step true true true top n = omega arith
  ramp-step true true false top n = omega arith

  -- the rules look at seven parts of a record: its counters, whether it is in service, its ramp, its recovery, its side, its held power and its watts
  ruled-is : (b : Board) (h : History) (x : Slice) → b.counters ≡ map (count_of h) (rules e st) → in_service b.status ≡ serving e st h
      → b.ramp ≡ min st.ramp (climbed e st h) → b.recovery ≡ history_recovery e st h
      → b.side ≡ history_side e st h → b.held ≡ history_held e st h → b.watts ≡ history_watts e st h
      → ruled e st x b ≡ record_of e st (x ∷ h)
  unfolding ruled record_of serving climbed history_recovery since_cessation history_side history_held history_watts
  ruled-is b h x e₁ e₂ e₃ e₄ e₅ e₆ e₇ =
      let cs : each (counted x) (rules e st) b.counters ≡ map (count_of (x ∷ h)) (rules e st)
      = ap (each (counted x) (rules e st)) e₁ ∙ each_all (counted x) (count_of (x ∷ h)) h (counted_is x h) (rules e st) in
      let ts : each full (trip_rules e st) (map (count_of (x ∷ h)) (rules e st)) ≡ map (complete (x ∷ h)) (trip_rules e st)
      = each_of full (complete (x ∷ h)) (x ∷ h) (full_is (x ∷ h)) (trip_rules e st) (ready_rule e st ∷ []) in
      rw (cs, e₂, e₃, e₄, e₅, e₆, e₇, ts, full_is (x ∷ h) (ready_rule e st))
      (ap₂ (λ (r n : ℕ). settled e st x (map (count_of (x ∷ h)) (rules e st)) (serving e st (x ∷ h)) r n (history_held e st (x ∷ h)))
      (ramp-step (serving e st h) (serving e st (x ∷ h)) (is_continuous (region_of e st x)) st.ramp (climbed e st h))
      (since-step (serving e st h) (serving e st (x ∷ h)) (ceases (region_of e st x)) (since_cessation e st h)))

  pub next-is : (h : History) (x : Slice) → next e st x (record_of e st h) ≡ record_of e st (x ∷ h)
  unfolding next
  next-is h x =
      ruled-is (read_as e st (record_of e st h)) h x (read-counters h) (read-service h) (read-ramp h) (read-recovery h) (read-side h) (read_held h) (read-watts h)

  -- ---- the record of a history shows the history's report

  pub status-is : (h : History) → (record_of e st h).status ≡ history_status e st h
  unfolding record_of settled fresh history_status
  status-is [] = refl
  status-is (x ∷ h) = rw eqb-min

  pub vars-is : (h : History) → (record_of e st h).vars ≡ history_vars e st h
  unfolding record_of settled fresh history_status history_vars
  vars-is [] = refl
  vars-is (x ∷ h) = rw eqb-min

  pub shown-is : (h : History) → shown e st (record_of e st h) ≡ history_report e st h
  unfolding shown history_report history_share
  shown-is h =
      same-items (status-is h) (ap (each full (rules e st)) (counters-are h) ∙ each_all full (complete h) h (full_is h) (rules e st))
      (ap (share_of st) (ramp-is h)) (recovery-is h) (side-is h) (held-is h) (watts-is h) (vars-is h)
