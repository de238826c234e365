-- Equipments with the same voltages for the codes that are accepted, and the same regions, step alike.
-- Assumes nothing.
use Rattle.std.specs.Prelude.{Ok, Err}
use mathlib.Core.Path.{◌≡◌, refl, ap, ◌∙◌}
use mathlib.Core.Bool.{Bool, true, false, cond}
use mathlib.Core.List.{List, [], ◌∷◌}
use Prim.Native.Nat.{ℕ, suc}
use lib.Dec.{leb}
use borrow.Author.Tests.{leb-true}
use Rattle.rules.specs.Sensing.{last_code, sensed_by}
use Rattle.rules.specs.Settings.{settings_check, limit_at}
use Rattle.rules.specs.Samples.{Slice, Equipment, code_of, phase, lowest, highest, mean, sample_check}
use Rattle.rules.specs.Samples as samples
use Rattle.rules.specs.Counters.{Kind, undervoltage, overvoltage, underfrequency, overfrequency, kinds, counted, broken, in_range, limit_rules, trip_rules}
use Rattle.rules.specs.Counters.{ready_rule, rules}
use Rattle.rules.specs.Regions.{region_of}
use Rattle.rules.specs.Service.{vars_of, watts_of}
use Rattle.rules.specs.Records.{each, read_as, settled, ruled, next, shown, on_sample, on_settings, step_of}
use Rattle.rules.specs.declared.Settings.{Settings}
use Rattle.rules.specs.declared.Board.{Board}
use Rattle.rules.specs.Answers.{SettingsCheck, SampleCheck}
use Rattle.rules.specs.declared.Refusal.TheVariants.{Code}
use Rattle.causes.specs.Alike.{Alike}
use Rattle.causes.specs.Calls.{Call, Run, ruled_by, called, called_all}
use Rattle.laws.proofs.Accepted.{SampleRight, sample-right}
use Rattle.laws.proofs.SameRules.{SameRules, same-append, counted_same, full-same, capped_same}

module _ (e f : Equipment) (a : Alike e f) (x : Slice) (r : SampleRight x) where
  -- ---- what is read from the sample

  phase0 : phase e x 0 ≡ phase f x 0
  phase0 = a.sensing (code_of x 0) r.code0

  phase1 : phase e x 1 ≡ phase f x 1
  phase1 = a.sensing (code_of x 1) r.code1

  phase2 : phase e x 2 ≡ phase f x 2
  phase2 = a.sensing (code_of x 2) r.code2

  pub lowest-alike : lowest e x ≡ lowest f x
  lowest-alike = rw (phase0, phase1, phase2)

  pub highest-alike : highest e x ≡ highest f x
  highest-alike = rw (phase0, phase1, phase2)

  pub mean-alike : mean e x ≡ mean f x
  mean-alike = rw (phase0, phase1, phase2)

  pub region-alike : (st : Settings) → region_of e st x ≡ region_of f st x
  unfolding region_of
  region-alike st = rw (lowest-alike, highest-alike, a.region (lowest f x), a.region (highest f x))

  -- ---- the nine rules

  broken-alike : (k : Kind) (level : ℕ) → broken e k level x ≡ broken f k level x
  unfolding broken
  broken-alike undervoltage level = rw lowest-alike
  broken-alike overvoltage level = rw highest-alike
  broken-alike underfrequency level = refl
  broken-alike overfrequency level = refl

  module _ (st : Settings) where
    limits-alike : (i : ℕ) (ks : List Kind) → SameRules x (limit_rules e st i ks) x (limit_rules f st i ks)
    limits-alike i [] = tt
    limits-alike i (k ∷ ks) = ((broken-alike k (limit_at st i).level, refl), limits-alike (suc i) ks)

    range-alike : in_range e st x ≡ in_range f st x
    unfolding in_range
    range-alike = rw (lowest-alike, highest-alike)

    pub trips-alike : SameRules x (trip_rules e st) x (trip_rules f st)
    trips-alike = limits-alike 0 kinds

    rules-alike : SameRules x (rules e st) x (rules f st)
    rules-alike = same-append x (trip_rules e st) x (trip_rules f st) (ready_rule e st) (ready_rule f st) trips-alike (range-alike, refl)

    -- ---- the step

    vars-alike : (status : ℕ) → vars_of e st x status ≡ vars_of f st x status
    unfolding vars_of
    vars-alike status = rw mean-alike

    watts-alike : (status share recovery held : ℕ) → watts_of e st x status share recovery held ≡ watts_of f st x status share recovery held
    unfolding watts_of
    watts-alike status share recovery held = rw (mean-alike, vars-alike status)

    settled-alike : (counters : List ℕ) (on : Bool) (ramp recovery held : ℕ)
        → settled e st x counters on ramp recovery held ≡ settled f st x counters on ramp recovery held
    unfolding settled
    settled-alike counters on ramp recovery held = rw (region-alike st, watts-alike, vars-alike)

    read_alike : (b : Board) → read_as e st b ≡ read_as f st b
    unfolding read_as
    read_alike b = rw (capped_same x x (rules e st) (rules f st) b.counters rules-alike)

    ruled-alike : (b : Board) → ruled e st x b ≡ ruled f st x b
    unfolding ruled
    ruled-alike b =
        let n = each (counted x) (rules f st) b.counters in
        let counts = counted_same x x (rules e st) (rules f st) b.counters rules-alike in
        let bits = full-same x x (trip_rules e st) (trip_rules f st) n trips-alike in
        rw (counts, region-alike st, settled-alike, bits)

    next-alike : (b : Board) → next e st x b ≡ next f st x b
    unfolding next
    next-alike b = ruled-alike (read_as e st b) ∙ ap (ruled f st x) (read_alike b)

    shown-alike : (b : Board) → shown e st b ≡ shown f st b
    unfolding shown
    shown-alike b = rw (full-same x x (rules e st) (rules f st) b.counters rules-alike)

module _ (e f : Equipment) (a : Alike e f) where
  sample-alike : (b : Board) (st : Settings) (x : Slice) (k : SampleCheck) → sample_check x ≡ k → on_sample e st x b k ≡ on_sample f st x b k
  sample-alike b st x (Err cause) p = refl
  sample-alike b st x (Ok ok) p =
      let r = sample-right x (ap samples.sample_passed p) in
      rw (next-alike e f a x r st b, shown-alike e f a x r st (next f st x b))

  settings-alike : (b : Board) (st : Settings) (x : Slice) (k : SettingsCheck) → on_settings e st x b k ≡ on_settings f st x b k
  settings-alike b st x (Err away) = refl
  settings-alike b st x (Ok ok) = sample-alike b st x (sample_check x) refl

  pub step-alike : (b : Board) (st : Settings) (x : Slice) → step_of e b st x ≡ step_of f b st x
  unfolding step_of
  step-alike b st x = settings-alike b st x (settings_check st)

  -- and so every list of calls ends alike
  pub calls-alike : (cs : List Call) (r : Run) → called_all (ruled_by e) r cs ≡ called_all (ruled_by f) r cs
  calls-alike [] r = refl
  calls-alike (c ∷ cs) r =
      rw (step-alike r.board c.settings c.slice) (calls-alike cs (called (ruled_by f) r c))

  -- ---- sensing

  pub sensed-alike : (code : ℕ) → sensed_by e.sensing code ≡ sensed_by f.sensing code
  unfolding sensed_by
  sensed-alike code = by (leb code last_code) refl
    where
      by : (b : Bool) → leb code last_code ≡ b
          → cond b (Ok (e.sensing code)) (Err Code) ≡ cond b (Ok (f.sensing code)) (Err Code)
      by true p = ap (λ (v : ℕ). Ok v) (a.sensing code (leb-true code last_code p))
      by false p = refl
