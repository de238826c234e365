-- A lent record counts by its reading; reading twice is reading once; a record that calls have left is read as it is.
-- Assumes nothing.
use Rattle.std.specs.Prelude.{Ok}
use mathlib.Core.Path.{◌≡◌, refl, sym, ap, ap₂, ◌∙◌}
use mathlib.Core.Bool.{Bool, true, false, cond}
use mathlib.Core.List.{List, [], ◌∷◌}
use Prim.Native.Nat.{ℕ, min}
use native.Mathlib.Omega.{arith}
use lib.Dec.{leb}
use Rattle.rules.specs.Settings.{settings_accepted}
use Rattle.rules.specs.Samples.{Slice, Equipment, sample_accepted}
use Rattle.rules.specs.Counters.{Rule, rules}
use Rattle.rules.specs.Reports.{report_of}
use Rattle.rules.specs.Droop.{no_side, low_side, known_side}
use Rattle.rules.specs.Service.{in_service, recovery_top}
use Rattle.rules.specs.Records.{each, capped, read_as, ruled, next, shown, step_of}
use Rattle.rules.specs.History.{History, serving}
use Rattle.rules.specs.declared.Settings.{Settings}
use Rattle.rules.specs.declared.Board.{Board}
use Rattle.rules.specs.declared.Stepped.{Stepped}
use Rattle.causes.specs.Calls.{Call, Run, ruled_by, run_of, accepted_samples, Under}
use Rattle.claims.specs.LentRecords.{ReadsRecords}
use Rattle.claims.specs.TripAndReturn.{record_of}
use Rattle.basics.proofs.Bools.{both}
use Rattle.laws.proofs.Images.{same-fields}
use Rattle.theorems.proofs.Trace.{counters-are, service-is, ramp-is, recovery-is, side-is, held-is, status-is, watts-is}
use Rattle.laws.proofs.Statuses.{kept-service}
use Rattle.theorems.proofs.Trace.{read-counters, read-ramp, read-recovery, read-side, read_held, read-watts}
use Rattle.theorems.proofs.Demand2.{run_is, tripped-status}
use Rattle.laws.proofs.Steps.{accepted-step, refused-step}

-- ---- reading twice

each_twice : (rs : List Rule) (ns : List ℕ) → each capped rs (each capped rs ns) ≡ each capped rs ns
unfolding each
each_twice [] ns = refl
each_twice (r ∷ rs) [] = refl
each_twice (r ∷ rs) (n ∷ ns) =
    let once : min r.top (min r.top n) ≡ min r.top n = omega arith in
    ap₂ ◌∷◌ once (each_twice rs ns)

status-twice : (s : ℕ) → cond (in_service (cond (in_service s) s 0)) (cond (in_service s) s 0) 0 ≡ cond (in_service s) s 0
status-twice s = ap (λ (b : Bool). cond b (cond (in_service s) s 0) 0) (kept-service s) ∙ by (in_service s)
  where
    by : (b : Bool) → cond b (cond b s 0) 0 ≡ cond b s 0
    by true = refl
    by false = refl

ramp-twice : (s top n : ℕ)
    → cond (in_service (cond (in_service s) s 0)) (min top (cond (in_service s) (min top n) 0)) 0 ≡ cond (in_service s) (min top n) 0
ramp-twice s top n = ap (λ (b : Bool). cond b (min top (cond (in_service s) (min top n) 0)) 0) (kept-service s) ∙ by (in_service s)
  where
    by : (b : Bool) → cond b (min top (cond b (min top n) 0)) 0 ≡ cond b (min top n) 0
    by true = omega arith
    by false = refl

side-twice : (s side : ℕ)
    → cond (in_service (cond (in_service s) s 0)) (known_side (cond (in_service s) (known_side side) no_side)) no_side ≡ cond (in_service s) (known_side side) no_side
side-twice s side =
    ap (λ (b : Bool). cond b (known_side (cond (in_service s) (known_side side) no_side)) no_side) (kept-service s) ∙ by (in_service s) (leb side low_side) refl
  where
    by : (b t : Bool) → leb side low_side ≡ t → cond b (known_side (cond b (cond t side no_side) no_side)) no_side ≡ cond b (cond t side no_side) no_side
    by true true p = rw p
    by true false p = refl
    by false t p = refl

module _ (e : Equipment) (st : Settings) where
  pub read_twice : (b : Board) → read_as e st (read_as e st b) ≡ read_as e st b
  unfolding read_as
  read_twice b =
      let once : min 10000 (min 10000 b.watts) ≡ min 10000 b.watts = omega arith in
      let recovery : min recovery_top (min recovery_top b.recovery) ≡ min recovery_top b.recovery = omega arith in
      same-fields (status-twice b.status) (each_twice (rules e st) b.counters) (ramp-twice b.status st.ramp b.ramp) once refl recovery
      (side-twice b.status b.side) (ramp-twice b.status 10000 b.held)

  -- ---- an accepted call

  next-read : (x : Slice) (b : Board) → next e st x b ≡ next e st x (read_as e st b)
  unfolding next
  next-read x b = ap (ruled e st x) (sym (read_twice b))

  step-read : (b : Board) (x : Slice) → settings_accepted st ≡ true → sample_accepted x ≡ true → step_of e b st x ≡ step_of e (read_as e st b) st x
  step-read b x ok good =
      accepted-step e b st x ok good
      ∙ ap (λ (c : Board). record { board = c; answer = Ok (report_of (shown e st c)) }) (next-read x b)
      ∙ sym (accepted-step e (read_as e st b) st x ok good)

  -- ---- a record of a history

  status-kept : (h : History) → cond (in_service (record_of e st h).status) (record_of e st h).status 0 ≡ (record_of e st h).status
  status-kept h = ap (λ (b : Bool). cond b (record_of e st h).status 0) (service-is e st h) ∙ by (serving e st h) refl
    where
      by : (b : Bool) → serving e st h ≡ b → cond b (record_of e st h).status 0 ≡ (record_of e st h).status
      by true p = refl
      by false p = sym (status-is e st h ∙ tripped-status e st h p)

  read_kept : (h : History) → read_as e st (record_of e st h) ≡ record_of e st h
  unfolding read_as
  read_kept h =
      same-fields (status-kept h) (read-counters e st h ∙ sym (counters-are e st h)) (read-ramp e st h ∙ sym (ramp-is e st h)) (read-watts e st h ∙ sym (watts-is e st h)) refl
      (read-recovery e st h ∙ sym (recovery-is e st h)) (read-side e st h ∙ sym (side-is e st h)) (read_held e st h ∙ sym (held-is e st h))

  run-kept : settings_accepted st ≡ true → (cs : List Call) → Under st cs
      → read_as e st (run_of (ruled_by e) cs).board ≡ (run_of (ruled_by e) cs).board
  run-kept ok cs u =
      let is = ap (λ (r : Run). r.board) (run_is e st ok cs u) in
      ap (read_as e st) is ∙ read_kept (accepted_samples cs) ∙ sym is

pub reads-records : (e : Equipment) → ReadsRecords e (ruled_by e)
reads-records e =
    record {
      steps = λ b c p.
          let q = both (settings_accepted c.settings) (sample_accepted c.slice) p in
          step-read e c.settings b c.slice q.0 q.1;
      keeps = λ b c p. ap (λ (t : Stepped). t.board) (refused-step e b c.settings c.slice p).1;
      twice = read_twice e;
      left = run-kept e;
    }
