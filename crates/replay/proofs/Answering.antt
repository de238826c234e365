-- What a replay answers and leaves of the buffer, refused or not.
-- Assumes nothing.
use Rattle.std.specs.Prelude.{Ok, Err}
use mathlib.Core.Path.{◌≡◌, refl, sym, ap, ap₂, ◌∙◌}
use mathlib.Core.Bool.{Bool, true, false, cond, not}
use mathlib.Core.List.{List, [], ◌∷◌, ◌++◌, map}
use Prim.Native.Nat.{ℕ, zero, suc, ◌≤◌, ◌<◌}
use native.Mathlib.Omega.{arith}
use lib.Dec.{ltb}
use lib.ListN.{length}
use borrow.Author.Tests.{le-leb, lt-leb}
use Rattle.rules.specs.Tests.{all}
use Rattle.rules.specs.Samples.{Equipment}
use Rattle.rules.specs.Settings.{Pair, Row, rows, in_row, rising, lines_of, settings_check, settings_passed, settings_accepted}
use Rattle.rules.specs.Regions.{our_equipment}
use Rattle.rules.specs.Records.{fresh}
use Rattle.rules.specs.Refusals.{refusal_number, settings_number, saved_number}
use Rattle.rules.specs.Images.{image_length, save_check, saved_into}
use Rattle.rules.specs.declared.Settings.{Settings}
use Rattle.rules.specs.declared.Refusal.{Refusal}
use Rattle.rules.specs.declared.Refusal.TheVariants.{Buffer}
use Rattle.rules.specs.Answers.{SettingsCheck, settings_refused}
use Rattle.causes.specs.Calls.{Run, fresh_report, accepted_samples}
use Rattle.causes.specs.FirstCause.{Cause, cause, first, line_causes, settings_causes}
use Rattle.causes.specs.Alike.{Alike}
use Rattle.basics.proofs.Refusals.{number-bounds}
use Rattle.laws.proofs.Alike.{calls-alike}
use Rattle.laws.proofs.FirstCause.{refuses-rightly}
use Rattle.recording.specs.Recordings.{calls_of, run_over, ran_by}
use Rattle.recording.specs.declared.Ran.{Ran}
use Rattle.replay.specs.Replays.{replay_number, unless_refused, replay_refused, replayed_by, replayed_into_by}
use Rattle.replay.specs.declared.Replayed.{Replayed}

pub kept {ℓ} : {A : Type ℓ} (n : ℕ) (x y : A) → 0 < n → unless_refused n x y ≡ y
kept zero x y h = absurd (omega arith)
kept (suc n) x y h = refl

pub given {ℓ} : {A : Type ℓ} (n : ℕ) (x y : A) → n ≡ 0 → unless_refused n x y ≡ x
given zero x y h = refl
given (suc n) x y h = absurd (omega arith)

module _ (st : Settings) (samples buffer : List ℕ) where
  -- ---- its number

  pub by-settings : (check : SettingsCheck) → settings_check st ≡ check
      → replay_number st buffer ≡ cond (settings_passed check) (saved_number (save_check buffer)) (settings_number check)
  unfolding replay_number
  by-settings check told = ap (λ (k : SettingsCheck). cond (settings_passed k) (saved_number (save_check buffer)) (settings_number k)) told

  saved-9 : length buffer < image_length → saved_number (save_check buffer) ≡ refusal_number Buffer
  unfolding save_check
  saved-9 h = rw (lt-leb image_length (length buffer) h)

  saved-0 : image_length ≤ length buffer → saved_number (save_check buffer) ≡ 0
  unfolding save_check
  saved-0 h = rw (le-leb image_length (length buffer) h)

  pub number-0 : settings_accepted st ≡ true → image_length ≤ length buffer → replay_number st buffer ≡ 0
  unfolding replay_number
  number-0 ok room = rw ok (saved-0 room)

module _ (e : Equipment) (st : Settings) (samples buffer : List ℕ) where
  -- ---- where it is refused

  pub away : (cause : Refusal) → replay_number st buffer ≡ refusal_number cause
      → (replay_refused cause ≡ replayed_by e st samples buffer) × (buffer ≡ replayed_into_by e st samples buffer)
  unfolding replayed_by replayed_into_by
  away cause is =
      let some : 0 < replay_number st buffer = omega (arith, is, (number-bounds cause).0) in
      (by (replay_number st buffer) (refusal_number cause) is some, sym (kept (replay_number st buffer) _ buffer some))
    where
      by : (n m : ℕ) → n ≡ m → 0 < n
          → ◌≡◌ {A = Replayed} (record { number = m; accepted = 0; report = fresh_report }) (record {
            number = n;
            accepted = unless_refused n (length (accepted_samples (calls_of st samples))) 0;
            report = unless_refused n (run_over e st samples).report fresh_report;
          })
      by zero m p h = absurd (omega arith)
      by (suc n) m p h = ap (λ (k : ℕ). record { number = k; accepted = 0; report = fresh_report }) (sym p)

  pub by-2-or-3 : (cause : Refusal) (line : ℕ) → settings_check st ≡ settings_refused cause line
      → (replay_refused cause ≡ replayed_by e st samples buffer) × (buffer ≡ replayed_into_by e st samples buffer)
  by-2-or-3 cause line told = away cause (by-settings st samples buffer (settings_refused cause line) told)

  pub by-9 : settings_check st ≡ Ok tt → length buffer < image_length
      → (replay_refused Buffer ≡ replayed_by e st samples buffer) × (buffer ≡ replayed_into_by e st samples buffer)
  by-9 told short = away Buffer (by-settings st samples buffer (Ok tt) told ∙ saved-9 st samples buffer short)

  -- ---- where it is not

  pub through : settings_check st ≡ Ok tt → image_length ≤ length buffer → (r : Ran) → r ≡ ran_by e st samples
      → (after : List ℕ) → after ≡ saved_into r.board buffer
      → (record { number = 0; accepted = r.accepted; report = r.report } ≡ replayed_by e st samples buffer) × (after ≡ replayed_into_by e st samples buffer)
  unfolding replayed_by replayed_into_by ran_by
  through told room r is after into =
      let none : replay_number st buffer ≡ 0 = by-settings st samples buffer (Ok tt) told ∙ saved-0 st samples buffer room in
      rw (none, is) (refl, into ∙ rw is)

-- ---- the first cause, of the settings and then of the buffer

lines_then : (rs : List Row) (ls : List (List Pair)) (ds : List Cause)
    → first (line_causes rs ls ++ ds) ≡ unless_refused (first (line_causes rs ls)) (first ds) (first (line_causes rs ls))
lines_then [] ls ds = refl
lines_then (r ∷ rs) [] ds = refl
lines_then (r ∷ rs) (ps ∷ ls) ds = by (not (all (map (in_row r) ps))) (not (rising ps)) (lines_then rs ls ds)
  where
    by : (a b : Bool) → first (line_causes rs ls ++ ds) ≡ unless_refused (first (line_causes rs ls)) (first ds) (first (line_causes rs ls))
        → cond a 2 (cond b 3 (first (line_causes rs ls ++ ds)))
        ≡ unless_refused (cond a 2 (cond b 3 (first (line_causes rs ls)))) (first ds) (cond a 2 (cond b 3 (first (line_causes rs ls))))
    by true b e = refl
    by false true e = refl
    by false false e = e

then-saved : (st : Settings) (buffer : List ℕ) (check : SettingsCheck)
    → cond (settings_passed check) (saved_number (save_check buffer)) (settings_number check)
    ≡ unless_refused (settings_number check) (saved_number (save_check buffer)) (settings_number check)
then-saved st buffer (Ok ok) = refl
then-saved st buffer (Err away) = sym (kept (refusal_number away.cause) (saved_number (save_check buffer)) (refusal_number away.cause) (number-bounds away.cause).0)

pub number-first : (st : Settings) (buffer : List ℕ)
    → replay_number st buffer ≡ first (settings_causes st ++ (cause 9 (ltb (length buffer) image_length) ∷ []))
number-first st buffer =
    by-settings st [] buffer (settings_check st) refl ∙ then-saved st buffer (settings_check st)
    ∙ ap₂ (λ (n m : ℕ). unless_refused n m n) ((refuses-rightly our_equipment).check st) ((refuses-rightly our_equipment).save fresh buffer)
    ∙ sym (lines_then rows (lines_of st) (cause 9 (ltb (length buffer) image_length) ∷ []))

pub numbered : (e : Equipment) (st : Settings) (samples buffer : List ℕ) (r : Replayed) → r ≡ replayed_by e st samples buffer
    → r.number ≡ first (settings_causes st ++ (cause 9 (ltb (length buffer) image_length) ∷ []))
unfolding replayed_by
numbered e st samples buffer r is = ap (λ (q : Replayed). q.number) is ∙ number-first st buffer

-- ---- equipments that no accepted sample tells apart replay alike

module _ (e f : Equipment) (a : Alike e f) (st : Settings) (samples buffer : List ℕ) where
  run-alike : run_over e st samples ≡ run_over f st samples
  run-alike = calls-alike e f a (calls_of st samples) (record { board = fresh; report = fresh_report })

  pub replayed-alike : replayed_by e st samples buffer ≡ replayed_by f st samples buffer
  unfolding replayed_by
  replayed-alike =
      ap (λ (r : Run). record {
        number = replay_number st buffer;
        accepted = unless_refused (replay_number st buffer) (length (accepted_samples (calls_of st samples))) 0;
        report = unless_refused (replay_number st buffer) r.report fresh_report;
      }) run-alike

  pub into-alike : replayed_into_by e st samples buffer ≡ replayed_into_by f st samples buffer
  unfolding replayed_into_by
  into-alike = ap (λ (r : Run). unless_refused (replay_number st buffer) (saved_into r.board buffer) buffer) run-alike
