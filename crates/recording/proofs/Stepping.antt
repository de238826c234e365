-- The loop over the samples: from where it stands, with what it holds, the calls that are left end as all calls do from a fresh board.
-- Assumes nothing.
use Rattle.std.specs.Prelude.{Ok, Err}
use mathlib.Core.Path.{◌≡◌, refl, sym, ap, ap₂, ◌∙◌}
use mathlib.Core.Bool.{Bool, true, false, cond, ◌&&◌}
use mathlib.Core.List.{List, [], ◌∷◌, ◌++◌}
use Prim.Native.Nat.{ℕ, ◌+◌, ◌-◌, ◌≤◌, ◌<◌, min}
use native.Mathlib.Omega.{arith}
use lib.ListN.{length, take, drop, length-drop, drop_of_length-le}
use Rattle.rules.specs.Settings.{settings_accepted}
use Rattle.rules.specs.Samples.{Slice, Equipment, sample_accepted}
use Rattle.rules.specs.Refusals.{answer_number}
use Rattle.rules.specs.Records.{fresh, step_of}
use Rattle.rules.specs.History.{History}
use Rattle.rules.specs.declared.Settings.{Settings}
use Rattle.rules.specs.declared.Board.{Board}
use Rattle.rules.specs.declared.Report.{Report}
use Rattle.rules.specs.declared.Refusal.{Refusal}
use Rattle.rules.specs.Answers.{Answer}
use Rattle.rules.specs.declared.Stepped.{Stepped}
use Rattle.causes.specs.Calls.{Call, Run, ruled_by, fresh_report, last_report, called_all, call_accepted, accepted_after, accepted_samples}
use Rattle.basics.proofs.Bools.{both}
use Rattle.basics.proofs.Refusals.{number-bounds}
use Rattle.laws.proofs.Steps.{accepted-step, refused-step}
use Rattle.recording.specs.Recordings.{group_length, call_of, calls_of, run_over, ran_by}
use Rattle.recording.specs.declared.Ran.{Ran}
use Rattle.recording.proofs.Groups.{calls-none, chunk-called, fewer}

-- ---- an answer tells whether the call was accepted

module _ (e : Equipment) (b : Board) (st : Settings) (x : Slice) where
  told-accepted : (r : Report) → (step_of e b st x).answer ≡ Ok r → (settings_accepted st && sample_accepted x) ≡ true
  told-accepted r told = by (settings_accepted st && sample_accepted x) refl
    where
      by : (t : Bool) → (settings_accepted st && sample_accepted x) ≡ t → t ≡ true
      by true p = refl
      by false p =
          let away = refused-step e b st x p in
          let zero : 0 ≡ answer_number (Err away.0) = ap answer_number (sym told ∙ ap (λ (u : Stepped). u.answer) away.1) in
          absurd (omega (arith, zero, (number-bounds away.0).0))

  told-refused : (cause : Refusal) → (step_of e b st x).answer ≡ Err cause → (settings_accepted st && sample_accepted x) ≡ false
  told-refused cause told = by (settings_accepted st && sample_accepted x) refl
    where
      by : (t : Bool) → (settings_accepted st && sample_accepted x) ≡ t → t ≡ false
      by false p = refl
      by true p =
          let q = both (settings_accepted st) (sample_accepted x) p in
          let zero : answer_number (Err cause) ≡ 0
          = ap answer_number (sym told ∙ ap (λ (u : Stepped). u.answer) (accepted-step e b st x q.0 q.1)) in
          absurd (omega (arith, zero, (number-bounds cause).0))

-- ---- the loop

abbrev working : Board → Report → Run
working board report = record { board = board; report = report }

module _ (e : Equipment) (st : Settings) (samples : List ℕ) where
  pub record Going (rest : List ℕ) (board : Board) (report : Report) (accepted : ℕ) : Type 0 where
    pub run : called_all (ruled_by e) (working board report) (calls_of st rest) ≡ run_over e st samples
    pub history : History
    pub so_far : accepted_after history (calls_of st rest) ≡ accepted_samples (calls_of st samples)
    pub counted : length history ≡ accepted
    pub few : accepted + length rest ≤ length samples

  pub beginning : (rest : List ℕ) (board : Board) (report : Report) → rest ≡ samples → board ≡ fresh → report ≡ fresh_report → Going rest board report 0
  beginning rest board report all b r =
      record {
        run =
            ap₂ (λ (k : Board) (p : Report). called_all (ruled_by e) (working k p) (calls_of st rest)) b r
            ∙ ap (λ (s : List ℕ). called_all (ruled_by e) (working fresh fresh_report) (calls_of st s)) all;
        history = [];
        so_far = ap (λ (s : List ℕ). accepted_after [] (calls_of st s)) all;
        counted = refl;
        few = omega (arith, ap length all);
      }

  module _ (rest : List ℕ) (board : Board) (report : Report) (accepted : ℕ) (g : Going rest board report accepted)
      (x next : List ℕ) (apart : rest ≡ x ++ next) (long : length x ≡ min group_length (length rest)) (some : 0 < length rest)
      (t : Stepped) (stepped : t ≡ step_of e board st x) where
    first-left : calls_of st rest ≡ call_of st x ∷ calls_of st next
    first-left = chunk-called rest x next apart long st some

    answered : (a : Answer) → t.answer ≡ a → (step_of e board st x).answer ≡ a
    answered a told = sym (ap (λ (u : Stepped). u.answer) stepped) ∙ told

    run_on : (a : Answer) → t.answer ≡ a → called_all (ruled_by e) (working t.board (last_report report a)) (calls_of st next) ≡ run_over e st samples
    run_on a told =
        ap₂ (λ (u : Stepped) (k : Answer). called_all (ruled_by e) (working u.board (last_report report k)) (calls_of st next)) stepped (sym (answered a told))
        ∙ ap (called_all (ruled_by e) (working board report)) (sym first-left) ∙ g.run

    history-on : (b : Bool) → call_accepted (call_of st x) ≡ b
        → accepted_after (cond b (x ∷ g.history) g.history) (calls_of st next) ≡ accepted_samples (calls_of st samples)
    history-on b p =
        ap (λ (k : Bool). accepted_after (cond k (x ∷ g.history) g.history) (calls_of st next)) (sym p)
        ∙ ap (accepted_after g.history) (sym first-left) ∙ g.so_far

    pub reported : (new : Report) → t.answer ≡ Ok new → Going next t.board new (accepted + 1)
    reported new told =
        record {
          run = run_on (Ok new) told;
          history = x ∷ g.history;
          so_far = history-on true (told-accepted e board st x new (answered (Ok new) told));
          counted = omega (arith, g.counted);
          few = omega (arith, g.few, fewer rest x next apart long some);
        }

    pub refused : (cause : Refusal) → t.answer ≡ Err cause → Going next t.board report accepted
    refused cause told =
        record {
          run = run_on (Err cause) told;
          history = g.history;
          so_far = history-on false (told-refused e board st x cause (answered (Err cause) told));
          counted = g.counted;
          few = omega (arith, g.few, fewer rest x next apart long some);
        }

  -- no numbers are left
  pub ended : (rest : List ℕ) (board : Board) (report : Report) (accepted : ℕ) → Going rest board report accepted → length rest ≡ 0
      → record { board = board; report = report; accepted = accepted } ≡ ran_by e st samples
  unfolding ran_by
  ended (n ∷ rest) board report accepted g past = absurd (omega arith)
  ended [] board report accepted g past = ap₂ made at-end number
    where
      made : Run → ℕ → Ran
      made r n = record { board = r.board; report = r.report; accepted = n }

      at-end : working board report ≡ run_over e st samples
      at-end = ap (called_all (ruled_by e) (working board report)) (sym (calls-none st)) ∙ g.run

      number : accepted ≡ length (accepted_samples (calls_of st samples))
      number = sym g.counted ∙ ap (λ (cs : List Call). length (accepted_after g.history cs)) (sym (calls-none st)) ∙ ap length g.so_far
