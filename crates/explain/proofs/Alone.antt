-- Without its rules the step is the one that does not ask; so it is refused by the same numbers, and leaves the same.
-- Assumes nothing.
use Rattle.std.specs.Prelude.{Ok, Err}
use mathlib.Core.Path.{◌≡◌, refl, ap, ◌∙◌}
use mathlib.Core.List.{◌++◌}
use Prim.Native.Nat.{ℕ}
use Rattle.rules.specs.Settings.{settings_check}
use Rattle.rules.specs.Samples.{Slice, Equipment}
use Rattle.rules.specs.Refusals.{answer_number}
use Rattle.rules.specs.Records.{step_of}
use Rattle.rules.specs.declared.Settings.{Settings}
use Rattle.rules.specs.declared.Board.{Board}
use Rattle.rules.specs.declared.Refusal.{Refusal}
use Rattle.rules.specs.Answers.{Answer, settings_refused}
use Rattle.rules.specs.declared.Stepped.{Stepped}
use Rattle.causes.specs.FirstCause.{first, settings_causes, sample_causes}
use Rattle.laws.proofs.FirstCause.{step-number}
use Rattle.service.proofs.Stepping.{settings-refused}
use Rattle.explain.specs.Numbers.{explained_number}
use Rattle.explain.specs.Explained.{record_status_rule, record_watts_rule, with_rules, explained_step}
use Rattle.explain.specs.Explains.{answer_alone, LeavesReports, explained_by}
use Rattle.reasons.specs.declared.StatusRule.{StatusRule}
use Rattle.reasons.specs.declared.WattsRule.{WattsRule}

pub alone : (status : StatusRule) (watts : WattsRule) (a : Answer) → answer_alone (with_rules status watts a) ≡ a
alone status watts (Ok report) = refl
alone status watts (Err cause) = refl

pub numbered : (status : StatusRule) (watts : WattsRule) (a : Answer) → explained_number (with_rules status watts a) ≡ answer_number a
numbered status watts (Ok report) = refl
numbered status watts (Err cause) = refl

module _ (e : Equipment) (b : Board) (s : Settings) (x : Slice) where
  pub explained-number : explained_number (explained_step e b s x).answer ≡ first (settings_causes s ++ sample_causes x)
  unfolding explained_step
  explained-number = numbered _ _ (step_of e b s x).answer ∙ step-number e b s x

  -- what a step's result makes of the rules
  pub explained-from : (t : Stepped) → step_of e b s x ≡ t
      → explained_step e b s x ≡ record { board = t.board; answer = with_rules (record_status_rule e s x b t.board) (record_watts_rule e s x t.board) t.answer }
  unfolding explained_step
  explained-from t =
      ap (λ (u : Stepped). record { board = u.board; answer = with_rules (record_status_rule e s x b u.board) (record_watts_rule e s x u.board) u.answer })

  pub explained-refused : (cause : Refusal) (line : ℕ) → settings_check s ≡ settings_refused cause line
      → explained_step e b s x ≡ record { board = b; answer = Err cause }
  explained-refused cause line k = explained-from _ (settings-refused e s x b cause line k)

pub leaves-reports : (e : Equipment) → LeavesReports e (explained_by e)
unfolding explained_step
leaves-reports e b s x = ap (λ (a : Answer). record { board = (step_of e b s x).board; answer = a }) (alone _ _ (step_of e b s x).answer)
