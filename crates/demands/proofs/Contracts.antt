-- The contracts of the public functions say the words of the demands, and the code meets them.
-- Assumes nothing.
use seplogic.Ra.Ura.{Ura}
use base.Logic.{SProp, ent, sep, id⊢, via, mono_r}
use prog.Memory.{Memory}
use prog.Routine.{Routine}
use types.Logic.{Logic}
use contract.Monad.{Fun, fact}
use Rattle.walk.proofs.Whole.{both_facts}
use Rattle.demands.specs.CodeContracts.{ContractsSay, CodeMeets}
use Rattle.sensing.proofs.sense.Met as sense
use Rattle.settings.proofs.check.Met as check
use Rattle.freshboard.proofs.fresh.Met as fresh-board
use Rattle.freshboard.proofs.fresh_report.Met as fresh-report
use Rattle.service.proofs.step.step.Met as step
use Rattle.explain.proofs.fresh_answer.Met as fresh-answer
use Rattle.explain.proofs.step.step.Met as explained-step
use Rattle.image.proofs.save.Met as save
use Rattle.carryover.proofs.forward.Met as forward
use Rattle.carryover.proofs.back.Met as back
use Rattle.replay.proofs.replay.Met as replay
use Rattle.sheet.proofs.read.Met as read
use Rattle.sheet.proofs.part.Met as part
use Rattle.reader.proofs.read_sheet.Met as read-sheet
use Rattle.respond.proofs.start.Met as start-state
use Rattle.respond.proofs.respond.Met as respond
use Rattle.saltdelta.proofs.saltdelta_fresh.Met as exported-fresh
use Rattle.saltdelta.proofs.saltdelta_fresh_report.Met as exported-fresh-report
use Rattle.saltdelta.proofs.saltdelta_read_sheet.Met as exported-read-sheet
use Rattle.saltdelta.proofs.saltdelta_step.Met as exported-step
use Rattle.saltdelta.proofs.saltdelta_fresh_explained.Met as exported-fresh-explained
use Rattle.saltdelta.proofs.saltdelta_step_explained.Met as exported-step-explained
use Rattle.saltdelta.proofs.saltdelta_save.Met as exported-save
use Rattle.saltdelta.proofs.saltdelta_carry_forward.Met as exported-forward
use Rattle.saltdelta.proofs.saltdelta_carry_back.Met as exported-back
use Rattle.saltdelta.proofs.saltdelta_replay.Met as exported-replay

module _ {M : Type 1} {𝓤 : Ura M} (𝓛 : Logic 𝓤) (mem : Memory → SProp 𝓤) (run : Routine → Fun 𝓤) where
  all-facts : (φ ψ χ : Type 0) → ent 𝓤 (sep 𝓤 (fact 𝓤 φ) (sep 𝓤 (fact 𝓤 ψ) (fact 𝓤 χ))) (fact 𝓤 (φ × (ψ × χ)))
  all-facts φ ψ χ = via 𝓤 (sep 𝓤 (fact 𝓤 φ) (fact 𝓤 (ψ × χ))) (mono_r 𝓤 (fact 𝓤 φ) (both_facts 𝓤 ψ χ)) (both_facts 𝓤 φ (ψ × χ))

  pub contracts-say : ContractsSay 𝓛 mem run
  contracts-say =
      record {
        sense = λ κs a. (tt, id⊢ 𝓤 _, λ r e. both_facts 𝓤 _ _);
        check = λ κs a. (tt, id⊢ 𝓤 _, λ r e. both_facts 𝓤 _ _);
        fresh-record = λ κs a. (tt, id⊢ 𝓤 _, λ r e. id⊢ 𝓤 _);
        fresh-report = λ κs a. (tt, id⊢ 𝓤 _, λ r e. id⊢ 𝓤 _);
        step = λ κs a. (tt, id⊢ 𝓤 _, λ r e. both_facts 𝓤 _ _);
        fresh-answer = λ κs a. (tt, id⊢ 𝓤 _, λ r e. id⊢ 𝓤 _);
        explained-step = λ κs a. (tt, id⊢ 𝓤 _, λ r e. both_facts 𝓤 _ _);
        save = λ κs a. (tt, id⊢ 𝓤 _, λ r e. both_facts 𝓤 _ _);
        forward = λ κs a. (tt, id⊢ 𝓤 _, λ r e. both_facts 𝓤 _ _);
        back = λ κs a. (tt, id⊢ 𝓤 _, λ r e. both_facts 𝓤 _ _);
        replay = λ κs a. (tt, id⊢ 𝓤 _, λ r e. both_facts 𝓤 _ _);
        read = λ κs a. (tt, id⊢ 𝓤 _, λ r e. both_facts 𝓤 _ _);
        part = λ κs a. (tt, id⊢ 𝓤 _, λ r e. id⊢ 𝓤 _);
        read-sheet = λ κs a. (tt, id⊢ 𝓤 _, λ r e. id⊢ 𝓤 _);
        start-state = λ κs a. (tt, id⊢ 𝓤 _, λ r e. id⊢ 𝓤 _);
        respond = λ κs a. (tt, id⊢ 𝓤 _, λ r e. all-facts _ _ _);
        exported-fresh = λ κs a. (tt, id⊢ 𝓤 _, λ r e. id⊢ 𝓤 _);
        exported-fresh-report = λ κs a. (tt, id⊢ 𝓤 _, λ r e. id⊢ 𝓤 _);
        exported-read-sheet = λ κs a. (tt, id⊢ 𝓤 _, λ r e. id⊢ 𝓤 _);
        exported-step = λ κs a. (tt, id⊢ 𝓤 _, λ r e. id⊢ 𝓤 _);
        exported-fresh-explained = λ κs a. (tt, id⊢ 𝓤 _, λ r e. id⊢ 𝓤 _);
        exported-step-explained = λ κs a. (tt, id⊢ 𝓤 _, λ r e. id⊢ 𝓤 _);
        exported-save = λ κs a. (tt, id⊢ 𝓤 _, λ r e. id⊢ 𝓤 _);
        exported-forward = λ κs a. (tt, id⊢ 𝓤 _, λ r e. id⊢ 𝓤 _);
        exported-back = λ κs a. (tt, id⊢ 𝓤 _, λ r e. id⊢ 𝓤 _);
        exported-replay = λ κs a. (tt, id⊢ 𝓤 _, λ r e. id⊢ 𝓤 _);
      }

pub code_meets : {M : Type 1} → CodeMeets M
code_meets =
    record {
      sense = sense.met;
      check = check.met;
      fresh-record = fresh-board.met;
      fresh-report = fresh-report.met;
      step = step.met;
      fresh-answer = fresh-answer.met;
      explained-step = explained-step.met;
      save = save.met;
      forward = forward.met;
      back = back.met;
      replay = replay.met;
      read = read.met;
      part = part.met;
      read-sheet = read-sheet.met;
      start-state = start-state.met;
      respond = respond.met;
      exported-fresh = exported-fresh.met;
      exported-fresh-report = exported-fresh-report.met;
      exported-read-sheet = exported-read-sheet.met;
      exported-step = exported-step.met;
      exported-fresh-explained = exported-fresh-explained.met;
      exported-step-explained = exported-step-explained.met;
      exported-save = exported-save.met;
      exported-forward = exported-forward.met;
      exported-back = exported-back.met;
      exported-replay = exported-replay.met;
    }
