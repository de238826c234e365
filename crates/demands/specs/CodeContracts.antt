-- The public functions that the demands speak of, and their contracts as the checker reads them from the source: each asks nothing of its
-- caller, ensures the words of the demands, and is met by the code. A contract that said less would not fit its line here.
--     a          the arguments, in their order: a.0, a.1.0, a.1.1.0; `now` of a reference is what lies behind it
--     e          the same as the function returns
-- Assumes nothing.
use Rattle.std.specs.Prelude.{◌≡◌, false, [], ◌∷◌, ◌++◌, ◌≤◌, ltb, length}
use seplogic.Ra.Ura.{Ura}
use base.Logic.{SProp, ent, emp}
use prog.Memory.{Memory}
use prog.Routine.{Routine}
use types.Logic.{Logic}
use contract.Monad.{Fun, fact}
use contract.Lifetimes.{Lfts}
use denote.Triple.Entry.{Args, Res}
use denote.Triple.Clauses.{Ended, Clauses, AtExit}
use Rattle.rules.specs.Sensing.{last_code, sensed}
use Rattle.rules.specs.Settings.{settings_check}
use Rattle.rules.specs.Regions.{our_equipment}
use Rattle.rules.specs.Refusals.{settings_number, line_of, sensed_number, answer_number, saved_number}
use Rattle.rules.specs.Records.{fresh, step_of}
use Rattle.rules.specs.Images.{image_length, save_check, saved_into}
use Rattle.causes.specs.Calls.{fresh_report}
use Rattle.causes.specs.FirstCause.{cause, first, settings_causes, sample_causes, cause_line}
use Rattle.carryover.specs.CarryOver.{carry_number, forward_answer, back_answer, forward_into, back_into, forward_causes, back_causes}
use Rattle.explain.specs.Numbers.{explained_number}
use Rattle.explain.specs.Explained.{explained_step, fresh_answer}
use Rattle.replay.specs.Replays.{replayed, replayed_into}
use Rattle.sheet.specs.Outcomes.{SheetGiven}
use Rattle.sheet.specs.Parts.{IsPart}
use Rattle.reader.specs.Reads.{Reads}
use Rattle.program.specs.States.{start}
use Rattle.program.specs.Responses.{line_room, longest}
use Rattle.respond.specs.Answering.{Responds}
use Rattle.stepcalls.specs.StepAnswers.{record_after, report_after, step_number}
use Rattle.sheetcalls.specs.SheetAnswers.{sheet_answer, settings_after}
use Rattle.calls.specs.ReplayAnswers.{replay_answer, replay_report}
use Rattle.stepcalls.specs.ExplainedCalls.{explained_fresh, explained_after}
use Rattle.sensing.specs.contracts.sense as sense
use Rattle.sensing.proofs.sense.Statement as sense-code
use Rattle.settings.specs.contracts.check as check
use Rattle.settings.proofs.check.Statement as check-code
use Rattle.freshboard.specs.contracts.fresh as fresh-board
use Rattle.freshboard.proofs.fresh.Statement as fresh-board-code
use Rattle.freshboard.specs.contracts.fresh_report as fresh-report
use Rattle.freshboard.proofs.fresh_report.Statement as fresh-report-code
use Rattle.service.specs.contracts.step.step as step
use Rattle.service.proofs.step.step.Statement as step-code
use Rattle.explain.specs.contracts.fresh_answer as fresh-answer
use Rattle.explain.proofs.fresh_answer.Statement as fresh-answer-code
use Rattle.explain.specs.contracts.step.step as explained-step
use Rattle.explain.proofs.step.step.Statement as explained-step-code
use Rattle.image.specs.contracts.save as save
use Rattle.image.proofs.save.Statement as save-code
use Rattle.carryover.specs.contracts.forward as forward
use Rattle.carryover.proofs.forward.Statement as forward-code
use Rattle.carryover.specs.contracts.back as back
use Rattle.carryover.proofs.back.Statement as back-code
use Rattle.replay.specs.contracts.replay as replay
use Rattle.replay.proofs.replay.Statement as replay-code
use Rattle.sheet.specs.contracts.read as read
use Rattle.sheet.proofs.read.Statement as read-code
use Rattle.sheet.specs.contracts.part as part
use Rattle.sheet.proofs.part.Statement as part-code
use Rattle.reader.specs.contracts.read_sheet as read-sheet
use Rattle.reader.proofs.read_sheet.Statement as read-sheet-code
use Rattle.respond.specs.contracts.start as start-state
use Rattle.respond.proofs.start.Statement as start-state-code
use Rattle.respond.specs.contracts.respond as respond
use Rattle.respond.proofs.respond.Statement as respond-code
use Rattle.saltdelta.specs.contracts.saltdelta_fresh as exported-fresh
use Rattle.saltdelta.proofs.saltdelta_fresh.Statement as exported-fresh-code
use Rattle.saltdelta.specs.contracts.saltdelta_fresh_report as exported-fresh-report
use Rattle.saltdelta.proofs.saltdelta_fresh_report.Statement as exported-fresh-report-code
use Rattle.saltdelta.specs.contracts.saltdelta_read_sheet as exported-read-sheet
use Rattle.saltdelta.proofs.saltdelta_read_sheet.Statement as exported-read-sheet-code
use Rattle.saltdelta.specs.contracts.saltdelta_step as exported-step
use Rattle.saltdelta.proofs.saltdelta_step.Statement as exported-step-code
use Rattle.saltdelta.specs.contracts.saltdelta_fresh_explained as exported-fresh-explained
use Rattle.saltdelta.proofs.saltdelta_fresh_explained.Statement as exported-fresh-explained-code
use Rattle.saltdelta.specs.contracts.saltdelta_step_explained as exported-step-explained
use Rattle.saltdelta.proofs.saltdelta_step_explained.Statement as exported-step-explained-code
use Rattle.saltdelta.specs.contracts.saltdelta_save as exported-save
use Rattle.saltdelta.proofs.saltdelta_save.Statement as exported-save-code
use Rattle.saltdelta.specs.contracts.saltdelta_carry_forward as exported-forward
use Rattle.saltdelta.proofs.saltdelta_carry_forward.Statement as exported-forward-code
use Rattle.saltdelta.specs.contracts.saltdelta_carry_back as exported-back
use Rattle.saltdelta.proofs.saltdelta_carry_back.Statement as exported-back-code
use Rattle.saltdelta.specs.contracts.saltdelta_replay as exported-replay
use Rattle.saltdelta.proofs.saltdelta_replay.Statement as exported-replay-code

-- a claim of a call, by its arguments, its result and the arguments as it returns
abbrev pub Claim : Ended → Type 1
Claim T = (κs : Lfts T.signature.lifetimes) → Args T.signature κs → Res T.signature κs → AtExit T κs → Type 0

-- it can be called with nothing in hand, without a `requires`, and its `ensures` gives the claim
abbrev pub Promises : {M : Type 1} (𝓤 : Ura M) (T : Ended) → Clauses 𝓤 T → Claim T → Type 1
Promises 𝓤 T c claim =
    (κs : Lfts T.signature.lifetimes) (a : Args T.signature κs)
    → (g : (c κs a).ghost) × ent 𝓤 (emp 𝓤) ((c κs a).requires g)
    × ((r : Res T.signature κs) (e : AtExit T κs) → ent 𝓤 ((c κs a).ensures g r e) (fact 𝓤 (claim κs a r e)))

-- in every model of the logic, as contracts are read
module _ {M : Type 1} {𝓤 : Ura M} (𝓛 : Logic 𝓤) (mem : Memory → SProp 𝓤) (run : Routine → Fun 𝓤) where
  pub record ContractsSay : Type 2 where
    -- `sensing::sense`, `settings::check`, `freshboard::fresh`, `freshboard::fresh_report`, `service::step::step`, `explain::fresh_answer`, `explain::step::step`, `image::save`, `carryover::forward`,
    -- `carryover::back`, `replay::replay`, `sheet::read`, `sheet::part`, `reader::read_sheet`, `respond::start`, `respond::respond`
    pub sense : Promises 𝓤 sense.ended (sense.clauses 𝓛 mem run)
        (λ κs a r e. (r ≡ sensed a.0) × (sensed_number r ≡ first (cause 4 (ltb last_code a.0) ∷ [])))
    pub check : Promises 𝓤 check.ended (check.clauses 𝓛 mem run)
        (λ κs a r e. (r ≡ settings_check a.0) × ((settings_number r ≡ first (settings_causes a.0)) × (line_of r ≡ cause_line 1 (settings_causes a.0))))
    pub fresh-record : Promises 𝓤 fresh-board.ended (fresh-board.clauses 𝓛 mem run) (λ κs a r e. r ≡ fresh)
    pub fresh-report : Promises 𝓤 fresh-report.ended (fresh-report.clauses 𝓛 mem run) (λ κs a r e. r ≡ fresh_report)
    pub step : Promises 𝓤 step.ended (step.clauses 𝓛 mem run)
        (λ κs a r e. (r ≡ step_of our_equipment a.0 a.1.0 a.1.1.0.now)
        × (answer_number r.answer ≡ first (settings_causes a.1.0 ++ sample_causes a.1.1.0.now)))
    pub fresh-answer : Promises 𝓤 fresh-answer.ended (fresh-answer.clauses 𝓛 mem run) (λ κs a r e. r ≡ fresh_answer)
    pub explained-step : Promises 𝓤 explained-step.ended (explained-step.clauses 𝓛 mem run)
        (λ κs a r e. (r ≡ explained_step our_equipment a.0 a.1.0 a.1.1.0.now)
        × (explained_number r.answer ≡ first (settings_causes a.1.0 ++ sample_causes a.1.1.0.now)))
    pub save : Promises 𝓤 save.ended (save.clauses 𝓛 mem run)
        (λ κs a r e. ((r ≡ save_check a.1.0.now) × (e.1.0.now ≡ saved_into a.0 a.1.0.now))
        × (saved_number r ≡ first (cause 9 (ltb (length a.1.0.now) image_length) ∷ [])))
    pub forward : Promises 𝓤 forward.ended (forward.clauses 𝓛 mem run)
        (λ κs a r e. ((r ≡ forward_answer a.0.now a.1.0.now) × (e.1.0.now ≡ forward_into a.0.now a.1.0.now))
        × (carry_number r ≡ first (forward_causes a.0.now a.1.0.now)))
    pub back : Promises 𝓤 back.ended (back.clauses 𝓛 mem run)
        (λ κs a r e. ((r ≡ back_answer a.0.now a.1.0.now) × (e.1.0.now ≡ back_into a.0.now a.1.0.now))
        × (carry_number r ≡ first (back_causes a.0.now a.1.0.now)))
    pub replay : Promises 𝓤 replay.ended (replay.clauses 𝓛 mem run)
        (λ κs a r e. ((r ≡ replayed a.0 a.1.0.now a.1.1.0.now)
        × (e.1.1.0.now ≡ replayed_into a.0 a.1.0.now a.1.1.0.now))
        × (r.number ≡ first (settings_causes a.0 ++ (cause 9 (ltb (length a.1.1.0.now) image_length) ∷ []))))
    pub read : Promises 𝓤 read.ended (read.clauses 𝓛 mem run) (λ κs a r e. SheetGiven a.0.now r × (r.start ≤ length a.0.now))
    pub part : Promises 𝓤 part.ended (part.clauses 𝓛 mem run) (λ κs a r e. IsPart a.0 r)
    pub read-sheet : Promises 𝓤 read-sheet.ended (read-sheet.clauses 𝓛 mem run) (λ κs a r e. Reads a.0 r)
    pub start-state : Promises 𝓤 start-state.ended (start-state.clauses 𝓛 mem run) (λ κs a r e. r ≡ start)
    pub respond : Promises 𝓤 respond.ended (respond.clauses 𝓛 mem run)
        (λ κs a r e. Responds our_equipment a.0 a.1.0.now a.1.1.0 a.1.1.1.0.now e.1.1.1.0.now r
        × (((r.taken ≤ length a.1.0.now) × (r.written ≤ length a.1.1.1.0.now))
        × (line_room ≤ length a.1.1.1.0.now → r.done ≡ false → r.taken ≡ 0 → length a.1.0.now ≤ longest)))
    -- the functions of `saltdelta`; each export of `saltdelta_c` is one call of that of its name, with the same clauses
    pub exported-fresh : Promises 𝓤 exported-fresh.ended (exported-fresh.clauses 𝓛 mem run) (λ κs a r e. r ≡ fresh)
    pub exported-fresh-report : Promises 𝓤 exported-fresh-report.ended (exported-fresh-report.clauses 𝓛 mem run) (λ κs a r e. r ≡ fresh_report)
    pub exported-read-sheet : Promises 𝓤 exported-read-sheet.ended (exported-read-sheet.clauses 𝓛 mem run)
        (λ κs a r e. (e.0.now ≡ settings_after a.0.now a.1.0.now) × (r ≡ sheet_answer a.1.0.now))
    pub exported-step : Promises 𝓤 exported-step.ended (exported-step.clauses 𝓛 mem run)
        (λ κs a r e. (e.0.now ≡ record_after a.0.now a.1.0.now a.1.1.0.now)
        × (e.1.1.1.0.now ≡ report_after a.1.1.1.0.now a.0.now a.1.0.now a.1.1.0.now)
        × (r ≡ step_number a.0.now a.1.0.now a.1.1.0.now))
    pub exported-fresh-explained : Promises 𝓤 exported-fresh-explained.ended (exported-fresh-explained.clauses 𝓛 mem run) (λ κs a r e. r ≡ explained_fresh)
    pub exported-step-explained : Promises 𝓤 exported-step-explained.ended (exported-step-explained.clauses 𝓛 mem run)
        (λ κs a r e. (e.0.now ≡ record_after a.0.now a.1.0.now a.1.1.0.now)
        × (e.1.1.1.0.now ≡ explained_after a.1.1.1.0.now a.0.now a.1.0.now a.1.1.0.now)
        × (r ≡ step_number a.0.now a.1.0.now a.1.1.0.now))
    pub exported-save : Promises 𝓤 exported-save.ended (exported-save.clauses 𝓛 mem run)
        (λ κs a r e. (r ≡ saved_number (save_check a.1.0.now)) × (e.1.0.now ≡ saved_into a.0.now a.1.0.now))
    pub exported-forward : Promises 𝓤 exported-forward.ended (exported-forward.clauses 𝓛 mem run)
        (λ κs a r e. (r ≡ carry_number (forward_answer a.0.now a.1.0.now)) × (e.1.0.now ≡ forward_into a.0.now a.1.0.now))
    pub exported-back : Promises 𝓤 exported-back.ended (exported-back.clauses 𝓛 mem run)
        (λ κs a r e. (r ≡ carry_number (back_answer a.0.now a.1.0.now)) × (e.1.0.now ≡ back_into a.0.now a.1.0.now))
    pub exported-replay : Promises 𝓤 exported-replay.ended (exported-replay.clauses 𝓛 mem run)
        (λ κs a r e. (e.1.1.0.now ≡ replay_report a.1.1.0.now a.0.now a.1.0.now a.1.1.1.0.now)
        × (e.1.1.1.0.now ≡ replayed_into a.0.now a.1.0.now a.1.1.1.0.now)
        × (r ≡ replay_answer a.0.now a.1.0.now a.1.1.1.0.now))

-- the code of each meets its contract
pub record CodeMeets (M : Type 1) : Type 2 where
  pub sense : sense-code.statement M
  pub check : check-code.statement M
  pub fresh-record : fresh-board-code.statement M
  pub fresh-report : fresh-report-code.statement M
  pub step : step-code.statement M
  pub fresh-answer : fresh-answer-code.statement M
  pub explained-step : explained-step-code.statement M
  pub save : save-code.statement M
  pub forward : forward-code.statement M
  pub back : back-code.statement M
  pub replay : replay-code.statement M
  pub read : read-code.statement M
  pub part : part-code.statement M
  pub read-sheet : read-sheet-code.statement M
  pub start-state : start-state-code.statement M
  pub respond : respond-code.statement M
  pub exported-fresh : exported-fresh-code.statement M
  pub exported-fresh-report : exported-fresh-report-code.statement M
  pub exported-read-sheet : exported-read-sheet-code.statement M
  pub exported-step : exported-step-code.statement M
  pub exported-fresh-explained : exported-fresh-explained-code.statement M
  pub exported-step-explained : exported-step-explained-code.statement M
  pub exported-save : exported-save-code.statement M
  pub exported-forward : exported-forward-code.statement M
  pub exported-back : exported-back-code.statement M
  pub exported-replay : exported-replay-code.statement M
