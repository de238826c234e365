-- Spec 5.6, 12.1 to 12.3: any program that could be called a board; lists of step calls on one record, and the accepted samples among them.
-- Assumes nothing.
use Rattle.std.specs.Prelude.{◌≡◌, Bool, false, cond, ◌&&◌, ◌⊎◌, List, [], ◌∷◌, ℕ, pos, Ok, Err}
use Rattle.rules.specs.Sensing.{sensed_by}
use Rattle.rules.specs.Settings.{settings_check, settings_accepted}
use Rattle.rules.specs.Samples.{Slice, Equipment, sample_accepted}
use Rattle.rules.specs.Droop.{no_side}
use Rattle.rules.specs.Service.{recovery_top}
use Rattle.rules.specs.Records.{fresh, step_of}
use Rattle.rules.specs.History.{History}
use Rattle.rules.specs.Images.{save_check, saved_into}
use Rattle.rules.specs.declared.Settings.{Settings}
use Rattle.rules.specs.declared.Board.{Board}
use Rattle.rules.specs.declared.Report.{Report}
use Rattle.rules.specs.Answers.{SettingsCheck, Sensed, Saved, Answer}
use Rattle.rules.specs.declared.Stepped.{Stepped}

-- a step call: the settings and the slice that it lends beside the record
pub record Call : Type 0 where
  pub settings : Settings
  pub slice : Slice

-- any program that could be called a board: the record it begins with, and what a step answers and leaves of a record
pub record Program : Type 0 where
  pub start : Board
  pub step : Board → Settings → Slice → Stepped

-- the program that the rules describe, with this equipment: a fresh board, and the step by the rules
abbrev pub ruled_by : Equipment → Program
ruled_by e = record { start = fresh; step = step_of e }

-- what a host calls (spec 5.6): the check of settings, sensing, the step, and the saving with its answer and the buffer after it
pub record Operations : Type 0 where
  pub check : Settings → SettingsCheck
  pub sense : ℕ → Sensed
  pub step : Board → Settings → Slice → Stepped
  pub save : Board → List ℕ → Saved
  pub buffer : Board → List ℕ → List ℕ

-- those that the rules describe, with this equipment
abbrev pub operations_by : Equipment → Operations
operations_by e = record { check = settings_check; sense = sensed_by e.sensing; step = step_of e; save = λ b buffer. save_check buffer; buffer = saved_into }

-- spec 8.2: the report of a fresh board
abbrev pub fresh_report : Report
fresh_report = record { status = 0; bits = 0; share = 0; recovery = recovery_top; side = no_side; held = 0; watts = 0; vars = pos 0 }

-- a board at work: its record, and the last report it gave
pub record Run : Type 0 where
  pub board : Board
  pub report : Report

-- a refused call gives no report: the last one stands
abbrev pub last_report : Report → Answer → Report
last_report old (Ok new) = new
last_report old (Err cause) = old

-- spec 12.1: every call gets the record as the call before left it
abbrev pub called : Program → Run → Call → Run
called p r c =
    record {
      board = (p.step r.board c.settings c.slice).board;
      report = last_report r.report (p.step r.board c.settings c.slice).answer;
    }

abbrev pub called_all : Program → Run → List Call → Run
called_all p r [] = r
called_all p r (c ∷ cs) = called_all p (called p r c) cs

-- a list of calls, the oldest first, on one record from the beginning
abbrev pub run_of : Program → List Call → Run
run_of p cs = called_all p (record { board = p.start; report = fresh_report }) cs

-- ---- the accepted samples

abbrev pub call_accepted : Call → Bool
call_accepted c = settings_accepted c.settings && sample_accepted c.slice

-- spec 12.3: the history, newest first, after one call more; a refused call adds nothing
abbrev pub accepted_one : History → Call → History
accepted_one h c = cond (call_accepted c) (c.slice ∷ h) h

abbrev pub accepted_after : History → List Call → History
accepted_after h [] = h
accepted_after h (c ∷ cs) = accepted_after (accepted_one h c) cs

-- the accepted samples of a list of calls
abbrev pub accepted_samples : List Call → History
accepted_samples cs = accepted_after [] cs

-- spec 12.2: the settings of the one sheet, or settings that are refused
abbrev pub LendsUnder : Settings → Call → Type 0
LendsUnder st c = (c.settings ≡ st) ⊎ (settings_accepted c.settings ≡ false)

abbrev pub Under : Settings → List Call → Type 0
Under st [] = Unit {0}
Under st (c ∷ cs) = LendsUnder st c × Under st cs
