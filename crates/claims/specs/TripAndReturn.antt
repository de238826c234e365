-- Demand 2 (spec 13.2), as a claim about any program that could be called a board.
-- Assumes nothing.
use Rattle.std.specs.Prelude.{◌≡◌, true, false, ◌⊎◌, ◌↔◌, List, [], ◌∷◌, ◌++◌, map, ℕ, min, Ok}
use Rattle.rules.specs.Settings.{settings_accepted}
use Rattle.rules.specs.Samples.{Slice, Equipment, permitted}
use Rattle.rules.specs.Counters.{Rule, counted, full, rules}
use Rattle.rules.specs.Regions.{region_of}
use Rattle.rules.specs.Refusals.{answer_number}
use Rattle.rules.specs.Service.{in_service}
use Rattle.rules.specs.Reports.{report_of}
use Rattle.rules.specs.Records.{fresh, settled}
use Rattle.rules.specs.History.{History, streak, serving, climbed, history_recovery, history_held, history_report}
use Rattle.rules.specs.declared.Settings.{Settings}
use Rattle.rules.specs.declared.Board.{Board}
use Rattle.rules.specs.Answers.{Answer}
use Rattle.rules.specs.declared.Region.TheVariants.{Continuous}
use Rattle.causes.specs.Calls.{Call, Program, called, run_of, call_accepted, accepted_samples, LendsUnder, Under}
use Rattle.claims.specs.Held.{Held, RanOut, WaitFull}
use Rattle.causes.specs.FirstCause.{first, settings_causes, sample_causes}

-- ---- the record that a history gives

abbrev pub count_of : History → Rule → ℕ
count_of h r = min r.top (streak r.counts h)

unfoldable pub record_of : Equipment → Settings → History → Board
record_of e st [] = fresh
record_of e st (x ∷ h) =
    settled e st x (map (count_of (x ∷ h)) (rules e st)) (serving e st (x ∷ h)) (min st.ramp (climbed e st (x ∷ h)))
    (history_recovery e st (x ∷ h)) (history_held e st (x ∷ h))

-- ---- what is claimed, under an accepted sheet

-- what a call after a list of calls is answered
abbrev pub answer_to : Program → List Call → Call → Answer
answer_to p cs c = (p.step (run_of p cs).board c.settings c.slice).answer

-- before and now, where a list of calls is followed by an accepted one
abbrev pub status_before : Program → List Call → ℕ
status_before p cs = (run_of p cs).report.status

abbrev pub status_now : Program → List Call → Call → ℕ
status_now p cs c = (called p (run_of p cs) c).report.status

-- a call that is accepted, after calls under the sheet
pub record Next (st : Settings) (cs : List Call) (c : Call) : Type 0 where
  pub under : Under st cs
  pub lends : LendsUnder st c
  pub accepted : call_accepted c ≡ true

-- the last report is the one that the accepted samples alone give, or the fresh board's where there are none
abbrev pub Shows : Equipment → Program → Settings → Type 0
Shows e p st = (cs : List Call) → Under st cs → (run_of p cs).report ≡ report_of (history_report e st (accepted_samples cs))

-- an accepted sample is answered, with the report that the accepted samples alone give
abbrev pub Answers : Equipment → Program → Settings → Type 0
Answers e p st =
    (cs : List Call) (c : Call) → Next st cs c → answer_to p cs c ≡ Ok (report_of (history_report e st (c.slice ∷ accepted_samples cs)))

-- a call is refused by the number of its first cause, and only then
abbrev pub Refuses : Program → Settings → Type 0
Refuses p st =
    (cs : List Call) (c : Call) → Under st cs
    → answer_number (answer_to p cs c) ≡ first (settings_causes c.settings ++ sample_causes c.slice)

-- the record is the one that the accepted samples give
abbrev pub Keeps : Equipment → Program → Settings → Type 0
Keeps e p st = (cs : List Call) → Under st cs → (run_of p cs).board ≡ record_of e st (accepted_samples cs)

-- in service, it trips at a step exactly when permission is off or some limit has been broken for its whole clearing time, ending there
abbrev pub Trips : Equipment → Program → Settings → Type 0
Trips e p st =
    (cs : List Call) (c : Call) → Next st cs c → in_service (status_before p cs) ≡ true
    → (status_now p cs c ≡ 0) ↔ ((permitted c.slice ≡ false) ⊎ RanOut e st (c.slice ∷ accepted_samples cs))

-- tripped, it returns exactly when its full wait has just been in range with permission on
abbrev pub Returns : Equipment → Program → Settings → Type 0
Returns e p st =
    (cs : List Call) (c : Call) → Next st cs c → status_before p cs ≡ 0
    → (in_service (status_now p cs c) ≡ true) ↔ WaitFull e st (c.slice ∷ accepted_samples cs)

-- a return is always in the continuous operation region
abbrev pub ReturnsContinuous : Equipment → Program → Settings → Type 0
ReturnsContinuous e p st =
    (cs : List Call) (c : Call) → Next st cs c → status_before p cs ≡ 0 → in_service (status_now p cs c) ≡ true → region_of e st c.slice ≡ Continuous

pub record TripAndReturn (e : Equipment) (p : Program) (st : Settings) : Type 0 where
  pub shows : Shows e p st
  pub answers : Answers e p st
  pub refuses : Refuses p st
  pub keeps : Keeps e p st
  pub trips : Trips e p st
  pub returns : Returns e p st
  pub returns-continuous : ReturnsContinuous e p st

-- the counter rule, for an arbitrary rule: its counter is full exactly when what it counts held at each of the last samples of its whole
-- time, ending at the newest; and one sample more counts as spec 6.1 says
pub record CounterRule (r : Rule) : Type 0 where
  pub full-held : (h : History) → (full r (count_of h r) ≡ true) ↔ Held r.counts r.top h
  pub one_more : (x : Slice) (h : History) → counted x r (count_of h r) ≡ count_of (x ∷ h) r

-- demand 2, of a board program: under every accepted sheet. (`Settings` here also has lists of other lengths than the declared arrays
-- have; the claim covers those too.)
abbrev pub Demand2 : Equipment → Program → Type 0
Demand2 e p = (st : Settings) → settings_accepted st ≡ true → TripAndReturn e p st
