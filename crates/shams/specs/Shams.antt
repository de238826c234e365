-- Shams of spec 13.6, 13.9 and 13.12, each with one fault that a statement of Caught.antt must stop:
--   - boards, for demand 2; images and reports, for demand 3;
--   - reports that restore power wrongly after a cessation;
--   - reports and a board that do wrong where the frequency is far outside;
--   - readings of sheets, of lines and of lent records; answers to sample lines; printings.
-- ShamRefusals.antt has those for demand 1. Each other file beside this one has the shams of one claim.
-- Assumes nothing.
use Rattle.std.specs.Prelude.{Bool, false, cond, not, ◌&&◌, List, [], ◌∷◌, ◌++◌, map, ℕ, suc, ◌-◌, ◌*◌, ◌/◌, min, max, eqb, leb, ℤ, pos, nat_abs, replicate, set, take, drop, Ok, Err}
use Rattle.std.proofs.Math.Option.{Option, none, some}
use Rattle.rules.specs.Tests.{all, any, within}
use Rattle.rules.specs.Text.{feed, after_line}
use Rattle.rules.specs.Forms.{numbers_of}
use Rattle.rules.specs.Sheets.{SheetReading, refused_at, read_sheet}
use Rattle.rules.specs.Samples.{Slice, Equipment, frequency, permitted}
use Rattle.rules.specs.Reports.{Items, report_of}
use Rattle.rules.specs.History.{History, history_report}
use Rattle.rules.specs.Images.{saved_into}
use Rattle.rules.specs.Droop.{no_side, side_after, held_after}
use Rattle.rules.specs.Service.{in_service, recovery_top, vars_of, watts_of}
use Rattle.rules.specs.Refusals.{answer_number}
use Rattle.rules.specs.Records.{fresh, settled, ruled, shown, step_of}
use Rattle.rules.specs.Defaults.{default_settings}
use Rattle.rules.specs.Transcripts.{Line, ended, unended, lines_in, line_step, answers_from, transcript}
use Rattle.rules.specs.declared.Settings.{Settings}
use Rattle.rules.specs.declared.Board.{Board}
use Rattle.rules.specs.declared.Refusal.TheVariants.{Range, Code}
use Rattle.rules.specs.declared.Report.{Report}
use Rattle.rules.specs.Answers.{SettingsCheck, Answer}
use Rattle.rules.specs.declared.Stepped.{Stepped}
use Rattle.formats.specs.Samples.{Answering}
use Rattle.causes.specs.Calls.{Program}
use Rattle.claims.specs.Printed.{read_part}
use Rattle.shams.specs.ShamRefusals.{refuses_last_code}

-- ---- sham boards

-- our step, which the shams bend
abbrev honest : Equipment → Board → Settings → Slice → Stepped
honest e b st x = step_of e b st x

-- a record and the report that it shows
abbrev reporting : Equipment → Settings → Board → Stepped
reporting e st b = record { board = b; answer = Ok (report_of (shown e st b)) }

-- the record of a step, tripped instead
abbrev tripped_instead : Equipment → Settings → Slice → Board → Stepped
tripped_instead e st x b = reporting e st (settled e st x b.counters false 0 recovery_top 0)

-- trips before a clearing time is over: in service, as soon as a limit's counter is not 0
unfoldable pub trips_early : Equipment → Program
trips_early e =
    record {
      start = fresh;
      step = λ b st x.
          let t = honest e b st x in
          cond (in_service t.board.status && any (map (λ n. leb 1 n) (take 8 t.board.counters))) (tripped_instead e st x t.board) t;
    }

-- a record with other counters
abbrev with_counters : List ℕ → Board → Board
with_counters ns b =
    record { status = b.status; counters = ns; ramp = b.ramp; watts = b.watts; vars = b.vars; recovery = b.recovery; side = b.side; held = b.held }

-- invents its counters: its reports are right, and its record holds every counter twice over
unfoldable pub invents_counters : Equipment → Program
invents_counters e =
    record {
      start = fresh;
      step = λ b st x.
          let t = honest e (with_counters (map (λ n. n / 2) b.counters) b) st x in
          record { board = with_counters (map (λ n. 2 * n) t.board.counters) t.board; answer = t.answer };
    }

-- is tripped for ever
unfoldable pub always_tripped : Equipment → Program
always_tripped e =
    record {
      start = fresh;
      step = λ b st x. let t = honest e b st x in cond (in_service t.board.status) (tripped_instead e st x t.board) t;
    }

-- nothing has come yet, as far as the record tells: after a first sample that leaves it fresh, the next one is worked out too
abbrev untouched : Board → Bool
untouched b = eqb b.status 0 && all (map (λ n. eqb n 0) b.counters)

-- works out a single sample and says the same from then on
unfoldable pub repeats_first : Equipment → Program
repeats_first e = record { start = fresh; step = λ b st x. cond (untouched b) (honest e b st x) (reporting e st b) }

-- never writes to its record
unfoldable pub keeps_record : Equipment → Program
keeps_record e = record { start = fresh; step = λ b st x. record { board = b; answer = (honest e b st x).answer } }

-- turns away good samples: it keeps its record as it should, and refuses with 4 every sample that leaves the status as it was
unfoldable pub turns_away : Equipment → Program
turns_away e =
    record {
      start = fresh;
      step = λ b st x.
          let t = honest e b st x in
          record { board = t.board; answer = cond (eqb b.status t.board.status) (Err Code) t.answer };
    }

-- turns away good samples, those with a code of 4095, with 4, and leaves the record: the step of `refuses_last_code`
unfoldable pub turns_away_last_code : Equipment → Program
turns_away_last_code e = record { start = fresh; step = (refuses_last_code e).step }

-- takes a lent record as it stands, not as it is read (spec 5.4)
unfoldable pub takes_as_lent : Equipment → Program
takes_as_lent e =
    record {
      start = fresh;
      step = λ b st x.
          let t = honest e b st x in
          cond (eqb (answer_number t.answer) 0) (reporting e st (ruled e st x b)) t;
    }

-- ---- sham boards that keep the record and refuse as they should, and show other reports

-- an answer whose report is another
abbrev pub reshown : (Report → Report) → Answer → Answer
reshown f (Err cause) = Err cause
reshown f (Ok r) = Ok (f r)

-- by what is shown, from: in service before the step, the right report
abbrev pub showing : Equipment → (Bool → Report → Report) → Program
showing e f =
    record {
      start = fresh;
      step = λ b st x. let t = honest e b st x in record { board = t.board; answer = reshown (f (in_service b.status)) t.answer };
    }

-- every bit turned over
abbrev pub turned_over : Bool → Report → Report
turned_over was r =
    record { status = r.status; bits = 511 - r.bits; share = r.share; recovery = r.recovery; side = r.side; held = r.held; watts = r.watts; vars = r.vars }

abbrev with_status : ℕ → Report → Report
with_status status r =
    record { status = status; bits = r.bits; share = r.share; recovery = r.recovery; side = r.side; held = r.held; watts = r.watts; vars = r.vars }

-- `entering` where a board that was in service is tripped
abbrev pub entering : Bool → Report → Report
entering was r = with_status (cond was (max 1 r.status) r.status) r

-- `tripped` always
abbrev pub tripped : Bool → Report → Report
tripped was r = with_status 0 r

-- invents its bits
unfoldable pub invents_bits : Equipment → Program
invents_bits e = showing e turned_over

-- hides its trips
unfoldable pub hides_trips : Equipment → Program
hides_trips e = showing e entering

-- says that it is tripped, whatever it does
unfoldable pub says_tripped : Equipment → Program
says_tripped e = showing e tripped

-- ---- sham images and reports

-- a record with another ramp count, recovery count, side and held power
abbrev with_counts : ℕ → ℕ → ℕ → ℕ → Board → Board
with_counts ramp recovery side held b =
    record { status = b.status; counters = b.counters; ramp = ramp; watts = b.watts; vars = b.vars; recovery = recovery; side = side; held = held }

-- an image with 0 in the ramp count's place
unfoldable pub saved_without_ramp : Board → List ℕ → List ℕ
saved_without_ramp b buffer = saved_into (with_counts 0 b.recovery b.side b.held b) buffer

-- an image with 0 in the ninth counter's place
unfoldable pub saved_without_ninth : Board → List ℕ → List ℕ
saved_without_ninth b buffer = saved_into (with_counters (set b.counters 8 0) b) buffer

-- an image with 40 in the recovery count's place
unfoldable pub saved_without_recovery : Board → List ℕ → List ℕ
saved_without_recovery b buffer = saved_into (with_counts b.ramp recovery_top b.side b.held b) buffer

-- an image with 0 in the side's place
unfoldable pub saved_without_side : Board → List ℕ → List ℕ
saved_without_side b buffer = saved_into (with_counts b.ramp b.recovery no_side b.held b) buffer

-- an image with 0 in the held power's place
unfoldable pub saved_without_held : Board → List ℕ → List ℕ
saved_without_held b buffer = saved_into (with_counts b.ramp b.recovery b.side 0 b) buffer

-- a report whose bits are always 0
unfoldable pub report_without_bits : Equipment → Settings → History → Items
report_without_bits e st h =
    let r = history_report e st h in
    record { status = r.status; bits = replicate 9 false; share = r.share; recovery = r.recovery; side = r.side; held = r.held; watts = r.watts; vars = r.vars }

-- a report with another recovery count and other watts
abbrev with_recovery : ℕ → ℕ → Items → Items
with_recovery recovery watts r = record { status = r.status; bits = r.bits; share = r.share; recovery = recovery; side = r.side; held = r.held; watts = watts; vars = r.vars }

-- it shows a full recovery count, whatever came before
unfoldable pub report_full_at_once : Equipment → Settings → History → Items
report_full_at_once e st h = let r = history_report e st h in with_recovery recovery_top r.watts r

-- it counts as it should, and gives what the other limits leave at once: the jolt; what it holds in an event is what ours holds
unfoldable pub report_unheld : Equipment → Settings → History → Items
report_unheld e st [] = history_report e st []
report_unheld e st (x ∷ h) =
    let r = history_report e st (x ∷ h) in
    with_recovery r.recovery (watts_of e st x r.status r.share recovery_top r.held) r

-- it counts as it should, and gives nothing until the count is full: the jolt, 0.4 s later
unfoldable pub report_withheld : Equipment → Settings → History → Items
report_withheld e st h =
    let r = history_report e st h in
    with_recovery r.recovery (cond (eqb r.recovery recovery_top) r.watts 0) r

-- ---- shams where the frequency is far outside

abbrev beyond_ride_through : Slice → Bool
beyond_ride_through x = not (within 57000 62000 (frequency x))

-- its limits' counters stop there: a board in service ceases to energize for as long as permission is on
unfoldable pub stops_counting : Equipment → Program
stops_counting e =
    record {
      start = fresh;
      step = λ b st x.
          let t = honest e b st x in
          let on = in_service b.status && permitted x in
          let held = held_after b.side (side_after on (frequency x)) b.held b.watts in
          let stood = settled e st x (take 8 b.counters ++ (0 ∷ [])) on (cond on b.ramp 0) (cond on 0 recovery_top) held in
          cond (beyond_ride_through x && eqb (answer_number t.answer) 0) (reporting e st stood) t;
    }

-- it goes on giving power there, in mandatory operation, whatever the voltages: with a full recovery count, as much as the other limits leave, with what ours holds
unfoldable pub report_riding_on : Equipment → Settings → History → Items
report_riding_on e st [] = history_report e st []
report_riding_on e st (x ∷ h) =
    let r = history_report e st (x ∷ h) in
    let riding : Items = record {
      status = 3;
      bits = r.bits;
      share = r.share;
      recovery = recovery_top;
      side = r.side;
      held = r.held;
      watts = watts_of e st x 3 r.share recovery_top r.held;
      vars = vars_of e st x 3;
    } in
    cond (beyond_ride_through x && in_service r.status) riding r

-- it ceases to energize at a sample of this frequency, too
unfoldable pub report_ceasing_at : Equipment → ℕ → Settings → History → Items
report_ceasing_at e end st [] = history_report e st []
report_ceasing_at e end st (x ∷ h) =
    let r = history_report e st (x ∷ h) in
    let ceased : Items = record { status = 5; bits = r.bits; share = r.share; recovery = 0; side = r.side; held = r.held; watts = 0; vars = pos 0 } in
    cond (eqb (frequency x) end && in_service r.status) ceased r

-- it shows momentary cessation where it ceases to energize
unfoldable pub report_momentary : Equipment → Settings → History → Items
report_momentary e st h =
    let r = history_report e st h in
    record { status = min 4 r.status; bits = r.bits; share = r.share; recovery = r.recovery; side = r.side; held = r.held; watts = r.watts; vars = r.vars }

-- ---- sham readings of sheets

-- turns away good sheets: it refuses a wait of 0, which its row allows
unfoldable pub refuses_no_wait : List ℕ → SheetReading
refuses_no_wait s = cond (eqb (read_sheet s).settings.wait 0) (refused_at Range 11 0) (read_sheet s)

-- it takes a sheet whose last line is unended
unfoldable pub takes_unended : List ℕ → SheetReading
takes_unended s = read_sheet (s ++ (feed ∷ []))

-- ---- a sham reading of lines by their forms

abbrev unless_large : Option (List ℤ) → Option (List ℤ)
unless_large none = none
unless_large (some ns) = cond (all (map (λ n. leb (nat_abs n) 100000) ns)) (some ns) none

-- a line with a number above 100000, which no row allows, has not its form: 1 in place of 2
unfoldable pub large_no_number : List ℕ → List ℕ → Option (List ℤ)
large_no_number form line = unless_large (numbers_of form line)

-- ---- sham answers to sample lines

-- it takes a last sample whose line is unended
abbrev as_ended : Line → Line
as_ended (ended s) = ended s
as_ended (unended s) = ended s

unfoldable pub steps_unended : Answering
steps_unended e st b l = line_step e st b (as_ended l)

-- it takes a sample line with a carriage return before its line feed
abbrev carriage_return : ℕ
carriage_return = 13

unfoldable pub without_return : List ℕ → List ℕ
without_return [] = []
without_return (c ∷ []) = cond (eqb c carriage_return) [] (c ∷ [])
without_return (c ∷ d ∷ s) = c ∷ without_return (d ∷ s)

abbrev cleaned : Line → Line
cleaned (ended s) = ended (without_return s)
cleaned (unended s) = unended s

unfoldable pub steps_past_return : Answering
steps_past_return e st b l = line_step e st b (cleaned l)

-- ---- sham printings: what ours prints, but where the sheet is refused

-- the answers to the lines after the refused one, by the default settings
abbrev further_answers : Equipment → SettingsCheck → List ℕ → List ℕ
further_answers e (Ok ok) rest = []
further_answers e (Err away) rest = answers_from e default_settings fresh (suc away.line) (lines_in (after_line rest))

-- it goes on after the refusal line
unfoldable pub going_on : Equipment → List ℕ → List ℕ
going_on e input =
    let r = read_sheet (read_part input) in
    transcript e input ++ further_answers e r.check (drop r.start (read_part input))

abbrev if_accepted : SettingsCheck → List ℕ → List ℕ
if_accepted (Ok ok) text = text
if_accepted (Err away) text = []

-- it prints nothing
unfoldable pub says_nothing : Equipment → List ℕ → List ℕ
says_nothing e input = if_accepted (read_sheet (read_part input)).check (transcript e input)
