-- What is proved of the board: the page to open first. Each name below is a statement. The proof of `X` is `x` in
-- proofs/Demands.antt. The second page, shams/specs/Caught.antt, shows that the statements are not empty.
--
-- How the page speaks of the code. A statement is about definitions, and each public operation has a contract that is
-- an equation with one of them, proved in its own crate for every input there can be. `CodeContracts`, at the end,
-- states that the contracts say these words.
--   - `fresh` is what `freshboard::fresh` gives.
--   - `step_of our_equipment` is what `service::step::step` answers and leaves.
--   - `save_check` and `saved_into` are what `image::save` answers and writes.
--   - `settings_check` is what `settings::check` answers, `sensed` what `sensing::sense` does.
--   - `read_sheet` and `handed_back` are what `reader::read_sheet` gives, and `sheet::read` with `sheet::part`.
--   - `forward_answer` and `forward_into`, `back_answer` and `back_into` are what `carryover::forward` and
--     `carryover::back` answer and write.
--   - `fresh_answer` and `explained_step our_equipment` are what `explain::fresh_answer` and `explain::step::step` give.
--   - `respond_of our_equipment` is what `respond::respond` makes of a block.
-- The exported functions, for C and Rust, promise the same words (`StepLeaves` in stepcalls/specs/StepAnswers.antt, and
-- the like beside it, in sheetcalls and in calls). A refused one leaves the fields and bytes that were lent as they were:
-- `ExportedRefusals`.
--
-- What depends on the sensing table and on the voltage regions is said for any equipment, in a statement `Any…`: for any at
-- all, or for any with the facts of `Sound`. `Our…` says it of ours: `our_equipment`, the sensing rule of spec 2.2 with the
-- voltage regions of spec 6.7, has these facts (`OurEquipmentSound`). A statement of neither name that speaks of an equipment
-- is said for any. docs/PROOF.md lists the files that define the words of this page.
-- Assumes nothing.
use Rattle.std.specs.Prelude.{◌≡◌, true, ◌↔◌, List, ◌∷◌, ℕ, ◌*◌, ◌≤◌, ◌<◌, length, ℤ, pos, nat_abs, Ok}
use Rattle.std.proofs.Math.Option.{some}
use Rattle.rules.specs.Sensing.{last_code, voltage}
use Rattle.rules.specs.Settings.{settings_accepted}
use Rattle.rules.specs.Samples.{Slice, Equipment, sample_accepted}
use Rattle.rules.specs.Counters.{Rule}
use Rattle.rules.specs.Curves.{curve, nameplate}
use Rattle.rules.specs.Regions.{our_equipment}
use Rattle.rules.specs.Records.{step_of}
use Rattle.rules.specs.Reports.{report_of}
use Rattle.rules.specs.History.{History, history_report}
use Rattle.rules.specs.Images.{saved_into}
use Rattle.rules.specs.Forms.{numbers_of}
use Rattle.rules.specs.Statuses.{top_status}
use Rattle.rules.specs.Sheets.{SheetReading, read_sheet, handed_back}
use Rattle.rules.specs.Defaults.{default_sheet, default_settings}
use Rattle.rules.specs.Transcripts.{Line, ended, lines_in, line_step, report_line, transcript}
use Rattle.rules.specs.declared.Point.{Point}
use Rattle.rules.specs.declared.Settings.{Settings}
use Rattle.rules.specs.declared.Board.{Board}
use Rattle.rules.specs.declared.Report.{Report}
use Rattle.formats.specs.Sheets.{written_sheet, ReadsSheetsBack, AcceptsSheetsOnly, AcceptAlike}
use Rattle.formats.specs.Marks.{ReadsForms}
use Rattle.formats.specs.Samples.{writable, written_sample, Answering, AnswersSamples, ReadsBack, BeginsWithSample}
use Rattle.roots.specs.Root.{IsRoot}
use Rattle.program.specs.States.{is_done}
use Rattle.program.specs.Sessions.{Delivery, opened, during, ending, input_of, TranscriptLaw}
use Rattle.program.specs.Standing.{StandingLaw}
use Rattle.causes.specs.Calls.{Program, ruled_by, operations_by}
use Rattle.claims.specs.Sound.{Sound}
use Rattle.causes.specs.Alike.{Alike}
use Rattle.claims.specs.Recovery.{RestoresPower}
use Rattle.claims.specs.RideThroughEnds.{CeasesBeyondRideThrough}
use Rattle.claims.specs.Droop.{Droops}
use Rattle.claims.specs.Powers.{LargestBeside, RisingPoints, FollowsPoints}
use Rattle.causes.specs.FirstCause.{RefusesRightly}
use Rattle.causes.specs.SheetCauses.{SheetsRefusedRightly}
use Rattle.claims.specs.TripAndReturn.{Shows, Answers, Trips, Returns, TripAndReturn, CounterRule}
use Rattle.claims.specs.TripAndReturn.{Demand2}
use Rattle.claims.specs.TwoHistories.{TwoHistoriesBy, Demand3By, Demand3}
use Rattle.claims.specs.RampPairs.{RampsTold, RampsUntold}
use Rattle.claims.specs.Bits.{UnpacksBits}
use Rattle.claims.specs.LentRecords.{ReadsRecords}
use Rattle.claims.specs.Printed.{sample_on, printed_status, PrintsByHistory}
use Rattle.carryover.specs.Carries.{CarryOperation, our_forward, our_back, AllBytes, CarryRefusedRightly, CarryNumbered}
use Rattle.carryover.specs.Carries.{RoundTrips, CarriesRecords, CarriesHistoriesBack}
use Rattle.explain.specs.Explained.{history_status_rule, history_watts_rule}
use Rattle.explain.specs.Explains.{explained_by, board_alone, ShowsRules, LeavesReports, NamesStatusRule, NamesWattsRule}
use Rattle.explain.specs.Explains.{NamesOnRecords, NumbersTell}
use Rattle.reasons.specs.declared.StatusRule.{StatusRule}
use Rattle.reasons.specs.declared.WattsRule.{WattsRule}
use Rattle.recording.specs.Recordings.{groups, GroupsBySeven}
use Rattle.replay.specs.Replays.{replayed, replayed_into, replayed_by, replayed_into_by}
use Rattle.replay.specs.Demanded.{ReplaysRightly}
use Rattle.sheetcalls.specs.SheetAnswers.{sheet_answer, settings_after}
use Rattle.exported.specs.InNumbers.{ExplainsInNumbers}
use Rattle.exported.specs.Refuses.{ExportedRefuse}
use Rattle.exported.specs.Exported.{exported_board_by, exported_replay_by}
use seplogic.Ra.Ura.{Ura}
use base.Logic.{SProp}
use prog.Memory.{Memory}
use prog.Routine.{Routine}
use types.Logic.{Logic}
use contract.Monad.{Fun}
use Rattle.equipment.specs.Ours.{ours, our_operations}
use Rattle.demands.specs.CodeContracts.{ContractsSay, CodeMeets}
use Rattle.demands.specs.Edges.{EdgesHold}
use Rattle.demands.specs.Lent.{LentRead}

-- ---- any equipment, and ours

-- Ours has the facts of `Sound` in claims/specs/Sound.antt, so that what is said for any equipment with them holds of ours.
abbrev pub OurEquipmentSound : Type 0
OurEquipmentSound = Sound our_equipment

-- Equipments with the same voltages for the codes up to 4095 and the same regions step alike: `Alike` in
-- causes/specs/Alike.antt. So what a step does depends on a lent sensing table by its 4,096 voltages alone.
abbrev pub AlikeEquipmentStepsAlike : Type 0
AlikeEquipmentStepsAlike = (e f : Equipment) → Alike e f → (b : Board) (st : Settings) (x : Slice) → step_of e b st x ≡ step_of f b st x

-- ---- the three demands

-- Demand 1, the library: `RefusesRightly` in causes/specs/FirstCause.antt, of the operations. Checking settings,
-- sensing, the step and the saving refuse with n exactly when n is the first cause in the order of spec 11.2. Input
-- with no cause is accepted, and a refusal of settings has the line of its cause. A refusal leaves the record's
-- fields and every byte of a lent buffer as they were, and a saving leaves the bytes behind the image. (That the
-- operations stay inside their buffers and their arithmetic, and end, is part of each function's own proof.)
abbrev pub AnyRefusals : Type 0
AnyRefusals = (e : Equipment) → RefusesRightly (operations_by e)

abbrev pub OurRefusals : Type 0
OurRefusals = RefusesRightly our_operations

-- Demand 1, reading a sheet: `SheetsRefusedRightly` in causes/specs/SheetCauses.antt, of our reading and of what it
-- hands back. A text is refused with n at a line exactly when that is the first line with a cause, and n the first of
-- its causes 1, 2, 3. It is accepted exactly when none of the thirteen lines has a cause. The settings of an accepted
-- sheet are its lines' numbers, those of a refused one all 0. What is handed back is the refused line at its place in
-- the text, a missing one at the end, or what follows an accepted sheet.
abbrev pub OurSheetRefusals : Type 0
OurSheetRefusals = SheetsRefusedRightly read_sheet handed_back

-- Demand 1, the program: `TranscriptLaw` in program/specs/Sessions.antt. However an input is cut into blocks, and
-- whatever buffers are lent: once all is done, what `respond` has written, put together, is the transcript of the
-- input's first 10^12 bytes (rules/specs/Transcripts.antt). Before that it is a beginning of it. The transcript is a
-- sheet's first refusal with its line, which ends all; or an answer for each line after the sheet, an unended last
-- line and lines of any length among them. And further:
--   - A call handles as many lines as are there and fit. Where all is not done and there is room for a line more, it
--     leaves no whole line, and no more than 128 bytes of a begun one.
--   - Among the samples it writes the answers to the lines that it takes, then and there. So does the call that takes
--     the sheet's last line.
--   - A refused sheet ends all as soon as its line has its line feed and no whole line is left.
--   - Once the input has ended, as many calls with room for a line as there are bytes left, and one, finish.
abbrev pub AnyTranscript : Type 0
AnyTranscript = (e : Equipment) → TranscriptLaw e

abbrev pub OurTranscript : Type 0
OurTranscript = TranscriptLaw our_equipment

-- Demand 1, the program's loop: `StandingLaw` in program/specs/Standing.antt. The contract of `console::run` (`Runs` in
-- console/specs/Loop.antt) has a session of `respond` that stands where the run ended. As many bytes came to it as were
-- read, and it has said as many as were handed to the writing. Of every session that stands:
--   - As many bytes came as it has taken and are left.
--   - Where all is done, it has said the transcript of what came. So it is at the end of every run in which no read
--     and no write failed.
--   - In any case it has said a beginning of the transcript.
abbrev pub AnySessions : Type 0
AnySessions = (e : Equipment) → StandingLaw e

abbrev pub OurSessions : Type 0
OurSessions = StandingLaw our_equipment

-- Demand 2: `TripAndReturn` in claims/specs/TripAndReturn.antt. Under every accepted sheet, for every list of step
-- calls, refused ones included, on one record from a fresh board:
--   - The last report is the one that the accepted samples alone give, in their order; so is the answer to every
--     accepted call; and so is the record. Any other call is refused by the number of its first cause.
--   - In service, the board trips at a step exactly when permission is off there, or when one of the eight limits was
--     broken at each of the last samples of its whole clearing time, the step's own included.
--   - Tripped, it returns exactly when each of the last samples of its full wait was in range with permission on. A
--     wait of 0 is one step.
--   - A return is always in the continuous operation region.
abbrev pub AnyTripAndReturn : Type 0
AnyTripAndReturn = (e : Equipment) → Sound e → Demand2 e (ruled_by e)

abbrev pub OurTripAndReturn : Type 0
OurTripAndReturn = Demand2 our_equipment ours

-- Demand 3, one claim about two whole lists: `TwoHistoriesBy` in claims/specs/TwoHistories.antt. Take any accepted
-- sheet and any two lists of step calls (spec 12.1, 12.2), each on its own record from a fresh board. The images
-- saved after them, each into a buffer that 9 lets pass, are equal byte for byte exactly when the reports are equal
-- in every item at the end of every common run of 0 to 100,000 accepted samples. These reports are the ones that the
-- accepted samples alone give.
abbrev pub AnyTwoHistories : Type 0
AnyTwoHistories = (e : Equipment) → Sound e → Demand3 e (ruled_by e)

abbrev pub OurTwoHistories : Type 0
OurTwoHistories = Demand3 our_equipment ours

-- ---- what is accepted, without a parser

-- Good sheets are read: `ReadsSheetsBack` in formats/specs/Sheets.antt. Take settings that 2 and 3 pass, with as many
-- limits and points as a sheet has, written out as the thirteen lines of spec 3.2, each ended by a line feed
-- (`written_sheet`). They are accepted whatever bytes follow (spec 3.8), with those settings, and the reading ends
-- where the sheet does. A reading that turns away a good sheet does not meet this.
abbrev pub SheetsReadBack : Type 0
SheetsReadBack = ReadsSheetsBack read_sheet

-- Nothing else is accepted: `AcceptsSheetsOnly`. Every accepted text begins with its settings written out, and 2 and
-- 3 pass them.
abbrev pub SheetsWrittenOut : Type 0
SheetsWrittenOut = AcceptsSheetsOnly read_sheet

-- So there is no choice in what is accepted. Every reading with these two properties accepts the same texts as ours,
-- with the same settings and place.
abbrev pub OneSheetReading : Type 0
OneSheetReading =
    (read : List ℕ → SheetReading) → ReadsSheetsBack read → AcceptsSheetsOnly read → (s : List ℕ) → AcceptAlike (read s) (read_sheet s)

-- The default sheet (spec 3.3), byte for byte, is its settings written out.
abbrev pub DefaultSheetWritten : Type 0
DefaultSheetWritten = written_sheet default_settings ≡ default_sheet

-- "Accepted sheet" in demands 2 and 3, tied to text. Under the settings of every accepted text the board trips and
-- returns as demand 2 says, and two histories are told apart as demand 3 says.
abbrev pub UnderAcceptedTexts : Type 0
UnderAcceptedTexts =
    (e : Equipment) → Sound e → (s : List ℕ) → (read_sheet s).check ≡ Ok tt
    → TripAndReturn e (ruled_by e) (read_sheet s).settings × TwoHistoriesBy saved_into (history_report e) (ruled_by e) (read_sheet s).settings

-- The forms of the lines, which tell 1 from 2 and 3: `ReadsForms` in formats/specs/Marks.antt, of the sheet's
-- thirteen forms and the sample's. A line has its form, with these numbers, exactly when it is the form with these
-- numbers in place of the marks. Numbers have 1 to 6 digits and no leading zero, and a minus only before a nonzero
-- number at `~`.
abbrev pub LinesOfForms : Type 0
LinesOfForms = ReadsForms numbers_of

-- Sample lines, `(at (CODE CODE CODE) FREQ PERMIT AVAILABLE LIMIT)`: `AnswersSamples` in formats/specs/Samples.antt.
-- Seven numbers of at most six digits, written out and ended, are answered as the sample is. A line is refused with
-- 8, and is no step, exactly when it is no such line: unended, or another in any byte.
abbrev pub SampleLinesAnswered : Type 0
SampleLinesAnswered = AnswersSamples line_step

-- So there is no choice in the answers either: any answering with this property is ours.
abbrev pub OneSampleAnswer : Type 0
OneSampleAnswer =
    (answer : Answering) → AnswersSamples answer → (e : Equipment) (st : Settings) (b : Board) (l : Line) → answer e st b l ≡ line_step e st b l

-- And every sample that none of 8, 4, 5, 6, 7 refuses can be written so.
abbrev pub AcceptedSamplesWritable : Type 0
AcceptedSamplesWritable = (x : Slice) → sample_accepted x ≡ true → writable x ≡ true

-- Where sample lines stand in a text: `ReadsBack` and `BeginsWithSample` in formats/specs/Samples.antt. A sample
-- written out, with its line feed, is the first line of the text that it begins, whatever follows. And a text with
-- that first line begins so.
abbrev pub SampleLinesReadBack : Type 0
SampleLinesReadBack = (x : Slice) (after : List ℕ) → writable x ≡ true → ReadsBack x after

-- `BeginsWithSample`: the other way round.
abbrev pub SampleLinesWrittenOut : Type 0
SampleLinesWrittenOut =
    (s : List ℕ) (x : Slice) (lines : List Line) → lines_in s ≡ ended (written_sample x) ∷ lines → BeginsWithSample s x lines

-- ---- demand 2 of what is printed

-- `PrintsByHistory` in claims/specs/Printed.antt. An input whose sheet, in its first 10^12 bytes, is refused has the
-- sheet's refusal line as its transcript and nothing else. After an accepted sheet there is an answer for each line,
-- one after the other:
--   - A line that is an accepted sample has the report line that it and the accepted samples before it, on whichever
--     lines, alone give.
--   - Any other line has the refusal line with its first cause and its number, and is no step.
-- So of the status words that are printed:
--   - After a report with another word than `tripped`, the next says `tripped` exactly when permission is off, or a
--     limit was broken at each of the last samples of its whole clearing time.
--   - After one that says `tripped`, or none, the next says another word exactly when each of the last samples of the
--     full wait was in range with permission on; and then in the continuous operation region.
abbrev pub AnyPrinted : Type 0
AnyPrinted = (e : Equipment) → Sound e → PrintsByHistory e (transcript e)

abbrev pub OurPrinted : Type 0
OurPrinted = PrintsByHistory our_equipment (transcript our_equipment)

-- So there is no choice in what is printed. Every program with this property prints, whatever the input, the
-- transcript.
abbrev pub OnePrinting : Type 0
OnePrinting =
    (e : Equipment) → Sound e → (print : List ℕ → List ℕ) → PrintsByHistory e print → (input : List ℕ) → print input ≡ transcript e input

-- However an input is cut, what a session of `respond` has said once all is done is what every program with this
-- property prints for the input.
abbrev pub SessionsPrinted : Type 0
SessionsPrinted =
    (e : Equipment) → Sound e → (print : List ℕ → List ℕ) → PrintsByHistory e print
    → (cs : List Delivery) (sizes : List ℕ) → is_done (ending e (during e opened cs) sizes).state ≡ true
    → (ending e (during e opened cs) sizes).text ≡ print (input_of cs)

-- A line's sample there (`sample_on`) is x exactly when the line is x written out and ended, x having seven numbers of
-- at most six digits.
abbrev pub SamplesOnLines : Type 0
SamplesOnLines = (l : Line) (x : Slice) → (sample_on l ≡ some x) ↔ ((writable x ≡ true) × (l ≡ ended (written_sample x)))

-- Each of the statuses 0 to 5 has a word of its own: two report lines have the same word exactly when their statuses
-- are the same.
abbrev pub StatusWordsTell : Type 0
StatusWordsTell =
    (r q : Report) → r.status ≤ top_status → q.status ≤ top_status → (printed_status (report_line r) ≡ printed_status (report_line q)) ↔ (r.status ≡ q.status)

-- ---- the bits of a report

-- `UnpacksBits` in claims/specs/Bits.antt. The bits of a report make one number, and none is lost. Lists of as many
-- bits that make the same number are the same; the nine digits that are printed are the nine bits in their order; and
-- the number's bit at place 8 - i is bit i.
abbrev pub BitsUnpacked : Type 0
BitsUnpacked = UnpacksBits

-- So two histories' reports, with their bits packed, are equal exactly when all their items are.
abbrev pub ReportsAreItems : Type 0
ReportsAreItems =
    (e : Equipment) (st : Settings) (h g : History)
    → (report_of (history_report e st h) ≡ report_of (history_report e st g)) ↔ (history_report e st h ≡ history_report e st g)

-- And demand 3 holds with the reports as they are given, in place of their items.
abbrev pub AnyTwoHistoriesReported : Type 0
AnyTwoHistoriesReported = (e : Equipment) → Sound e → Demand3By saved_into (λ st h. report_of (history_report e st h)) (ruled_by e)

abbrev pub OurTwoHistoriesReported : Type 0
OurTwoHistoriesReported = Demand3By saved_into (λ st h. report_of (history_report our_equipment st h)) ours

-- ---- how a lent record is read

-- `ReadsRecords` in claims/specs/LentRecords.antt. An accepted call on a lent record answers and leaves what it does
-- on the record as that is read (`read_as` in rules/specs/Records.antt). A refused one leaves it as it was lent.
-- Reading twice is reading once, and a record that calls have left, from a fresh board on and under an accepted
-- sheet, is read as it is.
abbrev pub AnyLentRecords : Type 0
AnyLentRecords = (e : Equipment) → ReadsRecords e (ruled_by e)

abbrev pub OurLentRecords : Type 0
OurLentRecords = ReadsRecords our_equipment ours

-- The rows of spec 5.4 as values, under sheets with different numbers: specs/Lent.antt.
abbrev pub LentValues : Type 0
LentValues = (e : Equipment) → LentRead e

-- ---- beside them

-- Of any program: where its reports and answers are right, its trips and returns are.
abbrev pub RightReportsTrip : Type 0
RightReportsTrip = (e : Equipment) (p : Program) (st : Settings) → Shows e p st → Answers e p st → Trips e p st × Returns e p st

-- The counter rule, for an arbitrary limit: `CounterRule` in claims/specs/TripAndReturn.antt.
abbrev pub EveryCounter : Type 0
EveryCounter = (r : Rule) → CounterRule r

-- The sensing rule without a search: a code's voltage has a square of at most code × 100,000, and the next number has
-- not.
abbrev pub SensingRule : Type 0
SensingRule = (code : ℕ) → code ≤ last_code → IsRoot (code * 100000) (voltage code)

-- Watts and vars without a search: `LargestBeside`, `FollowsPoints` in claims/specs/Powers.antt. What the nameplate
-- leaves beside vars of up to 10000 fits the rating, and nothing above it does. A curve has each point's power at its
-- voltage and is flat outside its points. Between two of them it lies within their powers, off the exact line by less
-- than one, toward the left point's power. The points of an accepted sheet rise. So this holds of its two curves, and
-- of the nameplate beside whatever its volt-var curve gives.
pub record PowerLaws : Type 0 where
  pub leaves : (vars : ℤ) → nat_abs vars ≤ 10000 → LargestBeside vars (nameplate vars)
  pub follows : (points : List Point) → RisingPoints points → FollowsPoints points (curve points)
  -- nothing else does
  pub alone : (points : List Point) → 0 < length points → RisingPoints points → (f : ℕ → ℤ) → FollowsPoints points f → (v : ℕ) → f v ≡ curve points v
  pub rise : (st : Settings) → settings_accepted st ≡ true → RisingPoints st.var × RisingPoints st.watt
  pub var-curve : (st : Settings) → settings_accepted st ≡ true → FollowsPoints st.var (curve st.var)
  pub watt-curve : (st : Settings) → settings_accepted st ≡ true → FollowsPoints st.watt (curve st.watt)
  -- spec 7.5: watts of an accepted sheet's curve are not negative, so that their magnitude (`watt_curve`) is the curve
  pub watts : (st : Settings) → settings_accepted st ≡ true → (v : ℕ) → pos (nat_abs (curve st.watt v)) ≡ curve st.watt v
  pub beside-vars : (st : Settings) → settings_accepted st ≡ true → (v : ℕ) → LargestBeside (curve st.var v) (nameplate (curve st.var v))

-- Power back after a cessation, as the standard asks within 0.4 s: `RestoresPower` in claims/specs/Recovery.antt, of
-- the reports of histories, which demand 2 ties to the board's. The recovery count is 0 in a cessation, and 40 when
-- tripped and at a return. After k samples in a row that give power, k up to 40, behind a cessation, it is k and lets
-- exactly 250 × k through. After forty in a row it is 40, whatever was before them. Where power is given, the watts
-- are what the other limits leave, or what the count lets through where that is less; at 40 they are what the others
-- leave. No watts are above what the count lets through.
abbrev pub AnyRecovery : Type 0
AnyRecovery = (e : Equipment) → Sound e → (st : Settings) → settings_accepted st ≡ true → RestoresPower e st (history_report e st)

abbrev pub OurRecovery : Type 0
OurRecovery = (st : Settings) → settings_accepted st ≡ true → RestoresPower our_equipment st (history_report our_equipment st)

-- No power where the frequency is far outside, below 57.0 Hz or above 62.0 Hz, where the standard asks for no
-- ride-through: `CeasesBeyondRideThrough` in claims/specs/RideThroughEnds.antt, of the reports of histories too.
-- There are no watts and no vars there, whatever the voltages and whatever came before. A board that is in service
-- after the sample ceases to energize, with a recovery count of 0; a tripped one does not return. From 57000 to
-- 62000, both included, the frequency is no reason to stop: in service the status is one that gives power exactly
-- where neither voltage's region is a cessation. (Counters run there as anywhere: what demand 2's `keeps` and `trips`
-- count does not depend on the region.)
abbrev pub AnyRideThroughEnds : Type 0
AnyRideThroughEnds =
    (e : Equipment) → Sound e → (st : Settings) → settings_accepted st ≡ true → CeasesBeyondRideThrough e st (history_report e st)

abbrev pub OurRideThroughEnds : Type 0
OurRideThroughEnds = (st : Settings) → settings_accepted st ≡ true → CeasesBeyondRideThrough our_equipment st (history_report our_equipment st)

-- Frequency droop, for the network owners: `Droops` in claims/specs/Droop.antt, of the reports of histories too.
--   - In service above 60036 mHz a board is in an event on side 1, below 59964 on side 2, the step of its return
--     included. In the deadband between, and when tripped, there is none.
--   - Throughout an event the held power is the watts of the last report before it.
--   - Where power is given in an event, the watts are the least of what volt-watt curve, nameplate, recovery and
--     available power leave, and of the held power less or plus ten thirds of the distance. The last is off by less
--     than one and not below 0. Operator's limit and share do not bind.
--   - Back in the deadband the old limits hold at once.
--   - No watts are above the available power, on the low side as anywhere. On the high side none are above the held
--     power.
--   - On the high side a frequency that rises further never raises the watts: neither in the sample's place, nor from
--     one sample to the next, all else alike and where the recovery count does not rise.
abbrev pub AnyDroop : Type 0
AnyDroop = (e : Equipment) (st : Settings) → settings_accepted st ≡ true → Droops e st (history_report e st)

abbrev pub OurDroop : Type 0
OurDroop = (st : Settings) → settings_accepted st ≡ true → Droops our_equipment st (history_report our_equipment st)

-- How soon two ramp counts come apart, the longest ramp being 60000 steps: claims/specs/RampPairs.antt. Take any
-- accepted sheet and two lists of step calls, refused ones included, whose images differ, each saved into a buffer
-- that 9 lets pass, and in no byte outside the ramp count's four. Then some common run of at most five accepted
-- samples ends in reports that differ, as the accepted samples alone give them.
abbrev pub AnyRampsTold : Type 0
AnyRampsTold = (e : Equipment) → Sound e → RampsTold e (ruled_by e) 5

abbrev pub OurRampsTold : Type 0
OurRampsTold = RampsTold our_equipment ours 5

-- And fewer do not always do. There are an accepted sheet and two such lists of which no common run of four accepted
-- samples or fewer, whatever they hold, ends in reports that differ.
abbrev pub AnyRampsUntold : Type 0
AnyRampsUntold = (e : Equipment) → Sound e → RampsUntold e (ruled_by e) 4

abbrev pub OurRampsUntold : Type 0
OurRampsUntold = RampsUntold our_equipment ours 4

-- ---- images carried over

-- Images of the old firmware, from before the recovery count and frequency droop, have 45 bytes. They are carried
-- forward to this one, and images of this one back: carryover/specs/Carries.antt, of our two operations.
--   - Each is refused by the number of its first cause, 10, 11, 9 in this order, and leaves the target then. The
--     bytes behind the image stay (`CarryRefusedRightly`). Each number is said once more by what it is given for
--     (`CarryNumbered`).
--   - An image carried there and back, or back and there where that is allowed, is what it was. Back is allowed
--     exactly where the last four bytes are 40, 0, 0, 0 (`RoundTrips`).
--   - A record's old image becomes the image of that record with a recovery count of 40, no side and no held power.
--     Its image can be carried back exactly where it has these itself, and becomes its old image (`CarriesRecords`).
pub record OurCarryOver : Type 0 where
  pub refuses : CarryRefusedRightly our_forward our_back
  pub numbered : CarryNumbered our_forward our_back
  pub round-trips : RoundTrips our_forward our_back
  pub records : CarriesRecords our_forward our_back

-- So there is no choice in it. Whatever refuses so, and carries the images of records so, gives for any lent bytes
-- the number and the target that ours gives.
abbrev pub OneCarryOver : Type 0
OneCarryOver =
    (forward back : CarryOperation) → CarryRefusedRightly forward back → CarriesRecords forward back
    → (source target : List ℕ) → AllBytes source
    → (forward source target ≡ our_forward source target) × (back source target ≡ our_back source target)

-- For an owner who goes back: `CarriesHistoriesBack`. After any list of calls under an accepted sheet, refused ones
-- included, the record's image can be carried back exactly where the last report shows a recovery count of 40, no
-- side and no held power; and so wherever it says `tripped`.
abbrev pub AnyWayBack : Type 0
AnyWayBack = (e : Equipment) → Sound e → (st : Settings) → settings_accepted st ≡ true → CarriesHistoriesBack our_back (ruled_by e) st

abbrev pub OurWayBack : Type 0
OurWayBack = (st : Settings) → settings_accepted st ≡ true → CarriesHistoriesBack our_back ours st

-- ---- which rules held

-- Beside each report stand the rule that held its status and the rule that held its watts:
-- explain/specs/Explains.antt. Under every accepted sheet, for every list of step calls, refused ones included, from
-- a fresh board:
--   - An accepted sample is answered with the report and the two rules that the accepted samples alone give, by
--     definitions in which no record occurs. A refused call has none. The fresh board's report comes with them too
--     (`ShowsRules`).
--   - Record, report and refusal are those of the step that does not ask, on any record (`LeavesReports`). So demands
--     2 and 3 hold.
--   - Each rule is named exactly where the table of spec 13.11 says: `NamesStatusRule` for the status and
--     `NamesWattsRule` for the watts, of histories; `NamesOnRecords` on any lent record, by its status and by the
--     report alone.
--   - The numbers of a rule tell it (`NumbersTell`).
pub record RulesHold (e : Equipment) : Type 0 where
  pub shows : (st : Settings) → settings_accepted st ≡ true → ShowsRules e (explained_by e) st
  pub reports : LeavesReports e (explained_by e)
  pub status : (st : Settings) → NamesStatusRule e st (history_status_rule e st)
  pub watts : (st : Settings) → NamesWattsRule e st (history_watts_rule e st)
  pub on-records : NamesOnRecords e (explained_by e)
  pub numbers : NumbersTell

abbrev pub DemandsWithRules : Equipment → Type 0
DemandsWithRules e = Demand2 e (board_alone (explained_by e)) × Demand3 e (board_alone (explained_by e))

abbrev pub AnyRules : Type 0
AnyRules = (e : Equipment) → RulesHold e × (Sound e → DemandsWithRules e)

abbrev pub OurRules : Type 0
OurRules = RulesHold our_equipment × DemandsWithRules our_equipment

-- So there is no choice in them: rules of histories that say this are these.
pub record OneRuling : Type 0 where
  pub status : (e : Equipment) (st : Settings) (rule : History → StatusRule) → NamesStatusRule e st rule
      → (h : History) → rule h ≡ history_status_rule e st h
  pub watts : (e : Equipment) (st : Settings) (rule : History → WattsRule) → NamesWattsRule e st rule
      → (h : History) → rule h ≡ history_watts_rule e st h

-- The values of spec 14.1, one table: specs/Edges.antt.
abbrev pub EdgeValues : Type 0
EdgeValues = EdgesHold our_equipment

-- ---- the exported functions and the replay, in the words of their contracts

-- Demand 1 of what is called from C and Rust: `ExportedRefuse` in exported/specs/Refuses.antt. It speaks of
-- `saltdelta_step`, `saltdelta_step_explained`, `saltdelta_read_sheet`, `saltdelta_save`, `saltdelta_carry_forward`,
-- `saltdelta_carry_back` and `saltdelta_replay`. Each answers the number of the first cause in the order of spec
-- 11.2, 0 where there is none. Record, report, settings, buffer and target that are lent to a refused call stay as
-- they were. What reading a sheet hands back is a part of the caller's own bytes.
abbrev pub ExportedRefusals : Type 0
ExportedRefusals = (e : Equipment) → ExportedRefuse e

-- Demands 2 and 3 of them, whatever stands in the lent report. `exported_board_by our_equipment`, which is `exported_board` in
-- exported/specs/Exported.antt, is the program that begins with `saltdelta_fresh`, and whose step is the number, the record
-- and the report of `saltdelta_step`.
abbrev pub ExportedDemands : Type 0
ExportedDemands =
    (e : Equipment) → Sound e → (before : Report) → Demand2 e (exported_board_by e before) × Demand3 e (exported_board_by e before)

-- And how soon two ramp counts in the images of that program come apart: within five samples, and not always within
-- four. The reports are those that the accepted samples give, which demand 2 ties to those of the calls.
abbrev pub ExportedRamps : Type 0
ExportedRamps =
    (e : Equipment) → Sound e → (before : Report)
    → RampsTold e (exported_board_by e before) 5 × RampsUntold e (exported_board_by e before) 4

-- Demands 2 and 3 under the settings which `saltdelta_read_sheet` has stored, where it answered 0, whatever stood in
-- the lent settings. These settings are accepted, which a replay also requires, and the demands hold under them.
abbrev pub ExportedUnderTexts : Type 0
ExportedUnderTexts =
    (e : Equipment) → Sound e → (old : Settings) (before : Report) (s : List ℕ) → (sheet_answer s).number ≡ 0
    → (settings_accepted (settings_after old s) ≡ true)
    × TripAndReturn e (exported_board_by e before) (settings_after old s)
    × TwoHistoriesBy saved_into (history_report e) (exported_board_by e before) (settings_after old s)

-- The rules as a host gets them, in numbers: `ExplainsInNumbers` in exported/specs/InNumbers.antt.
-- `saltdelta_fresh_explained` gives those of no sample. `saltdelta_step_explained` gives those of the accepted
-- samples, on the record that calls of it or of `saltdelta_step` have left, and whatever stands in the lent struct.
abbrev pub ExportedRules : Type 0
ExportedRules = (e : Equipment) (st : Settings) → settings_accepted st ≡ true → ExplainsInNumbers e st

-- A replay, `replay::replay`: `ReplaysRightly` in replay/specs/Demanded.antt. Recorded numbers are stepped seven by
-- seven on a fresh record.
--   - A replay is refused by 2 or 3 of the settings, then by 9, and only then, and leaves the buffer.
--   - Otherwise its report is the one that the accepted samples alone give, and it says how many they are.
--   - With one accepted sample more, a recording of whole samples that ends in service ends tripped exactly when
--     demand 2 says so. One that ends tripped ends in service exactly when it says so, in the continuous operation
--     region.
--   - Two recordings under one sheet leave equal images exactly when no common run of up to 100,000 accepted samples
--     tells them apart; of whole samples this is said of the replay's own reports too. The bytes behind the image
--     stay.
abbrev pub AnyReplay : Type 0
AnyReplay = (e : Equipment) → Sound e → ReplaysRightly e (replayed_by e) (replayed_into_by e)

abbrev pub OurReplay : Type 0
OurReplay = ReplaysRightly our_equipment replayed replayed_into

-- The same of `saltdelta_replay`, whatever stands in the lent report.
abbrev pub ExportedReplay : Type 0
ExportedReplay = (e : Equipment) → Sound e → (before : Report) → ReplaysRightly e (exported_replay_by e before) (replayed_into_by e)

-- And there is no choice in the numbers of a sample: `GroupsBySeven` in recording/specs/Recordings.antt.
abbrev pub ReplayGroups : Type 0
ReplayGroups = GroupsBySeven groups

-- The words of this page are the code's: `ContractsSay` in specs/CodeContracts.antt. The contracts of the public
-- operations and of the exported functions, as the checker reads them from the source, ask nothing of a caller and
-- ensure these words, in every model of the logic.
abbrev pub CodeContracts : Type 2
CodeContracts =
    (M : Type 1) (𝓤 : Ura M) (𝓛 : Logic 𝓤) (mem : Memory → SProp 𝓤) (run : Routine → Fun 𝓤) → ContractsSay 𝓛 mem run

-- And the code of each meets its contract: what the checker states of a function, for every run of it.
abbrev pub CodeMeetsContracts : Type 2
CodeMeetsContracts = (M : Type 1) → CodeMeets M
