-- The statements of specs/Demands.antt hold.
-- Assumes nothing.
use Rattle.std.specs.Prelude.{Ok}
use mathlib.Core.Path.{◌≡◌, sym, subst⁻¹, ◌∙◌}
use mathlib.Core.Bool.{true}
use native.Mathlib.Omega.{arith}
use Rattle.rules.specs.Regions.{our_equipment}
use Rattle.rules.specs.Sheets.{read_sheet}
use Rattle.rules.specs.Curves.{curve}
use Rattle.rules.specs.Settings.{settings_accepted}
use Rattle.rules.specs.declared.Settings.{Settings}
use Rattle.sheetcalls.specs.SheetAnswers.{settings_after}
use Rattle.rules.specs.Images.{saved_into}
use Rattle.roots.proofs.Voltages.{voltage-root}
use Rattle.laws.proofs.FirstCause.{refuses-rightly}
use Rattle.laws.proofs.SheetCauses.{sheets-refused-rightly}
use Rattle.theorems.proofs.Demand2.{demand2, reports-trip, counter-rule}
use Rattle.theorems.proofs.Demand3.{demand3}
use Rattle.theorems.proofs.Recovery.{restores-power}
use Rattle.theorems.proofs.RideThroughEnds.{ceases-beyond-ride-through}
use Rattle.theorems.proofs.Droop.{droops}
use Rattle.theorems.proofs.RampPairs.{ramps-told-within-five}
use Rattle.theorems.proofs.Bits.{bits-unpacked, reports-items, two-histories-reported}
use Rattle.theorems.proofs.LentRecords.{reads-records}
use Rattle.theorems.proofs.Printed.{words-tell}
use Rattle.laws.proofs.Alike.{step-alike}
use lib.Signed.{pos-nat_abs}
use Rattle.laws.proofs.Curves.{var-rises, watt-rises, watt-not-negatives}
use Rattle.theorems.proofs.OneCurve.{one-curve}
use Rattle.theorems.proofs.Powers.{nameplate-largest, curve-follows, rising-points}
use Rattle.powerlaws.proofs.CurveLaws.{curve-small, curve-non_neg}
use Rattle.powerlaws.proofs.PointLists.{powers-small}
use Rattle.formats.proofs.Sheets.{sheet-read-back, sheet-written-out, one-reading, default-written}
use Rattle.formats.proofs.Forms.{forms-read}
use Rattle.formats.proofs.SampleLines.{samples-answered, one_answer}
use Rattle.formats.proofs.Samples.{sample-reads-back, sample-written-out}
use Rattle.program.specs.Sessions.{input_of}
use Rattle.program.proofs.Sessions.{transcript-law}
use Rattle.program.proofs.Standing.{standing-law}
use Rattle.claims.specs.TripAndReturn.{Demand2}
use Rattle.claims.specs.TwoHistories.{Demand3}
use Rattle.claims.specs.RampPairs.{RampsTold, RampsUntold}
use Rattle.causes.specs.Calls.{Program, ruled_by}
use Rattle.recording.proofs.Groups.{by-seven}
use Rattle.replay.proofs.Demanded.{replays-rightly}
use Rattle.exported.proofs.Refusals.{exported-refuse}
use Rattle.exported.proofs.Exported.{board-is, exported-replay}
use Rattle.carryover.proofs.Carrying.{refused-rightly, round-trips}
use Rattle.carryover.proofs.Numbered.{numbered}
use Rattle.explain.proofs.Alone.{leaves-reports}
use Rattle.explain.proofs.Showing.{board-alone, shows-rules}
use Rattle.explain.proofs.Naming.{names-status, one-status-rule, names-watts, one-watts-rule}
use Rattle.explain.proofs.OnRecords.{names-on-records}
use Rattle.explain.proofs.Numbers.{numbers-tell}
use Rattle.exported.proofs.InNumbers.{explains-in-numbers}
use Rattle.demands.specs.Demands.{OurEquipmentSound, AlikeEquipmentStepsAlike, AnyRefusals, OurRefusals}
use Rattle.demands.specs.Demands.{OurSheetRefusals, AnyTranscript, OurTranscript, AnySessions, OurSessions}
use Rattle.demands.specs.Demands.{AnyTripAndReturn, OurTripAndReturn, AnyTwoHistories, OurTwoHistories, SheetsReadBack}
use Rattle.demands.specs.Demands.{SheetsWrittenOut, OneSheetReading, DefaultSheetWritten, UnderAcceptedTexts}
use Rattle.demands.specs.Demands.{LinesOfForms, SampleLinesAnswered, OneSampleAnswer, AcceptedSamplesWritable}
use Rattle.demands.specs.Demands.{SampleLinesReadBack, SampleLinesWrittenOut, AnyPrinted, OurPrinted, OnePrinting}
use Rattle.demands.specs.Demands.{SessionsPrinted, SamplesOnLines, StatusWordsTell, BitsUnpacked, ReportsAreItems}
use Rattle.demands.specs.Demands.{AnyTwoHistoriesReported, OurTwoHistoriesReported, AnyLentRecords, OurLentRecords}
use Rattle.demands.specs.Demands.{LentValues, RightReportsTrip, EveryCounter, SensingRule, PowerLaws, AnyRecovery}
use Rattle.demands.specs.Demands.{OurRecovery, AnyRideThroughEnds, OurRideThroughEnds, AnyDroop, OurDroop, AnyRampsTold}
use Rattle.demands.specs.Demands.{OurRampsTold, AnyRampsUntold, OurRampsUntold, OurCarryOver, OneCarryOver, AnyWayBack}
use Rattle.demands.specs.Demands.{OurWayBack, AnyRules, OurRules, OneRuling, EdgeValues, ExportedRefusals}
use Rattle.demands.specs.Demands.{ExportedDemands, ExportedRamps, ExportedUnderTexts, ExportedRules, AnyReplay, OurReplay}
use Rattle.demands.specs.Demands.{ExportedReplay, ReplayGroups, CodeContracts, CodeMeetsContracts}
use Rattle.demands.proofs.Contracts.{contracts-say, code_meets}
use Rattle.demands.proofs.CarryOver.{carries-records, histories-back}
use Rattle.demands.proofs.OneCarryOver.{one-carry-over}
use Rattle.demands.proofs.Edges.{edges-hold}
use Rattle.demands.proofs.Lent.{lent-read}
use Rattle.demands.proofs.Printed.{prints-by-history, one-printing, samples-on-lines}
use Rattle.demands.proofs.Writable.{accepted-writable}
use Rattle.equipment.proofs.Sound.{our-equipment-sound}
use Rattle.equipment.proofs.LongestRamp.{ramps-untold}

pub our_equipment_sound : OurEquipmentSound
our_equipment_sound = our-equipment-sound

pub alike_equipment_steps_alike : AlikeEquipmentStepsAlike
alike_equipment_steps_alike = step-alike

pub any_refusals : AnyRefusals
any_refusals = refuses-rightly

pub our_refusals : OurRefusals
our_refusals = any_refusals our_equipment

pub our_sheet_refusals : OurSheetRefusals
our_sheet_refusals = sheets-refused-rightly

pub any_transcript : AnyTranscript
any_transcript = transcript-law

pub our_transcript : OurTranscript
our_transcript = any_transcript our_equipment

pub any_sessions : AnySessions
any_sessions = standing-law

pub our_sessions : OurSessions
our_sessions = any_sessions our_equipment

pub any_trip_and_return : AnyTripAndReturn
any_trip_and_return = demand2

pub our_trip_and_return : OurTripAndReturn
our_trip_and_return = any_trip_and_return our_equipment our_equipment_sound

pub any_two_histories : AnyTwoHistories
any_two_histories = demand3

pub our_two_histories : OurTwoHistories
our_two_histories = any_two_histories our_equipment our_equipment_sound

pub sheets_read_back : SheetsReadBack
sheets_read_back = sheet-read-back

pub sheets_written_out : SheetsWrittenOut
sheets_written_out = sheet-written-out

pub one_sheet_reading : OneSheetReading
one_sheet_reading = one-reading

pub default_sheet_written : DefaultSheetWritten
default_sheet_written = default-written

pub under_accepted_texts : UnderAcceptedTexts
under_accepted_texts e sound s read =
    let a = (sheet-written-out s read).accepted in
    (any_trip_and_return e sound (read_sheet s).settings a, any_two_histories e sound (read_sheet s).settings a)

pub lines_of_forms : LinesOfForms
lines_of_forms = forms-read

pub sample_lines_answered : SampleLinesAnswered
sample_lines_answered = samples-answered

pub one_sample_answer : OneSampleAnswer
one_sample_answer = one_answer

pub accepted_samples_writable : AcceptedSamplesWritable
accepted_samples_writable = accepted-writable

pub sample_lines_read_back : SampleLinesReadBack
sample_lines_read_back = sample-reads-back

pub sample_lines_written_out : SampleLinesWrittenOut
sample_lines_written_out = sample-written-out

pub any_printed : AnyPrinted
any_printed = prints-by-history

pub our_printed : OurPrinted
our_printed = any_printed our_equipment our_equipment_sound

pub one_printing : OnePrinting
one_printing = one-printing

pub sessions_printed : SessionsPrinted
sessions_printed e sound print right cs sizes done = (any_transcript e).done cs sizes done ∙ sym (one_printing e sound print right (input_of cs))

pub samples_on_lines : SamplesOnLines
samples_on_lines = samples-on-lines

pub status_words_tell : StatusWordsTell
status_words_tell = words-tell

pub bits_unpacked : BitsUnpacked
bits_unpacked = bits-unpacked

pub reports_are_items : ReportsAreItems
reports_are_items = reports-items

pub any_two_histories_reported : AnyTwoHistoriesReported
any_two_histories_reported e sound st ok = two-histories-reported saved_into e (ruled_by e) st (any_two_histories e sound st ok)

pub our_two_histories_reported : OurTwoHistoriesReported
our_two_histories_reported = any_two_histories_reported our_equipment our_equipment_sound

pub any_lent_records : AnyLentRecords
any_lent_records = reads-records

pub our_lent_records : OurLentRecords
our_lent_records = any_lent_records our_equipment

pub lent_values : LentValues
lent_values = lent-read

pub right_reports_trip : RightReportsTrip
right_reports_trip e p st right answered = reports-trip e st p right answered

pub every_counter : EveryCounter
every_counter = counter-rule

pub sensing_rule : SensingRule
sensing_rule code h = voltage-root code (omega arith)

pub power_laws : PowerLaws
power_laws =
    record {
      leaves = nameplate-largest;
      follows = curve-follows;
      alone = one-curve;
      rise = λ st ok. (rising-points st.var (var-rises st ok), rising-points st.watt (watt-rises st ok));
      var-curve = λ st ok. curve-follows st.var (rising-points st.var (var-rises st ok));
      watt-curve = λ st ok. curve-follows st.watt (rising-points st.watt (watt-rises st ok));
      watts = λ st ok v. pos-nat_abs (curve st.watt v) (curve-non_neg st.watt v (watt-not-negatives st ok));
      beside-vars = λ st ok v. nameplate-largest (curve st.var v) (curve-small 10000 st.var v (powers-small st.var (var-rises st ok)));
    }

pub any_recovery : AnyRecovery
any_recovery e sound st ok = restores-power e st sound ok

pub our_recovery : OurRecovery
our_recovery = any_recovery our_equipment our_equipment_sound

pub any_ride_through_ends : AnyRideThroughEnds
any_ride_through_ends e sound st ok = ceases-beyond-ride-through e st sound ok

pub our_ride_through_ends : OurRideThroughEnds
our_ride_through_ends = any_ride_through_ends our_equipment our_equipment_sound

pub any_droop : AnyDroop
any_droop = droops

pub our_droop : OurDroop
our_droop = any_droop our_equipment

pub any_ramps_told : AnyRampsTold
any_ramps_told = ramps-told-within-five

pub our_ramps_told : OurRampsTold
our_ramps_told = any_ramps_told our_equipment our_equipment_sound

pub any_ramps_untold : AnyRampsUntold
any_ramps_untold = ramps-untold

pub our_ramps_untold : OurRampsUntold
our_ramps_untold = any_ramps_untold our_equipment our_equipment_sound

pub our_carry_over : OurCarryOver
our_carry_over =
    record { refuses = refused-rightly; numbered = numbered; round-trips = round-trips; records = carries-records }

pub one_carry_over : OneCarryOver
one_carry_over = one-carry-over

pub any_way_back : AnyWayBack
any_way_back = histories-back

pub our_way_back : OurWayBack
our_way_back = any_way_back our_equipment our_equipment_sound

pub any_rules : AnyRules
any_rules e = (
  record {
    shows = shows-rules e;
    reports = leaves-reports e;
    status = names-status e;
    watts = names-watts e;
    on-records = names-on-records e;
    numbers = numbers-tell;
  },
  λ sound. (subst⁻¹ (Demand2 e) (board-alone e) (any_trip_and_return e sound), subst⁻¹ (Demand3 e) (board-alone e) (any_two_histories e sound)),
)

pub our_rules : OurRules
our_rules = ((any_rules our_equipment).0, (any_rules our_equipment).1 our_equipment_sound)

pub one_ruling : OneRuling
one_ruling = record { status = one-status-rule; watts = one-watts-rule }

pub edge_values : EdgeValues
edge_values = edges-hold

pub exported_refusals : ExportedRefusals
exported_refusals = exported-refuse

pub exported_demands : ExportedDemands
exported_demands e sound before =
    (subst⁻¹ (Demand2 e) (board-is e before) (any_trip_and_return e sound), subst⁻¹ (Demand3 e) (board-is e before) (any_two_histories e sound))

pub exported_ramps : ExportedRamps
exported_ramps e sound before = (
  subst⁻¹ (λ (p : Program). RampsTold e p 5) (board-is e before) (any_ramps_told e sound),
  subst⁻¹ (λ (p : Program). RampsUntold e p 4) (board-is e before) (any_ramps_untold e sound),
)

pub exported_under_texts : ExportedUnderTexts
exported_under_texts e sound old before s zero =
    let sheet = (exported-refuse e).sheet in
    let read : (read_sheet s).check ≡ Ok tt = (our_sheet_refusals.accepts s).1 ((sheet.accepted s).0 zero) in
    let stored = sheet.settings-stored s old zero in
    let ok = subst⁻¹ (λ (st : Settings). settings_accepted st ≡ true) stored (sheet-written-out s read).accepted in
    let demands = exported_demands e sound before in
    (ok, demands.0 (settings_after old s) ok, demands.1 (settings_after old s) ok)

pub exported_rules : ExportedRules
exported_rules = explains-in-numbers

pub any_replay : AnyReplay
any_replay = replays-rightly

pub our_replay : OurReplay
our_replay = any_replay our_equipment our-equipment-sound

pub exported_replay : ExportedReplay
exported_replay = exported-replay

pub replay_groups : ReplayGroups
replay_groups = by-seven

pub code_contracts : CodeContracts
code_contracts M 𝓤 𝓛 mem run = contracts-say 𝓛 mem run

pub code_meets_contracts : CodeMeetsContracts
code_meets_contracts M = code_meets {M = M}
