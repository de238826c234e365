-- The second page: the demands are not empty. Wrong boards, operations, readings, images, reports and rules, called
-- shams, do not meet them. The shams are defined in Shams.antt, ShamRefusals.antt, ShamCarryOvers.antt,
-- ShamRules.antt, ShamRamps.antt and ShamDroops.antt. A statement is said of an equipment; the proof of `X our_equipment`
-- is `x` in proofs/Caught.antt.
-- Assumes nothing.
use Rattle.std.specs.Prelude.{◌≡◌, true, List, ℕ}
use Rattle.rules.specs.Samples.{Equipment}
use Rattle.rules.specs.Settings.{settings_accepted}
use Rattle.rules.specs.History.{history_report}
use Rattle.rules.specs.Images.{saved_into}
use Rattle.rules.specs.Sheets.{read_sheet}
use Rattle.rules.specs.Reports.{report_of}
use Rattle.rules.specs.declared.Settings.{Settings}
use Rattle.formats.specs.Sheets.{ReadsSheetsBack, AcceptsSheetsOnly}
use Rattle.formats.specs.Marks.{ReadsForms}
use Rattle.formats.specs.Samples.{AnswersSamples}
use Rattle.causes.specs.Calls.{Call, ruled_by, run_of, accepted_samples, Under}
use Rattle.claims.specs.Recovery.{RestoresPower}
use Rattle.claims.specs.RideThroughEnds.{CeasesBeyondRideThrough}
use Rattle.claims.specs.Droop.{Droops}
use Rattle.causes.specs.FirstCause.{RefusesRightly}
use Rattle.causes.specs.SheetCauses.{SheetsRefusedRightly}
use Rattle.claims.specs.TripAndReturn.{Shows, Refuses, Keeps, Trips, Returns, ReturnsContinuous, TripAndReturn}
use Rattle.claims.specs.TwoHistories.{TwoHistoriesBy}
use Rattle.claims.specs.RampPairs.{RampsToldBy, RampsUntoldBy, RampsTold, RampsUntold}
use Rattle.claims.specs.LentRecords.{ReadsRecords}
use Rattle.claims.specs.Printed.{PrintsByHistory}
use Rattle.carryover.specs.Carries.{our_forward, our_back, CarryRefusedRightly, RoundTrips, CarriesRecords}
use Rattle.explain.specs.Explains.{NamesStatusRule, NamesWattsRule}
use Rattle.equipment.specs.ExampleSheets.{example_sheet}
use Rattle.shams.specs.Shams.{trips_early, invents_counters, always_tripped, repeats_first, keeps_record, turns_away}
use Rattle.shams.specs.Shams.{invents_bits, hides_trips, says_tripped, saved_without_ramp, saved_without_ninth}
use Rattle.shams.specs.Shams.{saved_without_recovery, saved_without_side, saved_without_held, report_without_bits}
use Rattle.shams.specs.Shams.{refuses_no_wait}
use Rattle.shams.specs.Shams.{report_full_at_once, report_unheld, report_withheld, stops_counting, report_riding_on}
use Rattle.shams.specs.Shams.{report_ceasing_at, report_momentary}
use Rattle.shams.specs.Shams.{takes_as_lent, takes_unended, large_no_number, steps_unended, steps_past_return}
use Rattle.shams.specs.Shams.{turns_away_last_code, going_on, says_nothing}
use Rattle.shams.specs.ShamCarryOvers.{added_first, room_first, drops_any, carries_what_fits, appends_less, swaps_forward, swaps_back}
use Rattle.shams.specs.ShamRamps.{six_samples, report_longer, report_counted}
use Rattle.shams.specs.ShamDroops.{report_held_anew, report_held_own, report_held_across, report_limited}
use Rattle.shams.specs.ShamDroops.{report_rounded_up, report_ended_early, report_side_kept}
use Rattle.shams.specs.ShamRules.{waits_at_trip, last_limit, best_region, last_among_equals, droop_last, status_in_mandatory}
use Rattle.shams.specs.ShamRefusals.{refuses_last_code, stores_reading, sample_first, writes_what_fits, lines_from_zero, hands_rest}

-- Seven sham boards do not meet demand 2 on the sheet of spec 10.11. Five are those of spec 13.6. Two turn away good
-- samples: one moves its record as if it had taken them, one leaves it. That sheet is accepted, so that demand 2,
-- which speaks of every accepted sheet, is false of each of them.
pub record ShamsCaught (e : Equipment) : Type 0 where
  pub accepted : settings_accepted (example_sheet 0) ≡ true
  pub early : ¬ TripAndReturn e (trips_early e) (example_sheet 0)
  pub invented : ¬ TripAndReturn e (invents_counters e) (example_sheet 0)
  pub tripped : ¬ TripAndReturn e (always_tripped e) (example_sheet 0)
  pub repeated : ¬ TripAndReturn e (repeats_first e) (example_sheet 0)
  pub kept : ¬ TripAndReturn e (keeps_record e) (example_sheet 0)
  pub refusing : ¬ TripAndReturn e (turns_away e) (example_sheet 0)
  pub leaving : ¬ TripAndReturn e (turns_away_last_code e) (example_sheet 0)

-- Three shams keep the record and refuse as they should, and show other reports.
--   - The first turns every bit over, and fails by its reports alone.
--   - The second says `entering` at the step at which it trips. Of the parts of demand 2 that do not compare whole
--     reports it fails the trip and no other.
--   - The third always says `tripped`. Of those parts it fails the return and no other.
-- None can fail the trip or the return alone: a program whose reports are right trips and returns as it should
-- (`RightReportsTrip`).
pub record ShamReportsCaught (e : Equipment) : Type 0 where
  pub bits : (¬ Shows e (invents_bits e) (example_sheet 0)) × Refuses (invents_bits e) (example_sheet 0) × Keeps e (invents_bits e) (example_sheet 0)
      × Trips e (invents_bits e) (example_sheet 0) × Returns e (invents_bits e) (example_sheet 0)
      × ReturnsContinuous e (invents_bits e) (example_sheet 0)
  pub trips : (¬ Trips e (hides_trips e) (example_sheet 0)) × Refuses (hides_trips e) (example_sheet 0) × Keeps e (hides_trips e) (example_sheet 0)
      × Returns e (hides_trips e) (example_sheet 0) × ReturnsContinuous e (hides_trips e) (example_sheet 0)
  pub returns : (¬ Returns e (says_tripped e) (example_sheet 0)) × Refuses (says_tripped e) (example_sheet 0) × Keeps e (says_tripped e) (example_sheet 0)
      × Trips e (says_tripped e) (example_sheet 0) × ReturnsContinuous e (says_tripped e) (example_sheet 0)

-- Demand 3 is false of five sham images: 0 in place of the ramp count, of the ninth counter, of the side or of the
-- held power, and 40 in place of the recovery count. (The proofs take histories whose sham images are equal and whose
-- reports differ, now or later.) It is false too of a report whose bits are always 0. Each on an example sheet, which
-- is accepted.
pub record ShamImagesCaught (e : Equipment) : Type 0 where
  pub accepted : (settings_accepted (example_sheet 0) ≡ true) × (settings_accepted (example_sheet 2) ≡ true)
  pub ramp : ¬ TwoHistoriesBy saved_without_ramp (history_report e) (ruled_by e) (example_sheet 0)
  pub ninth : ¬ TwoHistoriesBy saved_without_ninth (history_report e) (ruled_by e) (example_sheet 2)
  pub recovery : ¬ TwoHistoriesBy saved_without_recovery (history_report e) (ruled_by e) (example_sheet 0)
  pub side : ¬ TwoHistoriesBy saved_without_side (history_report e) (ruled_by e) (example_sheet 0)
  pub held : ¬ TwoHistoriesBy saved_without_held (history_report e) (ruled_by e) (example_sheet 0)
  pub bits : ¬ TwoHistoriesBy saved_into (report_without_bits e) (ruled_by e) (example_sheet 0)

-- Five samples are enough for two ramp counts, and four are not. That some pair needs six is refuted by
-- `OurRampsTold`, and that four are always enough by `OurRampsUntold`. A board whose ramps are a step longer than its
-- sheet's, and whose reports are those of such ramps, does not meet the first. Reports that show the ramp count in
-- the share's place do not meet the second.
pub record ShamRampsCaught (e : Equipment) : Type 0 where
  pub six : ¬ RampsUntold e (ruled_by e) 5
  pub four : ¬ RampsTold e (ruled_by e) 4
  pub longer : ¬ RampsToldBy saved_into (report_longer e) (six_samples e) 5
  pub longer-shows : (st : Settings) → settings_accepted st ≡ true → (cs : List Call) → Under st cs
      → (run_of (six_samples e) cs).report ≡ report_of (report_longer e st (accepted_samples cs))
  pub counted : ¬ RampsUntoldBy saved_into (report_counted e) (ruled_by e) 0

-- Three shams do not restore power as they should, on the sheet of spec 10.11. One shows a full recovery count at
-- once. One counts as it should and gives all at once. One counts as it should and gives nothing until the count is
-- full.
pub record ShamRecoveryCaught (e : Equipment) : Type 0 where
  pub shown : ¬ RestoresPower e (example_sheet 0) (report_full_at_once e (example_sheet 0))
  pub unheld : ¬ RestoresPower e (example_sheet 0) (report_unheld e (example_sheet 0))
  pub withheld : ¬ RestoresPower e (example_sheet 0) (report_withheld e (example_sheet 0))

-- Five shams do wrong where the frequency is far outside, on that sheet. One goes on giving power there. Two cease at
-- an end that still belongs to ride-through, 57000 and 62000. One shows momentary cessation. The limits' counters of
-- the fifth stop there, which is demand 2's to find.
pub record ShamRideThroughEndsCaught (e : Equipment) : Type 0 where
  pub riding-on : ¬ CeasesBeyondRideThrough e (example_sheet 0) (report_riding_on e (example_sheet 0))
  pub low_end : ¬ CeasesBeyondRideThrough e (example_sheet 0) (report_ceasing_at e 57000 (example_sheet 0))
  pub high_end : ¬ CeasesBeyondRideThrough e (example_sheet 0) (report_ceasing_at e 62000 (example_sheet 0))
  pub momentary : ¬ CeasesBeyondRideThrough e (example_sheet 0) (report_momentary e (example_sheet 0))
  pub stopped : ¬ TripAndReturn e (stops_counting e) (example_sheet 0)

-- Seven shams do not droop as they should, on that sheet.
--   - By what they hold: the watts before each step of an event; those of its first step; what was held on the other
--     side.
--   - By their watts: the operator's limit still binds; the quotient is rounded up.
--   - By their side: none at 60037; one that stays through a trip.
pub record ShamDroopsCaught (e : Equipment) : Type 0 where
  pub anew : ¬ Droops e (example_sheet 0) (report_held_anew e (example_sheet 0))
  pub own : ¬ Droops e (example_sheet 0) (report_held_own e (example_sheet 0))
  pub across : ¬ Droops e (example_sheet 0) (report_held_across e (example_sheet 0))
  pub limited : ¬ Droops e (example_sheet 0) (report_limited e (example_sheet 0))
  pub rounded-up : ¬ Droops e (example_sheet 0) (report_rounded_up e (example_sheet 0))
  pub ended-early : ¬ Droops e (example_sheet 0) (report_ended_early e (example_sheet 0))
  pub side-kept : ¬ Droops e (example_sheet 0) (report_side_kept e (example_sheet 0))

-- Demand 1 is false of four shams among operations: one refuses a good sample and leaves the record; one refuses as
-- it should and changes the record; one looks at the sample before the settings; one writes into a buffer which it
-- refuses. It is false of a reading that turns away a good sheet, and of one that refuses as it should with another
-- line, whatever they hand back; and of our reading with another part handed back.
pub record ShamRefusalsCaught (e : Equipment) : Type 0 where
  pub sample : ¬ RefusesRightly (refuses_last_code e)
  pub changed : ¬ RefusesRightly (stores_reading e)
  pub order : ¬ RefusesRightly (sample_first e)
  pub written : ¬ RefusesRightly (writes_what_fits e)
  pub sheet : (handed : List ℕ → List ℕ) → ¬ SheetsRefusedRightly refuses_no_wait handed
  pub line : (handed : List ℕ → List ℕ) → ¬ SheetsRefusedRightly lines_from_zero handed
  pub part : ¬ SheetsRefusedRightly read_sheet hands_rest

-- Six shams do not read as they should.
--   - A reading that refuses a wait of 0 turns away the sheet of spec 10.11.
--   - One that takes a sheet whose last line is unended accepts more than sheets.
--   - One that finds no form in a line with a number above 100000 would give 1 in place of 2.
--   - Answers that step on an unended sample line, or on one with a carriage return before its line feed, take more
--     than samples.
--   - A board that takes a lent record as it stands does not read it.
pub record ShamReadingsCaught (e : Equipment) : Type 0 where
  pub good_sheet : ¬ ReadsSheetsBack refuses_no_wait
  pub unended : ¬ AcceptsSheetsOnly takes_unended
  pub large : ¬ ReadsForms large_no_number
  pub unended_sample : ¬ AnswersSamples steps_unended
  pub carriage_return : ¬ AnswersSamples steps_past_return
  pub as_lent : ¬ ReadsRecords e (takes_as_lent e)

-- Two shams print something else than they should: a program that goes on after a refused sheet, by the default
-- settings, and one that prints nothing for it.
pub record ShamPrintingsCaught (e : Equipment) : Type 0 where
  pub goes_on : ¬ PrintsByHistory e (going_on e)
  pub nothing : ¬ PrintsByHistory e (says_nothing e)

-- Six shams do not carry over as they should.
--   - By their refusals: 11 looked for before 10, 9 before 11, and a target written and then refused.
--   - By the round trips: 39 appended in place of 40, and any last bytes left out.
--   - The sixth swaps two bytes both ways. It refuses as it should and its round trips hold; only the images of
--     records tell it from ours.
pub record ShamCarryOversCaught : Type 0 where
  pub added-first : ¬ CarryRefusedRightly our_forward added_first
  pub room-first : ¬ CarryRefusedRightly our_forward room_first
  pub written : ¬ CarryRefusedRightly carries_what_fits our_back
  pub appended : ¬ RoundTrips appends_less our_back
  pub dropped : ¬ RoundTrips our_forward drops_any
  pub swaps : CarryRefusedRightly swaps_forward swaps_back × RoundTrips swaps_forward swaps_back × (¬ CarriesRecords swaps_forward swaps_back)

-- Six shams do not name the rules as they should, on that sheet: the wait named at the step of a trip; the last limit
-- in place of the first where two have run out; the cause of the best region; the last limit of the watts in place of
-- the first among equals; droop listed last in an event; and the status named in mandatory operation.
pub record ShamRulesCaught (e : Equipment) : Type 0 where
  pub waits : ¬ NamesStatusRule e (example_sheet 0) (waits_at_trip e (example_sheet 0))
  pub turned : ¬ NamesStatusRule e (example_sheet 0) (last_limit e (example_sheet 0))
  pub best : ¬ NamesStatusRule e (example_sheet 0) (best_region e (example_sheet 0))
  pub last : ¬ NamesWattsRule e (example_sheet 0) (last_among_equals e (example_sheet 0))
  pub droop : ¬ NamesWattsRule e (example_sheet 0) (droop_last e (example_sheet 0))
  pub mandatory : ¬ NamesWattsRule e (example_sheet 0) (status_in_mandatory e (example_sheet 0))
