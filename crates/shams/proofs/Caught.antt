-- The statements of specs/Caught.antt hold of our equipment.
-- Assumes nothing.
use mathlib.Core.Path.{subst}
use Rattle.rules.specs.Samples.{Equipment}
use Rattle.rules.specs.Regions.{our_equipment}
use Rattle.rules.specs.History.{history_report}
use Rattle.rules.specs.Images.{saved_into}
use Rattle.causes.specs.Calls.{ruled_by}
use Rattle.theorems.proofs.RampPairs.{ramps-told-within-five, untold-not-told}
use Rattle.shams.specs.Caught.{ShamsCaught, ShamImagesCaught, ShamReadingsCaught}
use Rattle.shams.specs.Caught.{ShamRecoveryCaught}
use Rattle.shams.specs.Caught.{ShamRideThroughEndsCaught}
use Rattle.shams.specs.Caught.{ShamRefusalsCaught, ShamReportsCaught, ShamPrintingsCaught}
use Rattle.shams.specs.Caught.{ShamCarryOversCaught}
use Rattle.shams.specs.Caught.{ShamRulesCaught}
use Rattle.shams.specs.Caught.{ShamRampsCaught}
use Rattle.shams.specs.Caught.{ShamDroopsCaught}
use Rattle.shams.proofs.ShamDroops.{anew, own, across, limited, rounded-up, ended-early, side-kept}
use Rattle.shams.proofs.ShamRamps.{longer-not-told, longer-shows, counted-at-once}
use Rattle.equipment.proofs.Examples.{tabled, tabled-is-ours, tabled-sound}
use Rattle.equipment.proofs.LongestRamp.{ramps-untold}
use Rattle.shams.proofs.ShamRules.{waits, turned, best, last, droop-last, mandatory}
use Rattle.shams.proofs.ShamCarryOvers.{added-first, room-first, what-fits, appends-less, drops-any, swaps-caught}
use Rattle.shams.proofs.Shams.{quick-accepted, waiting-accepted, early, invented, tripped, repeated, kept}
use Rattle.shams.proofs.Shams.{refusing, leaving, as_lent}
use Rattle.shams.proofs.Shams.{no-ramp, no-ninth, no-recovery, no-side, no-held, no_bits, full-at-once, unheld, withheld}
use Rattle.shams.proofs.Shams.{stopped, riding-on, low_end, high_end, momentary}
use Rattle.shams.proofs.ShamStatus.{only-reports, only-trips, only-returns}
use Rattle.shams.proofs.ShamReadings.{turned-away, let-in}
use Rattle.shams.proofs.ShamPrintings.{no_more, not-nothing}
use Rattle.shams.proofs.ShamLines.{no-large, no-unended, no_return}
use Rattle.shams.proofs.ShamRefusals.{last-code, reading-stored, sample-first, written-short, good-sheet}
use Rattle.shams.proofs.ShamRefusals.{from_zero, rest-handed}

-- what is computed with the table of voltages holds of our equipment
said-of-ours : (P : Equipment → Type 0) → P tabled → P our_equipment
said-of-ours P = subst P tabled-is-ours

pub shams_caught : ShamsCaught our_equipment
shams_caught = said-of-ours ShamsCaught
    (record {
      accepted = quick-accepted;
      early = early;
      invented = invented;
      tripped = tripped;
      repeated = repeated;
      kept = kept;
      refusing = refusing;
      leaving = leaving;
    })

pub sham_reports_caught : ShamReportsCaught our_equipment
sham_reports_caught = said-of-ours ShamReportsCaught
    (record { bits = only-reports; trips = only-trips; returns = only-returns })

pub sham_refusals_caught : ShamRefusalsCaught our_equipment
sham_refusals_caught = said-of-ours ShamRefusalsCaught
    (record {
      sample = last-code;
      changed = reading-stored;
      order = sample-first;
      written = written-short;
      sheet = good-sheet;
      line = from_zero;
      part = rest-handed;
    })

pub sham_images_caught : ShamImagesCaught our_equipment
sham_images_caught = said-of-ours ShamImagesCaught
    (record {
      accepted = (quick-accepted, waiting-accepted);
      ramp = no-ramp;
      ninth = no-ninth;
      recovery = no-recovery;
      side = no-side;
      held = no-held;
      bits = no_bits;
    })

pub sham_ramps_caught : ShamRampsCaught our_equipment
sham_ramps_caught = said-of-ours ShamRampsCaught
    (record {
      six = λ u. untold-not-told saved_into (history_report tabled) (ruled_by tabled) 5 u (ramps-told-within-five tabled tabled-sound);
      four = untold-not-told saved_into (history_report tabled) (ruled_by tabled) 4 (ramps-untold tabled tabled-sound);
      longer = longer-not-told;
      longer-shows = longer-shows;
      counted = counted-at-once;
    })

pub sham_recovery_caught : ShamRecoveryCaught our_equipment
sham_recovery_caught = said-of-ours ShamRecoveryCaught
    (record { shown = full-at-once; unheld = unheld; withheld = withheld })

pub sham_ride_through_ends_caught : ShamRideThroughEndsCaught our_equipment
sham_ride_through_ends_caught = said-of-ours ShamRideThroughEndsCaught
    (record { riding-on = riding-on; low_end = low_end; high_end = high_end; momentary = momentary; stopped = stopped })

pub sham_droops_caught : ShamDroopsCaught our_equipment
sham_droops_caught = said-of-ours ShamDroopsCaught
    (record {
      anew = anew;
      own = own;
      across = across;
      limited = limited;
      rounded-up = rounded-up;
      ended-early = ended-early;
      side-kept = side-kept;
    })

pub sham_readings_caught : ShamReadingsCaught our_equipment
sham_readings_caught = said-of-ours ShamReadingsCaught
    (record {
      good_sheet = turned-away;
      unended = let-in;
      large = no-large;
      unended_sample = no-unended;
      carriage_return = no_return;
      as_lent = as_lent;
    })

pub sham_printings_caught : ShamPrintingsCaught our_equipment
sham_printings_caught = said-of-ours ShamPrintingsCaught
    (record { goes_on = no_more; nothing = not-nothing })

pub sham_carry_overs_caught : ShamCarryOversCaught
sham_carry_overs_caught =
    record {
      added-first = added-first;
      room-first = room-first;
      written = what-fits;
      appended = appends-less;
      dropped = drops-any;
      swaps = swaps-caught;
    }

pub sham_rules_caught : ShamRulesCaught our_equipment
sham_rules_caught = said-of-ours ShamRulesCaught
    (record { waits = waits; turned = turned; best = best; last = last; droop = droop-last; mandatory = mandatory })
