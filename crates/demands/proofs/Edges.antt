-- The edge values hold: antt computes both sides of every row from the definitions, with our equipment and its table of voltages.
-- Assumes nothing.
use mathlib.Core.Path.{refl, subst}
use Rattle.rules.specs.Tests.{all, within}
use Rattle.rules.specs.Sensing.{largest}
use Rattle.rules.specs.Settings.{rows, in_row, rising, check_from, lines_of, settings_check}
use Rattle.rules.specs.Counters.{broken}
use Rattle.rules.specs.Regions.{voltage_region, frequency_region, region_of, our_equipment}
use Rattle.rules.specs.Curves.{curve_from, curve, nameplate}
use Rattle.rules.specs.Droop.{side_of, drooped}
use Rattle.rules.specs.Text.{leading_digits, after_digits, value_after, well_formed, take_number, take_signed, first_line, has_feed, after_line}
use Rattle.rules.specs.Forms.{sheet_forms, numbers_of}
use Rattle.rules.specs.Sheets.{settings_of, read_from, read_sheet}
use Rattle.rules.specs.Defaults.{default_sheet, default_settings}
use Rattle.equipment.proofs.Examples.{tabled, tabled-is-ours}
use Rattle.demands.specs.Edges.{edges, EdgesHold}

-- the default sheet's settings, and whether settings are accepted
unfoldable sheet_opened : Unit {0}
unfolding all within rows in_row rising check_from lines_of settings_check
    leading_digits after_digits value_after well_formed take_number take_signed first_line has_feed after_line
    sheet_forms numbers_of settings_of read_from read_sheet default_sheet default_settings
sheet_opened = tt

computed : EdgesHold tabled
unfolding EdgesHold edges sheet_opened largest broken voltage_region frequency_region region_of curve_from curve nameplate side_of drooped
computed =
    (refl, (refl, (refl, (refl, (refl, (refl, (refl, (refl, (refl, (refl, (refl, (refl, (refl, (refl, (refl, (refl, (refl, (refl, (refl, (refl, (refl, (refl, (refl, (refl, (refl, (refl, (refl, (refl, (refl, (refl, (refl, (refl, (refl, (refl, (refl, (refl, (refl, (refl, (refl, (refl, (refl, (refl, tt))))))))))))))))))))))))))))))))))))))))))

pub edges-hold : EdgesHold our_equipment
edges-hold = subst EdgesHold tabled-is-ours computed
