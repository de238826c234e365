-- What a proof opens to compute with, under one name each: a definition's name on an `unfolding` line opens what its own line names.
-- Assumes nothing.
use Rattle.rules.specs.Tests.{all, any, within}
use Rattle.rules.specs.Sensing.{largest}
use Rattle.rules.specs.Settings.{rows, in_row, rising, check_from, lines_of, settings_check}
use Rattle.rules.specs.Samples.{sample_check}
use Rattle.rules.specs.Counters.{broken, in_range}
use Rattle.rules.specs.Regions.{voltage_region, frequency_region, region_of}
use Rattle.rules.specs.Curves.{curve_from, curve, nameplate}
use Rattle.rules.specs.Droop.{side_of, drooped}
use Rattle.rules.specs.Service.{vars_of, watts_of}
use Rattle.rules.specs.Reports.{report_of}
use Rattle.rules.specs.Images.{number_bytes, field_bytes, image_fields, image, saved_into}
use Rattle.rules.specs.Records.{fresh, each, read_as, settled, ruled, next, shown, step_of}
use Rattle.rules.specs.History.{streak, serving, climbed, since_cessation, history_status, history_share, history_recovery, history_side}
use Rattle.rules.specs.History.{watts_holding, history_held, history_watts, history_vars, history_report}

-- whether settings and samples are accepted
unfoldable pub check_opened : Unit {0}
unfolding all within rows in_row rising check_from lines_of settings_check sample_check
check_opened = tt

-- the powers: curves, nameplate and droop
unfoldable pub power_opened : Unit {0}
unfolding within largest curve_from curve nameplate side_of drooped vars_of watts_of
power_opened = tt

-- what a sample gives: broken limits, regions and powers
unfoldable pub sample_opened : Unit {0}
unfolding all any within broken in_range voltage_region frequency_region region_of power_opened
sample_opened = tt

-- how long a history has held something
unfoldable pub counts_opened : Unit {0}
unfolding streak serving climbed since_cessation
counts_opened = tt

-- the report of a history, item by item
unfoldable pub history_opened : Unit {0}
unfolding sample_opened counts_opened history_status history_share history_recovery history_side watts_holding history_held history_watts history_vars history_report
history_opened = tt

-- what a step answers and leaves
unfoldable pub step_opened : Unit {0}
unfolding check_opened sample_opened report_of fresh each read_as settled ruled next shown step_of
step_opened = tt

-- the bytes of an image
unfoldable pub image_opened : Unit {0}
unfolding saved_into image image_fields field_bytes number_bytes
image_opened = tt
