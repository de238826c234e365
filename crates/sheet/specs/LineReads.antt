-- Spec 3.7: what reading one line of a sheet gives. Lines are counted from 0.
-- Assumes nothing.
use Rattle.std.specs.Prelude.{List, ℕ, ◌+◌, ℤ, Result, Ok, Err}
use Rattle.std.proofs.Math.Option.{Option, none, some}
use Rattle.rules.specs.Forms.{numbers_of}
use Rattle.rules.specs.declared.Settings.{Settings}
use Rattle.rules.specs.declared.Refusal.TheVariants.{Form}
use Rattle.rules.specs.declared.SheetRefusal.{SheetRefusal}
use Rattle.rules.specs.Answers.{SettingsCheck}
use Rattle.sheet.specs.declared.LineRefusal.{LineRefusal}
use Rattle.ranges.specs.Rows.{row_at}
use Rattle.pairs.specs.Pairs.{settings_line}
use Rattle.settings.specs.Lines.{line_found}
use Rattle.formats.specs.Marks.{form_at}
use Rattle.matching.specs.Places.{padded}
use Rattle.storing.specs.Stores.{with_numbers}

-- the settings with a line's numbers, or its refusal, with the settings then
abbrev pub LineRead : Type 0
LineRead = Result Settings LineRefusal

abbrev pub refused_as : Settings → SheetRefusal → LineRead
refused_as st away = Err (record { why = away; settings = st })

-- the settings with the line's numbers, where a check of them finds nothing
abbrev pub accepted_as : Settings → SettingsCheck → LineRead
accepted_as st (Ok ok) = Ok st
accepted_as st (Err away) = refused_as st away

-- line i, for 1, then 2, then 3
abbrev pub on_line : ℕ → Settings → Option (List ℤ) → LineRead
on_line i st none = refused_as st (record { cause = Form; line = i + 1 })
on_line i st (some ns) =
    accepted_as (with_numbers st i (padded ns)) (line_found (row_at i) (settings_line (with_numbers st i (padded ns)) i) i)

unfoldable pub line_read : ℕ → List ℕ → Settings → LineRead
line_read i line st = on_line i st (numbers_of (form_at i) line)
