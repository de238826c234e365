-- Spec 4.3: what the check of one line of settings finds, and of the first lines in order.
-- Assumes nothing.
use Rattle.std.specs.Prelude.{List, ℕ, ◌+◌, take, Ok}
use Rattle.rules.specs.Settings as rules
use Rattle.rules.specs.Settings.{rows, lines_of, line_check, check_from}
use Rattle.rules.specs.declared.Settings.{Settings}
use Rattle.rules.specs.Answers.{SettingsCheck, settings_refused}

-- what checking line i alone finds
abbrev pub line_found : rules.Row → List rules.Pair → ℕ → SettingsCheck
line_found r ps i = line_check r ps (Ok tt) (λ cause. settings_refused cause (i + 1))

-- spec 4.3: what the first n lines find, in sheet order
unfoldable pub first_lines_check : ℕ → Settings → SettingsCheck
first_lines_check n st = check_from 1 (take n rows) (lines_of st)
