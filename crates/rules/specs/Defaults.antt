-- Spec 3.3: the default sheet.
-- Assumes nothing.
use Rattle.std.specs.Prelude.{List, [], ◌∷◌, ◌++◌, ℕ}
use Prim.Native.String.{String}
use Rattle.rules.specs.Text.{bytes, feed}
use Rattle.rules.specs.Sheets.{read_sheet}
use Rattle.rules.specs.declared.Settings.{Settings}

-- lines, each ended by a line feed
abbrev pub ended_lines : List String → List ℕ
ended_lines [] = []
ended_lines (l ∷ ls) = bytes l ++ (feed ∷ ended_lines ls)

unfoldable pub default_sheet : List ℕ
default_sheet =
    ended_lines
    ("(trip (uv1 8800 2100))"
    ∷ "(trip (uv2 5000 200))"
    ∷ "(trip (ov1 11000 1300))"
    ∷ "(trip (ov2 12000 16))"
    ∷ "(trip (uf1 58500 30000))"
    ∷ "(trip (uf2 56500 16))"
    ∷ "(trip (of1 61200 30000))"
    ∷ "(trip (of2 62000 16))"
    ∷ "(enter (volts 9170 10500))"
    ∷ "(enter (hertz 59500 60100))"
    ∷ "(enter (wait 30000 30000))"
    ∷ "(var (9200 4400) (9800 0) (10200 0) (10800 -4400))"
    ∷ "(watt (10600 10000) (11000 2000))"
    ∷ [])

unfoldable pub default_settings : Settings
default_settings = (read_sheet default_sheet).settings
