-- Spec 3.1 to 3.6: settings written out as a sheet, and what a text that is accepted must be.
-- Assumes nothing.
use Rattle.std.specs.Prelude.{◌≡◌, true, ◌↔◌, List, [], ◌∷◌, ◌++◌, ℕ, ℤ, length, drop, Ok}
use Rattle.rules.specs.Text.{feed}
use Rattle.rules.specs.Forms.{sheet_forms}
use Rattle.rules.specs.Settings.{Pair, lines_of, settings_accepted}
use Rattle.rules.specs.Sheets.{SheetReading}
use Rattle.rules.specs.declared.Settings.{Settings}
use Rattle.formats.specs.Marks.{filled_in}

-- the numbers of a line, one after the other
abbrev pub pair_numbers : List Pair → List ℤ
pair_numbers [] = []
pair_numbers (p ∷ ps) = p.first ∷ p.second ∷ pair_numbers ps

-- lines of these forms with these numbers, each with its line feed
unfoldable pub written_lines : List (List ℕ) → List (List Pair) → List ℕ
written_lines [] lines = []
written_lines (form ∷ forms) [] = []
written_lines (form ∷ forms) (ps ∷ lines) = filled_in form (pair_numbers ps) ++ (feed ∷ written_lines forms lines)

-- spec 3.2: each line is its form with the numbers that the settings have for it
unfoldable pub written_sheet : Settings → List ℕ
written_sheet st = written_lines sheet_forms (lines_of st)

-- eight limits, four points and two: the lengths of the declared arrays. Settings of the code always have them; `Settings` here holds
-- lists, which may have others
pub record Complete (st : Settings) : Type 0 where
  pub limits : length st.trip ≡ 8
  pub var_points : length st.var ≡ 4
  pub watt_points : length st.watt ≡ 2

-- a text of which r was read: it begins with the sheet of the settings in r, which 2 and 3 pass, and r ends where that sheet does
pub record BeginsWithSheet (s : List ℕ) (r : SheetReading) : Type 0 where
  pub complete : Complete r.settings
  pub accepted : settings_accepted r.settings ≡ true
  pub start : r.start ≡ length (written_sheet r.settings)
  pub text : s ≡ written_sheet r.settings ++ drop r.start s

-- ---- what is asked of a reading of sheets, without a parser

-- complete settings that 2 and 3 pass are read back from their writing-out, whatever bytes follow it
abbrev pub ReadsSheetsBack : (List ℕ → SheetReading) → Type 0
ReadsSheetsBack read =
    (st : Settings) (after : List ℕ) → Complete st → settings_accepted st ≡ true
    → read (written_sheet st ++ after) ≡ record { check = Ok tt; settings = st; start = length (written_sheet st) }

-- every text that is accepted begins with such a writing-out
abbrev pub AcceptsSheetsOnly : (List ℕ → SheetReading) → Type 0
AcceptsSheetsOnly read = (s : List ℕ) → (read s).check ≡ Ok tt → BeginsWithSheet s (read s)

-- two readings of a text accept it or do not, and where they accept it give the same settings and place
pub record AcceptAlike (a b : SheetReading) : Type 0 where
  pub both : (a.check ≡ Ok tt) ↔ (b.check ≡ Ok tt)
  pub same : a.check ≡ Ok tt → a ≡ b
