-- Demand 1, for reading a sheet (spec 3.7 to 3.10, 13.1), as a claim about any reading. Each line's causes stand by themselves, by the line's
-- place in the text and not by a run of the reader. Lines are counted from 0.
-- Assumes nothing.
use Rattle.std.specs.Prelude.{◌≡◌, true, false, cond, not, List, [], ◌∷◌, map, ◌↔◌, ℕ, zero, suc, ◌+◌, ◌≤◌, ◌<◌, ℤ, length, get_or, drop, Ok}
use Rattle.std.proofs.Math.Option.{Option, none, some}
use Rattle.rules.specs.Tests.{all}
use Rattle.rules.specs.Text.{first_line, has_feed, after_line}
use Rattle.rules.specs.Forms.{sheet_forms, numbers_of}
use Rattle.rules.specs.Settings.{Pair, Row, row, rows, in_row, rising, sheet_lines}
use Rattle.rules.specs.Refusals.{settings_number, line_of}
use Rattle.rules.specs.Sheets.{SheetReading, pairs, settings_of}
use Rattle.causes.specs.FirstCause.{Cause, cause, first}

-- ---- a line of a text

-- the text from line i on; nothing where it has no such line
abbrev pub from_line : ℕ → List ℕ → List ℕ
from_line zero s = s
from_line (suc i) s = from_line i (after_line s)

-- the numbers of a text's first line, where it is ended and of the form
abbrev pub numbers_by : List ℕ → List ℕ → Option (List ℤ)
numbers_by form s = cond (has_feed s) (numbers_of form (first_line s)) none

-- spec 3.7: a line's causes, by its row and by its numbers
abbrev pub causes_by : Row → Option (List ℤ) → List Cause
causes_by r none = cause 1 true ∷ []
causes_by r (some ns) = cause 1 false ∷ cause 2 (not (all (map (in_row r) (pairs ns)))) ∷ cause 3 (not (rising (pairs ns))) ∷ []

-- the numbers two by two
abbrev pub pairs_by : Option (List ℤ) → List Pair
pairs_by none = []
pairs_by (some ns) = pairs ns

-- ---- line i of a sheet, by these rows and forms

abbrev pub numbers_at : List (List ℕ) → ℕ → List ℕ → Option (List ℤ)
numbers_at forms i s = numbers_by (get_or forms i []) (from_line i s)

abbrev pub cause_at : List Row → List (List ℕ) → ℕ → List ℕ → ℕ
cause_at rs forms i s = first (causes_by (get_or rs i (row 0 0 0 0)) (numbers_at forms i s))

-- the number of its first cause, 0 where it has none
unfoldable pub line_cause : ℕ → List ℕ → ℕ
line_cause i s = cause_at rows sheet_forms i s

unfoldable pub line_pairs : ℕ → List ℕ → List Pair
line_pairs i s = pairs_by (numbers_at sheet_forms i s)

-- ---- what is claimed

-- n is the first cause of line i, and no line before it has a cause
pub record FirstCauseAt (s : List ℕ) (i n : ℕ) : Type 0 where
  pub line : i < sheet_lines
  pub here : line_cause i s ≡ n
  pub before : (k : ℕ) → k < i → line_cause k s ≡ 0

-- of any reading, and of what it hands back, for every text s: it refuses with n at a line exactly when that is the first line with a cause and n
-- the line's first cause, in the order of spec 3.7; and accepts exactly when no line has a cause
pub record SheetsRefusedRightly (read : List ℕ → SheetReading) (handed : List ℕ → List ℕ) : Type 0 where
  pub refuses : (s : List ℕ) (i n : ℕ) → 0 < n → ((settings_number (read s).check ≡ n) × (line_of (read s).check ≡ i + 1)) ↔ FirstCauseAt s i n
  pub accepts : (s : List ℕ) → ((read s).check ≡ Ok tt) ↔ ((i : ℕ) → i < sheet_lines → line_cause i s ≡ 0)
  -- the settings of an accepted sheet are its thirteen lines' numbers, those of a refused one all 0
  pub settings : (s : List ℕ) → (read s).check ≡ Ok tt
      → (read s).settings ≡ settings_of (map (λ i. line_pairs i s) (0 ∷ 1 ∷ 2 ∷ 3 ∷ 4 ∷ 5 ∷ 6 ∷ 7 ∷ 8 ∷ 9 ∷ 10 ∷ 11 ∷ 12 ∷ []))
  pub no-settings : (s : List ℕ) → 0 < settings_number (read s).check → (read s).settings ≡ settings_of []
  -- spec 3.9: the part handed back begins where the text has that line, which is inside it, and at the end where there is none; of an accepted
  -- sheet it is what follows line 13 (`IsPart` in sheet/specs/Parts.antt: in the caller's memory too)
  pub place : (s : List ℕ) (i n : ℕ) → 0 < n → FirstCauseAt s i n → drop (read s).start s ≡ from_line i s
  pub inside : (s : List ℕ) → (read s).start ≤ length s
  pub missing : (s : List ℕ) (i n : ℕ) → 0 < n → FirstCauseAt s i n → from_line i s ≡ [] → (read s).start ≡ length s
  pub follows : (s : List ℕ) → (read s).check ≡ Ok tt → drop (read s).start s ≡ from_line sheet_lines s
  pub back : (s : List ℕ) (i n : ℕ) → 0 < n → FirstCauseAt s i n → handed s ≡ first_line (from_line i s)
  pub rest : (s : List ℕ) → (read s).check ≡ Ok tt → handed s ≡ from_line sheet_lines s
