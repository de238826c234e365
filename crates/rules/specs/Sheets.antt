-- Spec 3.7 to 3.10: reading a sheet.
-- Assumes nothing.
use Rattle.std.specs.Prelude.{cond, List, [], ◌∷◌, ◌++◌, map, ℕ, suc, ◌+◌, ℤ, pos, nat_abs, length, get_or, drop, Ok, Err}
use Rattle.std.proofs.Math.Option.{Option, none, some}
use Rattle.rules.specs.Settings.{Pair, pair, Row, rows, line_check}
use Rattle.rules.specs.Text.{first_line, has_feed, after_line}
use Rattle.rules.specs.Forms.{sheet_forms, numbers_of}
use Rattle.rules.specs.declared.Limit.{Limit}
use Rattle.rules.specs.declared.Span.{Span}
use Rattle.rules.specs.declared.Point.{Point}
use Rattle.rules.specs.declared.Settings.{Settings}
use Rattle.rules.specs.declared.Refusal.{Refusal}
use Rattle.rules.specs.declared.Refusal.TheVariants.{Form}
use Rattle.rules.specs.Answers.{SettingsCheck, settings_refused}

-- the numbers of a line, two by two
abbrev pub pairs : List ℤ → List Pair
pairs [] = []
pairs (a ∷ []) = []
pairs (a ∷ b ∷ ns) = pair a b ∷ pairs ns

-- ---- the settings of thirteen lines

abbrev pub pair_at : List (List Pair) → ℕ → ℕ → Pair
pair_at lines i k = get_or (get_or lines i []) k (pair (pos 0) (pos 0))

abbrev pub limit_of : Pair → Limit
limit_of p = record { level = nat_abs p.first; clearing = nat_abs p.second }

abbrev pub span_of : Pair → Span
span_of p = record { low = nat_abs p.first; high = nat_abs p.second }

abbrev pub point_of : Pair → Point
point_of p = record { volts = nat_abs p.first; power = p.second }

unfoldable pub settings_of : List (List Pair) → Settings
settings_of lines =
    record {
      trip = map (λ i. limit_of (pair_at lines i 0)) (0 ∷ 1 ∷ 2 ∷ 3 ∷ 4 ∷ 5 ∷ 6 ∷ 7 ∷ []);
      volts = span_of (pair_at lines 8 0);
      hertz = span_of (pair_at lines 9 0);
      wait = nat_abs (pair_at lines 10 0).first;
      ramp = nat_abs (pair_at lines 10 0).second;
      var = map (λ k. point_of (pair_at lines 11 k)) (0 ∷ 1 ∷ 2 ∷ 3 ∷ []);
      watt = map (λ k. point_of (pair_at lines 12 k)) (0 ∷ 1 ∷ []);
    }

-- ---- the reading

-- what a reading finds; the settings, all 0 where the sheet is refused (spec 3.10); and where the part handed back begins (spec 3.9): at
-- the refused line, or behind an accepted sheet
pub record SheetReading : Type 0 where
  pub check : SettingsCheck
  pub settings : Settings
  pub start : ℕ

abbrev pub refused_at : Refusal → ℕ → ℕ → SheetReading
refused_at cause line start = record { check = settings_refused cause line; settings = settings_of []; start = start }

-- spec 3.7: a line of another form is refused with 1; one that has its form is checked for 2 and 3, and where it has neither, the lines after it
abbrev pub on_numbers : ℕ → ℕ → Row → Option (List ℤ) → (List Pair → SheetReading) → SheetReading
on_numbers line start r none next = refused_at Form line start
on_numbers line start r (some ns) next = line_check r (pairs ns) (next (pairs ns)) (λ cause. refused_at cause line start)

-- the lines of these rows and forms, from line n, which begins at `start`, on; `read` are the lines before it
unfoldable pub read_from : ℕ → ℕ → List (List Pair) → List Row → List (List ℕ) → List ℕ → SheetReading
read_from n start read [] forms s = record { check = Ok tt; settings = settings_of read; start = start }
read_from n start read (r ∷ rs) [] s = refused_at Form n start
read_from n start read (r ∷ rs) (form ∷ forms) s =
    cond (has_feed s)
    (on_numbers n start r (numbers_of form (first_line s))
    (λ ps. read_from (suc n) (start + length (first_line s) + 1) (read ++ (ps ∷ [])) rs forms (after_line s)))
    (refused_at Form n start)

-- spec 3.7, 3.8: line by line; what follows the last line is not looked at
unfoldable pub read_sheet : List ℕ → SheetReading
read_sheet s = read_from 1 0 [] rows sheet_forms s

-- spec 3.9: the part of the caller's bytes that is handed back
abbrev pub part_of : SettingsCheck → List ℕ → List ℕ
part_of (Ok ok) rest = rest
part_of (Err away) rest = first_line rest

unfoldable pub handed_back : List ℕ → List ℕ
handed_back s = part_of (read_sheet s).check (drop (read_sheet s).start s)
