-- Spec 3.5, 3.6, 4.3: the allowed values, and refusals 2 and 3 of settings in sheet order.
-- Assumes nothing.
use Rattle.std.specs.Prelude.{Bool, true, false, cond, ◌&&◌, List, [], ◌∷◌, map, ℕ, suc, ℤ, pos, neg_ℤ, get_or, Ok, Err}
use Rattle.std.specs.Int.Signed.{lt_z, le_z}
use Rattle.rules.specs.Tests.{all}
use Rattle.rules.specs.declared.Limit.{Limit}
use Rattle.rules.specs.declared.Span.{Span}
use Rattle.rules.specs.declared.Point.{Point}
use Rattle.rules.specs.declared.Settings.{Settings}
use Rattle.rules.specs.declared.Refusal.{Refusal}
use Rattle.rules.specs.declared.Refusal.TheVariants.{Range, Rise}
use Rattle.rules.specs.Answers.{SettingsCheck, settings_refused}

-- two numbers of a sheet line (spec 3.2): a var line has four pairs, a watt line two, any other line one
pub record Pair : Type 0 where
  pub first : ℤ
  pub second : ℤ

abbrev pub pair : ℤ → ℤ → Pair
pair a b = record { first = a; second = b }

-- a row of the table of allowed values: lowest and highest of the first number, and of the second
pub record Row : Type 0 where
  pub first_low : ℤ
  pub first_high : ℤ
  pub second_low : ℤ
  pub second_high : ℤ

abbrev pub row : ℕ → ℕ → ℕ → ℕ → Row
row a b c d = record { first_low = pos a; first_high = pos b; second_low = pos c; second_high = pos d }

-- spec 3.1: how many lines a sheet has
abbrev pub sheet_lines : ℕ
sheet_lines = 13

-- spec 3.5: a row a line, in sheet order
unfoldable pub rows : List Row
rows =
    row 0 8800 2100 5000  -- uv1
    ∷ row 0 5000 200 2100  -- uv2
    ∷ row 11000 12000 100 1300  -- ov1
    ∷ row 12000 12000 16 16  -- ov2
    ∷ row 50000 59000 18000 100000  -- uf1
    ∷ row 50000 57000 16 100000  -- uf2
    ∷ row 61000 66000 18000 100000  -- of1
    ∷ row 61800 66000 16 100000  -- of2
    ∷ row 8800 9500 10500 10600  -- volts
    ∷ row 59000 59900 60100 61000  -- hertz
    ∷ row 0 60000 100 60000  -- wait
    ∷ record { first_low = pos 7000; first_high = pos 13000; second_low = neg_ℤ (pos 10000); second_high = pos 10000 }  -- var
    ∷ row 10000 12000 0 10000  -- watt
    ∷ []

-- both numbers lie in the row
unfoldable pub in_row : Row → Pair → Bool
in_row r p =
    all (le_z r.first_low p.first
    ∷ le_z p.first r.first_high
    ∷ le_z r.second_low p.second
    ∷ le_z p.second r.second_high
    ∷ [])

-- spec 3.6; a line of one pair has nothing to rise
unfoldable pub rising : List Pair → Bool
rising [] = true
rising (p ∷ []) = true
rising (p ∷ q ∷ ps) = lt_z p.first q.first && rising (q ∷ ps)

-- spec 4.3: a line is checked for 2, then for 3; where it has neither, what comes after it
abbrev pub line_check : {A : Type 0} → Row → List Pair → A → (Refusal → A) → A
line_check r ps next refuse = cond (all (map (in_row r) ps)) (cond (rising ps) next (refuse Rise)) (refuse Range)

-- the lines from line n on, in order, each by its row
unfoldable pub check_from : ℕ → List Row → List (List Pair) → SettingsCheck
check_from n [] lines = Ok tt
check_from n (r ∷ rs) [] = Ok tt
check_from n (r ∷ rs) (ps ∷ lines) = line_check r ps (check_from (suc n) rs lines) (λ cause. settings_refused cause n)

-- ---- the thirteen lines of settings (eight limits, four and two points: the lengths are those of the declared arrays)

abbrev pub no_limit : Limit
no_limit = record { level = 0; clearing = 0 }

-- limit i, from 0, in sheet order
abbrev pub limit_at : Settings → ℕ → Limit
limit_at st i = get_or st.trip i no_limit

abbrev pub trip_line : Settings → ℕ → List Pair
trip_line st i = pair (pos (limit_at st i).level) (pos (limit_at st i).clearing) ∷ []

abbrev pub span_line : Span → List Pair
span_line s = pair (pos s.low) (pos s.high) ∷ []

abbrev pub point_pair : Point → Pair
point_pair p = pair (pos p.volts) p.power

unfoldable pub lines_of : Settings → List (List Pair)
lines_of st =
    trip_line st 0
    ∷ trip_line st 1
    ∷ trip_line st 2
    ∷ trip_line st 3
    ∷ trip_line st 4
    ∷ trip_line st 5
    ∷ trip_line st 6
    ∷ trip_line st 7
    ∷ span_line st.volts
    ∷ span_line st.hertz
    ∷ (pair (pos st.wait) (pos st.ramp) ∷ [])
    ∷ map point_pair st.var
    ∷ map point_pair st.watt
    ∷ []

-- spec 4.3: the first refusal of lent settings, with its sheet line from 1
unfoldable pub settings_check : Settings → SettingsCheck
settings_check st = check_from 1 rows (lines_of st)

abbrev pub settings_passed : SettingsCheck → Bool
settings_passed (Ok ok) = true
settings_passed (Err away) = false

-- an accepted sheet
abbrev pub settings_accepted : Settings → Bool
settings_accepted st = settings_passed (settings_check st)
