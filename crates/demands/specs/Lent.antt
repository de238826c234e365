-- Spec 5.4: lent records and how each is read, as rows of one table, under the sheet of spec 10.11. The tops of its counters: 2100, 200,
-- 1300, 16, 30000, 16, 30000, 16, and 1 for the ninth, its wait being 0; its ramp length is 100. Then rows under sheets with other numbers.
-- Assumes nothing.
use Rattle.std.specs.Prelude.{◌≡◌, true, List, [], ◌∷◌, ℕ, ℤ, pos, neg_ℤ}
use Rattle.rules.specs.Settings.{settings_accepted}
use Rattle.rules.specs.Samples.{Equipment}
use Rattle.rules.specs.Records.{read_as}
use Rattle.rules.specs.declared.Settings.{Settings}
use Rattle.rules.specs.declared.Board.{Board}
use Rattle.equipment.specs.ExampleSheets.{limit, example_sheet}

-- uv1 uv2 ov1 ov2 uf1 uf2 of1 of2 and the ninth
abbrev pub nine : ℕ → ℕ → ℕ → ℕ → ℕ → ℕ → ℕ → ℕ → ℕ → List ℕ
nine uv1 uv2 ov1 ov2 uf1 uf2 of1 of2 ninth = uv1 ∷ uv2 ∷ ov1 ∷ ov2 ∷ uf1 ∷ uf2 ∷ of1 ∷ of2 ∷ ninth ∷ []

-- status, counters, ramp count, watts, vars, with a full recovery count, on no side and with no held power
abbrev pub board : ℕ → List ℕ → ℕ → ℕ → ℤ → Board
board status counters ramp watts vars =
    record { status = status; counters = counters; ramp = ramp; watts = watts; vars = vars; recovery = 40; side = 0; held = 0 }

-- a record with another recovery count, side and held power
abbrev pub having : ℕ → ℕ → ℕ → Board → Board
having recovery side held b =
    record { status = b.status; counters = b.counters; ramp = b.ramp; watts = b.watts; vars = b.vars; recovery = recovery; side = side; held = held }

-- records that differ in status and recovery count alone
abbrev pub recovering_at : ℕ → ℕ → Board
recovering_at status n = having n 0 0 (board status (nine 7 7 7 7 7 7 7 7 1) 0 5000 (pos 100))

-- records that differ in status, side and held power alone
abbrev pub event_at : ℕ → ℕ → ℕ → Board
event_at status side held = having 40 side held (board status (nine 7 7 7 7 7 7 7 7 1) 0 5000 (pos 100))

-- a lent record, and what it is read as
pub record LentRow : Type 0 where
  pub lent : Board
  pub read : Board

-- the first is read as the second
abbrev pub lent_row : Board → Board → LentRow
lent_row lent read = record { lent = lent; read = read }

-- read as it stands
abbrev pub stands : Board → LentRow
stands lent = lent_row lent lent

abbrev pub AllRead : Equipment → Settings → List LentRow → Type 0
AllRead e st [] = Unit {0}
AllRead e st (r ∷ rs) = (read_as e st r.lent ≡ r.read) × AllRead e st rs

unfoldable pub lent_rows : List LentRow
lent_rows =
    -- a counter one above its top
    lent_row (board 1 (nine 2101 0 0 0 0 0 0 0 0) 0 0 (pos 0)) (board 1 (nine 2100 0 0 0 0 0 0 0 0) 0 0 (pos 0))
    ∷ lent_row (board 1 (nine 0 201 0 0 0 0 0 0 0) 0 0 (pos 0)) (board 1 (nine 0 200 0 0 0 0 0 0 0) 0 0 (pos 0))
    ∷ lent_row (board 1 (nine 0 0 1301 0 0 0 0 0 0) 0 0 (pos 0)) (board 1 (nine 0 0 1300 0 0 0 0 0 0) 0 0 (pos 0))
    ∷ lent_row (board 1 (nine 0 0 0 17 0 0 0 0 0) 0 0 (pos 0)) (board 1 (nine 0 0 0 16 0 0 0 0 0) 0 0 (pos 0))
    ∷ lent_row (board 1 (nine 0 0 0 0 30001 0 0 0 0) 0 0 (pos 0)) (board 1 (nine 0 0 0 0 30000 0 0 0 0) 0 0 (pos 0))
    ∷ lent_row (board 1 (nine 0 0 0 0 0 17 0 0 0) 0 0 (pos 0)) (board 1 (nine 0 0 0 0 0 16 0 0 0) 0 0 (pos 0))
    ∷ lent_row (board 1 (nine 0 0 0 0 0 0 30001 0 0) 0 0 (pos 0)) (board 1 (nine 0 0 0 0 0 0 30000 0 0) 0 0 (pos 0))
    ∷ lent_row (board 1 (nine 0 0 0 0 0 0 0 17 0) 0 0 (pos 0)) (board 1 (nine 0 0 0 0 0 0 0 16 0) 0 0 (pos 0))
    ∷ lent_row (board 1 (nine 0 0 0 0 0 0 0 0 2) 0 0 (pos 0)) (board 1 (nine 0 0 0 0 0 0 0 0 1) 0 0 (pos 0))
    -- all nine at their tops, and one below
    ∷ stands (board 0 (nine 2100 200 1300 16 30000 16 30000 16 1) 0 0 (pos 0))
    ∷ stands (board 3 (nine 2099 199 1299 15 29999 15 29999 15 0) 40 4000 (pos 4393))
    -- a status that has no name
    ∷ lent_row (board 6 (nine 7 7 7 7 7 7 7 7 1) 0 5000 (pos 100)) (board 0 (nine 7 7 7 7 7 7 7 7 1) 0 5000 (pos 100))
    ∷ lent_row (board 6 (nine 7 7 7 7 7 7 7 7 1) 50 5000 (pos 100)) (board 0 (nine 7 7 7 7 7 7 7 7 1) 0 5000 (pos 100))
    ∷ lent_row (board 255 (nine 0 0 0 0 0 0 0 0 0) 0 0 (pos 0)) (board 0 (nine 0 0 0 0 0 0 0 0 0) 0 0 (pos 0))
    -- the statuses that have one, whether or not a step could have left the record so
    ∷ stands (board 0 (nine 7 7 7 7 7 7 7 7 1) 0 5000 (pos 100))
    ∷ stands (board 1 (nine 7 7 7 7 7 7 7 7 1) 100 5000 (pos 100))
    ∷ stands (board 2 (nine 7 7 7 7 7 7 7 7 1) 50 5000 (pos 100))
    ∷ stands (board 3 (nine 7 7 7 7 7 7 7 7 1) 50 5000 (pos 100))
    ∷ stands (board 4 (nine 7 7 7 7 7 7 7 7 1) 50 5000 (pos 100))
    ∷ stands (board 5 (nine 7 7 7 7 7 7 7 7 1) 50 5000 (pos 100))
    -- a ramp count: of a tripped board, and above the ramp length
    ∷ lent_row (board 0 (nine 0 0 0 0 0 0 0 0 0) 50 0 (pos 0)) (board 0 (nine 0 0 0 0 0 0 0 0 0) 0 0 (pos 0))
    ∷ lent_row (board 0 (nine 0 0 0 0 0 0 0 0 0) 101 0 (pos 0)) (board 0 (nine 0 0 0 0 0 0 0 0 0) 0 0 (pos 0))
    ∷ lent_row (board 2 (nine 0 0 0 0 0 0 0 0 0) 101 0 (pos 0)) (board 2 (nine 0 0 0 0 0 0 0 0 0) 100 0 (pos 0))
    ∷ stands (board 2 (nine 0 0 0 0 0 0 0 0 0) 100 0 (pos 0))
    -- watts above the rating
    ∷ lent_row (board 2 (nine 0 0 0 0 0 0 0 0 1) 100 10001 (pos 0)) (board 2 (nine 0 0 0 0 0 0 0 0 1) 100 10000 (pos 0))
    ∷ lent_row (board 0 (nine 0 0 0 0 0 0 0 0 1) 0 65535 (pos 0)) (board 0 (nine 0 0 0 0 0 0 0 0 1) 0 10000 (pos 0))
    ∷ stands (board 2 (nine 0 0 0 0 0 0 0 0 1) 100 10000 (pos 0))
    -- vars, as they stand
    ∷ stands (board 2 (nine 0 0 0 0 0 0 0 0 1) 100 0 (pos 32767))
    ∷ stands (board 0 (nine 0 0 0 0 0 0 0 0 1) 0 0 (neg_ℤ (pos 32768)))
    -- a recovery count: above 40, and as it stands, tripped or in service
    ∷ lent_row (recovering_at 1 41) (recovering_at 1 40)
    ∷ lent_row (recovering_at 4 255) (recovering_at 4 40)
    ∷ lent_row (recovering_at 0 41) (recovering_at 0 40)
    ∷ stands (recovering_at 1 40)
    ∷ stands (recovering_at 2 39)
    ∷ stands (recovering_at 5 1)
    ∷ stands (recovering_at 3 0)
    ∷ stands (recovering_at 0 0)
    -- a side: without a name, and as it stands in service, whatever is held; none when tripped
    ∷ lent_row (event_at 1 3 5000) (event_at 1 0 5000)
    ∷ lent_row (event_at 5 255 0) (event_at 5 0 0)
    ∷ stands (event_at 1 1 5000)
    ∷ stands (event_at 3 2 0)
    ∷ stands (event_at 2 0 5000)
    ∷ lent_row (event_at 0 1 0) (event_at 0 0 0)
    ∷ lent_row (event_at 0 2 5000) (event_at 0 0 0)
    ∷ lent_row (event_at 6 1 5000) (event_at 0 0 0)
    -- a held power: above the rating, and as it stands in service; none when tripped
    ∷ lent_row (event_at 1 1 10001) (event_at 1 1 10000)
    ∷ lent_row (event_at 4 2 65535) (event_at 4 2 10000)
    ∷ stands (event_at 4 2 10000)
    ∷ lent_row (event_at 0 0 10001) (event_at 0 0 0)
    -- every field at its highest
    ∷ lent_row (having 255 255 65535 (board 255 (nine 4294967295 4294967295 4294967295 4294967295 4294967295 4294967295 4294967295 4294967295 4294967295) 4294967295 65535 (pos 32767)))
    (board 0 (nine 2100 200 1300 16 30000 16 30000 16 1) 0 10000 (pos 32767))
    ∷ lent_row (having 255 255 65535 (board 5 (nine 4294967295 4294967295 4294967295 4294967295 4294967295 4294967295 4294967295 4294967295 4294967295) 4294967295 65535 (pos 32767)))
    (having 40 0 10000 (board 5 (nine 2100 200 1300 16 30000 16 30000 16 1) 100 10000 (pos 32767)))
    ∷ []

-- the ninth counter where the wait is 60000, which is its top then
unfoldable pub wait_rows : List LentRow
wait_rows =
    lent_row (board 0 (nine 0 0 0 0 0 0 0 0 60001) 0 0 (pos 0)) (board 0 (nine 0 0 0 0 0 0 0 0 60000) 0 0 (pos 0))
    ∷ stands (board 0 (nine 0 0 0 0 0 0 0 0 60000) 0 0 (pos 0))
    ∷ stands (board 0 (nine 0 0 0 0 0 0 0 0 2) 0 0 (pos 0))
    ∷ []

-- a sheet with other clearing times (ov2 allows 16 alone, spec 3.5), wait and ramp length
abbrev pub other_sheet : Settings
other_sheet =
    record {
      trip =
          limit 8000 2500
          ∷ limit 4500 300
          ∷ limit 11500 700
          ∷ limit 12000 16
          ∷ limit 58000 18000
          ∷ limit 56000 160
          ∷ limit 61500 45000
          ∷ limit 63000 250
          ∷ [];
      volts = (example_sheet 0).volts;
      hertz = (example_sheet 0).hertz;
      wait = 40;
      ramp = 5000;
      var = (example_sheet 0).var;
      watt = (example_sheet 0).watt;
    }

unfoldable pub other_rows : List LentRow
other_rows =
    -- a counter one above its top
    lent_row (board 1 (nine 2501 0 0 0 0 0 0 0 0) 0 0 (pos 0)) (board 1 (nine 2500 0 0 0 0 0 0 0 0) 0 0 (pos 0))
    ∷ lent_row (board 1 (nine 0 301 0 0 0 0 0 0 0) 0 0 (pos 0)) (board 1 (nine 0 300 0 0 0 0 0 0 0) 0 0 (pos 0))
    ∷ lent_row (board 1 (nine 0 0 701 0 0 0 0 0 0) 0 0 (pos 0)) (board 1 (nine 0 0 700 0 0 0 0 0 0) 0 0 (pos 0))
    ∷ lent_row (board 1 (nine 0 0 0 17 0 0 0 0 0) 0 0 (pos 0)) (board 1 (nine 0 0 0 16 0 0 0 0 0) 0 0 (pos 0))
    ∷ lent_row (board 1 (nine 0 0 0 0 18001 0 0 0 0) 0 0 (pos 0)) (board 1 (nine 0 0 0 0 18000 0 0 0 0) 0 0 (pos 0))
    ∷ lent_row (board 1 (nine 0 0 0 0 0 161 0 0 0) 0 0 (pos 0)) (board 1 (nine 0 0 0 0 0 160 0 0 0) 0 0 (pos 0))
    ∷ lent_row (board 1 (nine 0 0 0 0 0 0 45001 0 0) 0 0 (pos 0)) (board 1 (nine 0 0 0 0 0 0 45000 0 0) 0 0 (pos 0))
    ∷ lent_row (board 1 (nine 0 0 0 0 0 0 0 251 0) 0 0 (pos 0)) (board 1 (nine 0 0 0 0 0 0 0 250 0) 0 0 (pos 0))
    ∷ lent_row (board 1 (nine 0 0 0 0 0 0 0 0 41) 0 0 (pos 0)) (board 1 (nine 0 0 0 0 0 0 0 0 40) 0 0 (pos 0))
    -- the ramp count one above the ramp length
    ∷ lent_row (board 2 (nine 0 0 0 0 0 0 0 0 0) 5001 0 (pos 0)) (board 2 (nine 0 0 0 0 0 0 0 0 0) 5000 0 (pos 0))
    -- all at their tops, and one below
    ∷ stands (board 2 (nine 2500 300 700 16 18000 160 45000 250 40) 5000 0 (pos 0))
    ∷ stands (board 2 (nine 2499 299 699 15 17999 159 44999 249 39) 4999 0 (pos 0))
    ∷ []

-- the one statement that covers the rows, whatever the equipment
unfoldable pub LentRead : Equipment → Type 0
LentRead e =
    AllRead e (example_sheet 0) lent_rows
    × AllRead e (example_sheet 60000) wait_rows
    × (settings_accepted other_sheet ≡ true)
    × AllRead e other_sheet other_rows
