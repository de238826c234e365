-- Spec 6.13, 7.3, 7.5, 7.6: the statuses, a row each.
-- Assumes nothing.
use Rattle.std.specs.Prelude.{Bool, true, false, List, [], ◌∷◌, ℕ, get_or}
use Prim.Native.String.{String}

-- its word, whether a board in it is in service, and whether it gives power
pub record StatusRow : Type 0 where
  pub word : String
  pub service : Bool
  pub power : Bool

abbrev pub status_row : String → Bool → Bool → StatusRow
status_row word service power = record { word = word; service = service; power = power }

-- by number
abbrev pub statuses : List StatusRow
statuses =
    status_row "tripped" false false
    ∷ status_row "entering" true true
    ∷ status_row "continuous" true true
    ∷ status_row "mandatory" true true  -- mandatory operation
    ∷ status_row "momentary" true false  -- momentary cessation
    ∷ status_row "cease" true false  -- cease to energize
    ∷ []

-- the last of them
abbrev pub top_status : ℕ
top_status = 5

-- a status that spec 6.13 does not name is read as tripped (spec 5.4); it has no word
abbrev pub status_at : ℕ → StatusRow
status_at status = get_or statuses status (status_row "" false false)
