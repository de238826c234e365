-- The parts of a report line (spec 10.4), as their pieces are written one after the other, and which are written at once.
-- Assumes nothing.
use Rattle.std.specs.Prelude.{Bool, ◌&&◌, List, ◌++◌, ℕ, ◌+◌, eqb, pos}
use Rattle.rules.specs.Text.{bytes}
use Rattle.rules.specs.Service.{recovery_top}
use Rattle.rules.specs.Transcripts.{bit_digits, spaced}
use Rattle.rules.specs.declared.Report.{Report}
use Rattle.pieces.specs.Pieces.{status_word}
use Rattle.spacednumbers.specs.Rooms.{number_room}

-- a line's begin, as far as the bits
unfoldable pub report_head : Report → List ℕ
report_head r = bytes "(report " ++ (status_word r.status ++ (bytes " " ++ bit_digits 9 r.bits))

-- status continuous, of the nine bits ready alone, full share, full recovery
abbrev pub is_steady : Report → Bool
is_steady r = eqb r.status 2 && (eqb r.bits 1 && (eqb r.share 10000 && eqb r.recovery recovery_top))

-- side and held power, behind the front
unfoldable pub event_numbers : ℕ → ℕ → List ℕ
event_numbers side held = spaced (pos side) ++ spaced (pos held)

-- ---- room: no part is longer

-- the head: the begin, the longest status word, a space and nine bits
abbrev pub head_room : ℕ
head_room = 28

abbrev pub event_room : ℕ
event_room = number_room + number_room
