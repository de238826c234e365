-- The begin of a report line (spec 10.4), as its parts are written one after the other.
-- Assumes nothing.
use Rattle.std.specs.Prelude.{List, ◌++◌, ℕ, ◌+◌, pos}
use Rattle.rules.specs.Transcripts.{spaced}
use Rattle.rules.specs.declared.Report.{Report}
use Rattle.spacednumbers.specs.Rooms.{number_room}
use Rattle.reportparts.specs.Parts.{head_room, report_head}

-- a line's begin, as far as the recovery count
unfoldable pub report_front : Report → List ℕ
report_front r = report_head r ++ (spaced (pos r.share) ++ spaced (pos r.recovery))

-- no front is longer
abbrev pub front_room : ℕ
front_room = head_room + number_room + number_room
