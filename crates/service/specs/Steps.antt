-- Spec 6 to 8: what a step makes of a record, as its parts promise it.
-- Assumes nothing.
use Rattle.std.specs.Prelude.{◌≡◌, List, ℕ, Ok}
use Rattle.rules.specs.Samples.{Equipment}
use Rattle.rules.specs.Counters.{full, rules}
use Rattle.rules.specs.Reports.{packed_after, report_of}
use Rattle.rules.specs.Records.{each, shown}
use Rattle.rules.specs.declared.Settings.{Settings}
use Rattle.rules.specs.declared.Board.{Board}
use Rattle.rules.specs.declared.Stepped.{Stepped}

-- the bits are those of the counters
abbrev pub Bits : Equipment → Settings → List ℕ → ℕ → Type 0
Bits e s counters bits = bits ≡ packed_after 0 (each full (rules e s) counters)

-- the record, and the report that it shows
abbrev pub reported : Equipment → Settings → Board → Stepped
reported e s b = record { board = b; answer = Ok (report_of (shown e s b)) }
