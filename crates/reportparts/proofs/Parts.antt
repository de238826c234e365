-- The parts of a report line: how long its begin is at the most, and what stands where there is no event.
-- Assumes nothing.
use mathlib.Core.Path.{◌≡◌}
use Prim.Native.Nat.{ℕ, ◌≤◌}
use native.Mathlib.Omega.{arith}
use lib.ListN.{length, length-append}
use Rattle.rules.specs.Text.{bytes, decimal, signed_decimal, digits_before}
use Rattle.rules.specs.Transcripts.{spaced}
use Rattle.rules.specs.declared.Report.{Report}
use Rattle.pieces.proofs.Lengths.{word-length, bits-length}
use Rattle.reportparts.specs.Parts.{report_head, head_room, event_numbers}

pub head-length : (r : Report) → length (report_head r) ≤ head_room
unfolding report_head
head-length r = simp length-append (omega (arith, word-length r.status, bits-length 9 r.bits))

-- side and held power of no event
pub calm-event : (side held : ℕ) → side ≡ 0 → held ≡ 0 → event_numbers side held ≡ bytes " 0 0"
unfolding event_numbers spaced signed_decimal decimal digits_before
calm-event side held no-side no-power = rw (no-side, no-power)
