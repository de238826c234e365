-- Spec 10.13: what the sheet's lines of a block say.
-- Assumes nothing.
use Rattle.std.specs.Prelude.{◌≡◌, Bool, true, false, List, [], ℕ, ◌≤◌, drop}
use Rattle.rules.specs.Samples.{Equipment}
use Rattle.rules.specs.Text.{has_feed}
use Rattle.rules.specs.Transcripts.{lines_in}
use Rattle.program.specs.States.{reads_sheet}
use Rattle.program.specs.Responses.{line_room, handled}
use Rattle.program.specs.declared.State.{State}
use Rattle.sheetlines.specs.declared.SheetLines.{SheetLines}
use Rattle.states.specs.Carrying.{check_text, Stands}

-- the sheet's lines of a block, from its beginning, where nothing was said before; they are the same for every equipment
pub record SheetSaid (q : State) (s : List ℕ) (r : SheetLines) : Type 0 where
  pub stands : Stands s q 0 r.state r.at
  pub same : (e : Equipment) (size : ℕ) → line_room ≤ size → (ends : Bool)
      → handled e ends size (record { state = q; text = [] }) (lines_in s)
      ≡ handled e ends size (record { state = r.state; text = check_text r.check }) (lines_in (drop r.at s))
  pub stuck : reads_sheet r.state ≡ true → has_feed (drop r.at s) ≡ false
