-- Spec 5.4, 5.5: a lent record counts by its reading, as a claim about any program that could be called a board.
-- Assumes nothing.
use Rattle.std.specs.Prelude.{◌≡◌, true, false, List}
use Rattle.rules.specs.Settings.{settings_accepted}
use Rattle.rules.specs.Samples.{Equipment}
use Rattle.rules.specs.Records.{read_as}
use Rattle.rules.specs.declared.Settings.{Settings}
use Rattle.rules.specs.declared.Board.{Board}
use Rattle.causes.specs.Calls.{Call, Program, run_of, call_accepted, Under}

pub record ReadsRecords (e : Equipment) (p : Program) : Type 0 where
  -- an accepted call answers and leaves what it does on the record as that is read
  pub steps : (b : Board) (c : Call) → call_accepted c ≡ true
      → p.step b c.settings c.slice ≡ p.step (read_as e c.settings b) c.settings c.slice
  -- a refused one leaves the record as it was lent
  pub keeps : (b : Board) (c : Call) → call_accepted c ≡ false → (p.step b c.settings c.slice).board ≡ b
  -- reading twice is reading once
  pub twice : (st : Settings) (b : Board) → read_as e st (read_as e st b) ≡ read_as e st b
  -- what calls have left, under an accepted sheet from a fresh board on, is read as it is
  pub left : (st : Settings) → settings_accepted st ≡ true → (cs : List Call) → Under st cs → read_as e st (run_of p cs).board ≡ (run_of p cs).board
