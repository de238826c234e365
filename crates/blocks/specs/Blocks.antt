-- Spec 10.12, 10.13: the answers to a block, handed over.
-- Assumes nothing.
use Rattle.std.specs.Prelude.{◌≡◌, Bool, true, false, List, [], ℕ, ◌+◌, ◌*◌, ◌≤◌, length, drop, Option}
use Rattle.rules.specs.Samples.{Equipment}
use Rattle.rules.specs.Text.{has_feed}
use Rattle.program.specs.States.{is_done}
use Rattle.program.specs.Responses.{longest}
use Rattle.program.specs.Standing.{called_again}
use Rattle.program.specs.declared.State.{State}
use Rattle.stdio.specs.Counts.{out_room}
use Rattle.stdio.specs.Moves.{Put}
use Rattle.stdio.specs.declared.Handed.{Handed}
use Rattle.blocks.specs.declared.Answered.{Answered}

-- with `old` and `new` the bytes that the writer states to hold, before and after
pub record AnswersBlock (e : Equipment) (q : State) (block : List ℕ) (last : Bool) (before : Handed) (old new : Option (List ℕ)) (r : Answered) : Type 0 where
  -- the state, what is left of the block and what was said are those of so many calls of `respond`, and what was said is handed over
  pub calls : ℕ
  pub text : List ℕ
  pub is : called_again e last out_room calls (record { state = q; left = block; text = [] }) ≡ record { state = r.state; left = drop r.at block; text = text }
  pub said : r.handed.bytes ≡ before.bytes + length text
  pub put : Put r.handed.put old new text
  pub inside : r.at ≤ length block
  pub few : r.handed.bytes ≤ before.bytes + out_room * (r.at + 1)
  -- where there is more to do: no write failed, the input has not ended, every whole line is answered, and no more than 128 bytes wait
  pub well : r.going ≡ true → r.handed.put ≡ true
  pub coming : r.going ≡ true → last ≡ false
  pub unfed : r.going ≡ true → has_feed (drop r.at block) ≡ false
  pub short : r.going ≡ true → length (drop r.at block) ≤ longest
  -- where there is not: a write failed, or all is done
  pub stops : r.going ≡ false → r.handed.put ≡ true → is_done r.state ≡ true
