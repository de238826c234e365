-- Spec 10.13: what `respond` answers to a block.
-- Assumes nothing.
use Rattle.std.specs.Prelude.{◌≡◌, Bool, List, ℕ, ◌-◌, length}
use Rattle.rules.specs.Samples.{Equipment}
use Rattle.buffers.specs.Written.{Wrote}
use Rattle.program.specs.States.{is_done}
use Rattle.program.specs.Responses.{respond_of}
use Rattle.program.specs.declared.State.{State}
use Rattle.respond.specs.declared.Responded.{Responded}

-- what `respond` answers to a block, with d the lent buffer and d' the buffer after it
pub record Responds (e : Equipment) (q : State) (block : List ℕ) (last : Bool) (d d' : List ℕ) (r : Responded) : Type 0 where
  pub state : r.state ≡ (respond_of e q block last (length d)).state
  pub taken : r.taken ≡ (respond_of e q block last (length d)).state.taken - q.taken
  pub written : Wrote d 0 d' r.written (respond_of e q block last (length d)).text
  pub done : r.done ≡ is_done r.state
