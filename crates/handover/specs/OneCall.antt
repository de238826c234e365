-- Spec 10.12: one call of `respond`, and what it wrote handed over.
-- Assumes nothing.
use Rattle.std.specs.Prelude.{◌≡◌, Bool, List, ℕ, ◌+◌, ◌-◌, ◌≤◌, length}
use Rattle.rules.specs.Samples.{Equipment}
use Rattle.program.specs.States.{is_done}
use Rattle.program.specs.Responses.{respond_of}
use Rattle.program.specs.declared.State.{State}
use Rattle.stdio.specs.Counts.{out_room}
use Rattle.stdio.specs.declared.Handed.{Handed}
use Rattle.handover.specs.declared.Spoken.{Spoken}

-- one call of `respond`, and what it wrote handed over; `few` keeps the count below 2^64
pub record Says (e : Equipment) (q : State) (block : List ℕ) (last : Bool) (before : Handed) (r : Spoken) : Type 0 where
  pub state : r.state ≡ (respond_of e q block last out_room).state
  pub taken : r.taken ≡ (respond_of e q block last out_room).state.taken - q.taken
  pub inside : r.taken ≤ length block
  pub said : r.handed.bytes ≡ before.bytes + length (respond_of e q block last out_room).text
  pub few : r.handed.bytes ≤ before.bytes + out_room
  pub done : r.done ≡ is_done r.state
