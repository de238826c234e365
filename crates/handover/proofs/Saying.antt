-- One call of `respond`: what it wrote is what is lent to the writing.
-- Assumes nothing.
use mathlib.Core.Path.{◌≡◌, ap, ◌∙◌, subst}
use mathlib.Core.Bool.{Bool}
use mathlib.Core.List.{List}
use Prim.Native.Nat.{ℕ, ◌+◌, ◌-◌, ◌≤◌}
use native.Mathlib.Omega.{arith}
use lib.ListN.{length, take, drop}
use lib.Seq.{take_at}
use Rattle.rules.specs.Samples.{Equipment}
use Rattle.buffers.specs.Written.{written, Wrote}
use Rattle.program.specs.Saying.{Said}
use Rattle.program.specs.Responses.{respond_of}
use Rattle.program.specs.declared.State.{State}
use Rattle.respond.specs.Answering.{Responds}
use Rattle.respond.specs.declared.Responded.{Responded}
use Rattle.handover.specs.OneCall.{Says}
use Rattle.stdio.specs.Counts.{Tells, Talks, Due, out_room}
use Rattle.stdio.specs.declared.Input.{Input}
use Rattle.stdio.specs.declared.Handed.{Handed}

-- what was written stands at the buffer's front, as it is lent
front-is : {d d' x : List ℕ} {n : ℕ} → Wrote d 0 d' n x → take (n - 0) d' ≡ x
unfolding written
front-is {d} {d'} {x} {n} w = ap (take (n - 0)) w.bytes ∙ take_at x (drop (0 + length x) d) (n - 0) (omega (arith, w.after))

pub lent_length : {d d' x : List ℕ} {n : ℕ} → Wrote d 0 d' n x → length (take (n - 0) d') ≡ n
lent_length w = omega (arith, ap length (front-is w), w.after)

pub says : (e : Equipment) (q : State) (block : List ℕ) (last : Bool) (before : Handed) (d d' : List ℕ) → length d ≡ out_room
    → (r : Responded) → Responds e q block last d d' r → r.taken ≤ length block → r.written ≤ length d
    → (h : Handed) → h.bytes ≡ before.bytes + length (take (r.written - 0) d')
    → Says e q block last before (record { state = r.state; taken = r.taken; handed = h; done = r.done })
says e q block last before d d' n r c inside most h adds =
    let size = ap (respond_of e q block last) n in
    let lent = lent_length c.written in
    record {
      state = c.state ∙ ap (λ (k : Said). k.state) size;
      taken = c.taken ∙ ap (λ (k : Said). k.state.taken - q.taken) size;
      inside = inside;
      said = omega (arith, c.written.after, ap (λ (k : Said). length k.text) size);
      few = omega arith;
      done = c.done;
    }

-- what is lent is what `respond` says with a buffer of this size
pub lent_is : (e : Equipment) (q : State) (block : List ℕ) (last : Bool) (d d' : List ℕ) → length d ≡ out_room
    → (r : Responded) → Responds e q block last d d' r → take (r.written - 0) d' ≡ (respond_of e q block last out_room).text
lent_is e q block last d d' n r c = front-is c.written ∙ ap (λ (k : ℕ). (respond_of e q block last k).text) n

pub due : (e : Equipment) (q : State) (block : List ℕ) (last : Bool) (before : Handed) (d d' : List ℕ) → length d ≡ out_room
    → (r : Responded) → Responds e q block last d d' r → Talks e last q block before → (input : Input) → Tells input last
    → Due e q block input before (take (r.written - 0) d')
due e q block last before d d' n r c talks input told =
    record {
      well = told.well;
      talks = subst (λ (b : Bool). Talks e b q block before) told.is talks;
      is = lent_is e q block last d d' n r c ∙ ap (λ (b : Bool). (respond_of e q block b out_room).text) told.is;
    }
