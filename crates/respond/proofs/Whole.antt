-- The answer of `respond` to a whole block.
-- Assumes nothing.
use mathlib.Core.Path.{◌≡◌, refl, sym, ap, ◌∙◌}
use mathlib.Core.Bool.{Bool, true, false, ◌||◌}
use mathlib.Core.List.{List, []}
use Prim.Native.Nat.{ℕ, ◌-◌, ◌≤◌, min}
use native.Mathlib.Decide.{dec_le}
use native.Mathlib.Omega.{arith}
use lib.Dec.{leb}
use lib.ListN.{length, take, drop, length-take}
use lib.Seq.{take_all}
use Rattle.rules.specs.Samples.{Equipment}
use Rattle.rules.specs.Transcripts.{lines_in, input_end}
use Rattle.program.specs.States.{is_done, stopped, sensible, read_state, Fit}
use Rattle.program.specs.Saying.{Said}
use Rattle.program.specs.Responses.{line_room, longest, budget, respond_of}
use Rattle.program.specs.declared.State.{State}
use Rattle.program.proofs.Fitting.{sensible-fit, fit-read}
use Rattle.program.proofs.Handling.{handled-stops}
use Rattle.program.proofs.Responding.{nothing-taken}
use Rattle.states.specs.Carrying.{begun}
use Rattle.respond.specs.Answering.{Responds}
use Rattle.tails.specs.Closed.{Closed}
use Rattle.states.specs.declared.Handled.{Handled}
use Rattle.respond.specs.declared.Responded.{Responded}
use Rattle.states.proofs.Buffers.{wrote_none}

pub wild : (e : Equipment) (q : State) (block : List ℕ) (last : Bool) (d : List ℕ) (next : State) → sensible q ≡ false → next ≡ stopped q 0
    → Responds e q block last d d (record { state = next; taken = 0; written = 0; done = true })
unfolding respond_of read_state
wild e q block last d next odd is =
    let said : respond_of e q block last (length d) ≡ record { state = stopped q 0; text = [] }
    = rw odd (handled-stops e (last || leb (budget q) (length block)) (length d) (record { state = stopped q 0; text = [] })
    (lines_in (take (budget q) block)) refl) in
    record {
      state = is ∙ sym (ap (λ (k : Said). k.state) said);
      taken = rw said (omega arith);
      written = rw said (wrote_none d 0 (omega arith));
      done = rw is;
    }

pub part-inside : (block : List ℕ) (end at : ℕ) → at ≤ length (take (end - 0) (drop 0 block)) → at ≤ length block
part-inside block end at h = omega (arith, length-take (end - 0) block)

module _ (e : Equipment) (q : State) (block : List ℕ) (last : Bool) (fine : sensible q ≡ true) where
  fit : Fit q 0
  fit = sensible-fit q fine

  pub taken-low : q.taken ≤ input_end
  taken-low = omega (arith, fit.high)

  -- the part of the block that was lent on
  part-is : (end : ℕ) → end ≡ min (budget q) (length block) → take (end - 0) block ≡ take (budget q) block
  part-is end p = by (dec_le (budget q) (length block))
    where
      by : Dec (budget q ≤ length block) → take (end - 0) block ≡ take (budget q) block
      by (yes h) =
          let n : end - 0 ≡ budget q = omega arith in ap (λ (k : ℕ). take k block) n
      by (no h) =
          let n : end - 0 ≡ length block = omega arith in
          ap (λ (k : ℕ). take k block) n ∙ take_all (length block) block (omega arith) ∙ sym (take_all (budget q) block (omega arith))

  pub fit-part : (end : ℕ) → end ≡ min (budget q) (length block) → Fit q (length (take (end - 0) (drop 0 block)))
  fit-part end p =
      let n = ap length (part-is end p) ∙ length-take (budget q) block in
      record { from_one = fit.from_one; low = fit.low; high = omega (arith, fit.high, n); sheet = fit.sheet }

  -- a call that takes nothing leaves no more than 128 bytes
  pub short-left : (d d' : List ℕ) (r : Responded) → Responds e q block last d d' r → line_room ≤ length d → r.done ≡ false → r.taken ≡ 0 → length block ≤ longest
  short-left d d' r c room going none =
      nothing-taken e q block last (length d) fit room (sym (ap is_done c.state) ∙ sym c.done ∙ going) (sym c.taken ∙ none)

  pub responds : (end : ℕ) → end ≡ min (budget q) (length block) → (ends : Bool) → ends ≡ (last || leb (budget q) (length block)) → (d d' : List ℕ) (r : Handled)
      → Closed e ends (take (end - 0) (drop 0 block)) d (begun q) d' r
      → Responds e q block last d d' (record { state = r.state; taken = r.at; written = r.written; done = leb 2 r.state.stage })
  unfolding respond_of
  responds end p ends pe d d' r c =
      let said : respond_of e q block last (length d) ≡ record { state = r.state; text = c.text }
      = rw (fit-read q 0 fit, ← pe, ← part-is end p) (c.all [] refl) in
      record {
        state = sym (ap (λ (k : Said). k.state) said);
        taken = rw said (omega (arith, c.taken));
        written = rw said c.wrote;
        done = refl;
      }
