-- The loop of `answer`: so many calls of `respond`, and what they wrote handed over.
-- Assumes nothing.
use mathlib.Core.Path.{◌≡◌, refl, sym, ap, ◌∙◌}
use mathlib.Core.Bool.{Bool, true, false, not, ◌&&◌, false≢true}
use mathlib.Core.List.{List, [], ◌++◌, append-nil}
use Prim.Native.Nat.{ℕ, suc, ◌+◌, ◌*◌, ◌-◌, ◌≤◌}
use native.Mathlib.Omega.{arith}
use borrow.Author.Tests.{ltb-true, ltb-false, not-true}
use lib.Dec.{ltb}
use lib.ListN.{length, take, drop, length-append, length-drop}
use lib.Seq.{take_all, drop-drop}
use Rattle.std.specs.Prelude.{Option}
use Rattle.rules.specs.Samples.{Equipment}
use Rattle.rules.specs.Text.{has_feed}
use Rattle.basics.proofs.Bools.{both}
use Rattle.program.specs.States.{is_done}
use Rattle.program.specs.Saying.{Said}
use Rattle.program.specs.Responses.{longest, respond_of}
use Rattle.program.specs.Sessions.{Session, delivered}
use Rattle.program.specs.Standing.{again, called_again}
use Rattle.program.specs.declared.State.{State}
use Rattle.program.proofs.Responding.{nothing_left}
use Rattle.program.proofs.Standing.{reached-fit, standing-called}
use Rattle.handover.specs.OneCall.{Says}
use Rattle.handover.specs.declared.Spoken.{Spoken}
use Rattle.blocks.specs.Blocks.{AnswersBlock}
use Rattle.stdio.specs.Counts.{Talks, out_room}
use Rattle.stdio.specs.Moves.{Put}
use Rattle.stdio.proofs.Moving.{put-none, put-on}
use Rattle.stdio.specs.declared.Handed.{Handed}

-- the rest of a block, as it is lent
pub rest-is : (block : List ℕ) (at : ℕ) → take (length block - at) (drop at block) ≡ drop at block
rest-is block at = take_all (length block - at) (drop at block) (omega (arith, length-drop at block))

-- ---- the loop

-- a turn that goes on took some
pub took : (taken : ℕ) (more going : Bool) → more ≡ (going && ltb 0 taken) → more ≡ true → (going ≡ true) × (1 ≤ taken)
took taken more going e t =
    let z = both going (ltb 0 taken) (sym e ∙ t) in (z.0, omega (arith, ltb-true 0 taken z.1))

module _ (e : Equipment) (q : State) (block : List ℕ) (last : Bool) (before : Handed) (old : Option (List ℕ)) where
  -- where the loop stands, with `new` what the writer states to hold
  pub record Going (new : Option (List ℕ)) (state : State) (at : ℕ) (handed : Handed) (going more : Bool) : Type 0 where
    pub calls : ℕ
    pub text : List ℕ
    pub is : called_again e last out_room calls (record { state = q; left = block; text = [] }) ≡ record { state = state; left = drop at block; text = text }
    pub inside : at ≤ length block
    pub counted : handed.bytes ≡ before.bytes + length text
    pub put : Put handed.put old new text
    pub few : handed.bytes ≤ before.bytes + out_room * (at + 1)
    pub fewer : more ≡ true → handed.bytes ≤ before.bytes + out_room * at
    pub well : more ≡ true → handed.put ≡ true
    pub waits : more ≡ false → going ≡ true
        → (handed.put ≡ true) × (last ≡ false) × (has_feed (drop at block) ≡ false) × (length (drop at block) ≤ longest)
    pub stops : more ≡ false → going ≡ false → handed.put ≡ true → is_done state ≡ true

  pub first : before.put ≡ true → Going old q 0 before true true
  unfolding called_again
  first p =
      record {
        calls = 0;
        text = [];
        is = refl;
        inside = omega arith;
        counted = omega arith;
        put = put-none;
        few = omega arith;
        fewer = λ m. omega arith;
        well = λ m. p;
        waits = λ m. absurd (false≢true (sym m));
        stops = λ m. absurd (false≢true (sym m));
      }

  module _ (talks : Talks e last q block before) {new : Option (List ℕ)} {state : State} {at : ℕ} {handed : Handed} {going more : Bool}
      (g : Going new state at handed going more) (m : more ≡ true) (part : List ℕ) (p : part ≡ drop at block) where
    -- where the session stands
    pub talks-here : Talks e last state part handed
    talks-here =
        let here : Session = record { state = state; left = drop at block; text = g.text } in
        record { stands = rw (p, g.counted) (standing-called e out_room g.calls here talks.stands g.is); well = g.well m }

    -- ---- one call more

    module _ (r : Spoken) (c : Says e state part last handed r) where
      abbrev said : Said
      said = respond_of e state part last out_room

      -- the session after the call
      next-is : called_again e last out_room (suc g.calls) (record { state = q; left = block; text = [] })
          ≡ record { state = r.state; left = drop (at + r.taken) block; text = g.text ++ said.text }
      unfolding called_again
      next-is =
          let whole : drop at block ++ [] ≡ part = append-nil (drop at block) ∙ sym p in
          ap (λ (k : Session). delivered e last k (again out_room)) g.is
          ∙ ap (λ (l : List ℕ). record {
            state = (respond_of e state l last out_room).state;
            left = drop ((respond_of e state l last out_room).state.taken - state.taken) l;
            text = g.text ++ (respond_of e state l last out_room).text;
          }) whole
          ∙ ap (λ (m : ℕ). record { state = said.state; left = drop m part; text = g.text ++ said.text }) (sym c.taken)
          ∙ ap (λ (l : List ℕ). record { state = said.state; left = l; text = g.text ++ said.text })
          (ap (drop r.taken) p ∙ drop-drop r.taken at block)
          ∙ ap (λ (k : State). record { state = k; left = drop (at + r.taken) block; text = g.text ++ said.text }) (sym c.state)

      module _ (g' m' : Bool) (goes : g' ≡ (r.handed.put && not r.done)) (turns : m' ≡ (g' && ltb 0 r.taken)) where
        on : g' ≡ true → (r.handed.put ≡ true) × (r.done ≡ false)
        on t =
            let z = both r.handed.put (not r.done) (sym goes ∙ t) in (z.0, not-true r.done z.1)

        none-taken : m' ≡ false → g' ≡ true → r.taken ≡ 0
        none-taken t w = by (ltb 0 r.taken) refl
          where
            by : (b : Bool) → ltb 0 r.taken ≡ b → r.taken ≡ 0
            by true x = absurd (false≢true (sym t ∙ turns ∙ rw (w, x) refl))
            by false x = omega (arith, ltb-false 0 r.taken x)

        all_done : g' ≡ false → r.handed.put ≡ true → is_done r.state ≡ true
        all_done t w = sym c.done ∙ by r.done refl
          where
            by : (b : Bool) → r.done ≡ b → b ≡ true
            by true x = refl
            by false x = absurd (false≢true (sym t ∙ goes ∙ rw (w, x) refl))

        waiting : m' ≡ false → g' ≡ true
            → (r.handed.put ≡ true) × (last ≡ false) × (has_feed (drop (at + r.taken) block) ≡ false) × (length (drop (at + r.taken) block) ≤ longest)
        waiting t w =
            let none = none-taken t w in
            let undone : is_done said.state ≡ false = sym (ap is_done c.state) ∙ sym c.done ∙ (on w).1 in
            let fit = reached-fit e talks-here.stands.reached in
            let left = nothing_left e state part last out_room fit (omega arith) undone (sym c.taken ∙ none) in
            let here : part ≡ drop (at + r.taken) block = p ∙ ap (λ (m : ℕ). drop m block) (stays none) in
            ((on w).0, left.0, ap has_feed (sym here) ∙ left.1, omega (arith, ap length here, left.2))
          where
            stays : r.taken ≡ 0 → at ≡ at + r.taken
            stays z = omega arith

        pub next : {new' : Option (List ℕ)} → Put r.handed.put new new' said.text → Going new' r.state (at + r.taken) r.handed g' m'
        next put =
            let short : length part ≡ length block - at = ap length p ∙ length-drop at block in
            let was = g.fewer m in
            record {
              calls = suc g.calls;
              text = g.text ++ said.text;
              is = next-is;
              inside = omega (arith, g.inside, c.inside);
              counted = omega (arith, g.counted, length-append g.text said.text, c.said);
              put = put-on g.put (g.well m) put;
              few = omega (arith, c.few);
              fewer = λ t. omega (arith, c.few, took r.taken m' g' turns t);
              well = λ t. (on (took r.taken m' g' turns t).0).0;
              waits = waiting;
              stops = λ t. all_done;
            }

  -- ---- the end of the loop

  pub answers : {new : Option (List ℕ)} {state : State} {at : ℕ} {handed : Handed} {going more : Bool} → more ≡ false → Going new state at handed going more
      → AnswersBlock e q block last before old new (record { state = state; at = at; handed = handed; going = going })
  answers m g =
      record {
        calls = g.calls;
        text = g.text;
        is = g.is;
        inside = g.inside;
        said = g.counted;
        put = g.put;
        few = g.few;
        well = λ w. (g.waits m w).0;
        coming = λ w. (g.waits m w).1;
        unfed = λ w. (g.waits m w).2;
        short = λ w. (g.waits m w).3;
        stops = g.stops m;
      }
