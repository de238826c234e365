-- The parts of `handle` put together.
-- Assumes nothing.
use mathlib.Core.Path.{◌≡◌, ap, ◌∙◌, subst}
use mathlib.Core.Bool.{Bool, true, false}
use mathlib.Core.List.{List, [], ◌∷◌, ◌++◌, append_assoc, append-nil}
use Prim.Native.Nat.{ℕ, ◌-◌, ◌≤◌, ◌<◌}
use native.Mathlib.Decide.{dec_le}
use native.Mathlib.Omega.{arith}
use borrow.Author.Tests.{leb-false, eq-eqb}
use lib.ListN.{length, drop, length-append}
use Rattle.rules.specs.Samples.{Equipment}
use Rattle.rules.specs.Text.{has_feed}
use Rattle.rules.specs.Transcripts.{lines_in}
use Rattle.buffers.specs.Written.{Wrote}
use Rattle.buffers.proofs.Writing.{and_then}
use Rattle.program.specs.States.{reads_sheet, Fit}
use Rattle.program.specs.Saying.{Said}
use Rattle.program.specs.Responses.{line_room, handled}
use Rattle.program.specs.declared.State.{State}
use Rattle.states.specs.Carrying.{check_text, begun, Carried, Stuck}
use Rattle.sheetlines.specs.SheetSaid.{SheetSaid}
use Rattle.tails.specs.Closed.{Closed}
use Rattle.states.specs.declared.Handled.{Handled}
use Rattle.sheetlines.specs.declared.SheetLines.{SheetLines}
use Rattle.states.proofs.Buffers.{wrote_none, wrote-length}

-- ---- the sheet's lines, written

pub sheet-carried : (e : Equipment) (q : State) (s d d' : List ℕ) (r : SheetLines) (w : ℕ) → SheetSaid q s r → line_room ≤ length d
    → Wrote d 0 d' w (check_text r.check)
    → Carried e s d (begun q) d' (record { state = r.state; at = r.at; written = w })
sheet-carried e q s d d' r w said room wrote =
    record { stands = said.stands; text = check_text r.check; wrote = wrote; same = same }
  where
    same : (before : List ℕ) → length before ≡ 0 → (ends : Bool)
        → handled e ends (length d) (record { state = q; text = before }) (lines_in s)
        ≡ handled e ends (length d) (record { state = r.state; text = before ++ check_text r.check }) (lines_in (drop r.at s))
    same [] l ends = said.same e (length d) room ends
    same (b ∷ before) l ends = absurd (omega arith)

-- ---- nothing of the samples yet

pub not-samples : (e : Equipment) (s d : List ℕ) (h : Handled) → h.at ≤ length s → h.written ≤ length d → Fit h.state (length s - h.at)
    → (reads_sheet h.state ≡ true → has_feed (drop h.at s) ≡ false) → (h.state.stage ≡ 1 → ⊥) → Carried e s d h d h × Stuck s d h
not-samples e s d h inside room fit waiting other = (
  record {
    stands = record { later = omega arith; inside = inside; taken = omega arith; fit = fit };
    text = [];
    wrote = wrote_none d h.written room;
    same = λ before l ends. rw (append-nil before);
  },
  λ busy free. waiting (eq-eqb h.state.stage 0 (low (leb-false 2 h.state.stage busy))),
)
  where
    low : h.state.stage < 2 → h.state.stage ≡ 0
    low p = by (dec_le h.state.stage 0)
      where
        by : Dec (h.state.stage ≤ 0) → h.state.stage ≡ 0
        by (yes z) = omega arith
        by (no z) = absurd (other (omega arith))

-- ---- one part after the other

-- what is said from a state on, after a text
abbrev saying_on : Equipment → Bool → ℕ → List ℕ → Handled → List ℕ → Said
saying_on e ends size s a text = handled e ends size (record { state = a.state; text = text }) (lines_in (drop a.at s))

module _ (e : Equipment) (s d d₁ d₂ : List ℕ) (h a : Handled) (first : Carried e s d h d₁ a) where
  same_size : length d₁ ≡ length d
  same_size = wrote-length first.wrote

  longer : (before : List ℕ) → length before ≡ h.written → length (before ++ first.text) ≡ a.written
  longer before l = omega (arith, length-append before first.text, first.wrote.after)

  pub carried-then : (b : Handled) → Carried e s d₁ a d₂ b → Carried e s d h d₂ b
  carried-then b second =
      let t = first.stands in
      let u = second.stands in
      record {
        stands = record {
          later = omega (arith, t.later, u.later);
          inside = u.inside;
          taken = omega (arith, t.taken, u.taken, t.later, u.later);
          fit = u.fit;
        };
        text = first.text ++ second.text;
        wrote = and_then first.wrote second.wrote;
        same = λ before l ends.
            let said = before ++ first.text in
            first.same before l ends
            ∙ subst (λ (n : ℕ). saying_on e ends n s a said ≡ saying_on e ends n s b (said ++ second.text)) same_size (second.same said (longer before l) ends)
            ∙ ap (saying_on e ends (length d) s b) (append_assoc before first.text second.text);
      }

  pub closed-then : (ends : Bool) (r : Handled) → Closed e ends s d₁ a d₂ r → Closed e ends s d h d₂ r
  closed-then ends r second =
      let t = first.stands in
      record {
        later = omega (arith, t.later, second.later);
        inside = second.inside;
        taken = omega (arith, t.taken, second.taken, t.later, second.later);
        text = first.text ++ second.text;
        wrote = and_then first.wrote second.wrote;
        all = λ before l.
            let said = before ++ first.text in
            let after : Said = record { state = r.state; text = said ++ second.text } in
            first.same before l ends
            ∙ subst (λ (n : ℕ). saying_on e ends n s a said ≡ after) same_size (second.all said (longer before l))
            ∙ ap (λ (t : List ℕ). record { state = r.state; text = t }) (append_assoc before first.text second.text);
      }
