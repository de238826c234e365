-- What stands after the last line feed of a block.
-- Assumes nothing.
use mathlib.Core.Path.{◌≡◌, refl, sym, ap, ◌∙◌}
use mathlib.Core.Bool.{Bool, true, false, cond, ◌||◌}
use mathlib.Core.List.{List, [], ◌∷◌, append-nil}
use Prim.Native.Nat.{ℕ, ◌+◌, ◌-◌, ◌≤◌, ◌<◌}
use native.Mathlib.Omega.{arith}
use borrow.Author.Tests.{lt-ltb, le-ltb, le-leb, lt-leb, ne_eqb}
use lib.Dec.{ltb}
use lib.ListN.{length, drop, length-drop}
use Rattle.rules.specs.Samples.{Equipment}
use Rattle.rules.specs.Refusals.{refusal_number}
use Rattle.rules.specs.Transcripts.{lines_in, refused_line}
use Rattle.rules.specs.declared.Refusal.TheVariants.{Form, Sample}
use Rattle.buffers.specs.Written.{Wrote}
use Rattle.program.specs.States.{is_done, stopped, dropping}
use Rattle.program.specs.Saying.{is_some, end_text}
use Rattle.program.specs.Responses.{longest, line_room, at_tail, handled}
use Rattle.program.specs.declared.State.{State}
use Rattle.program.proofs.Saying.{done_end, end-at-sheet, end-at-samples}
use Rattle.program.proofs.Handling.{handled-unfed, handled-stops}
use Rattle.states.specs.Carrying.{Stuck}
use Rattle.tails.specs.Closed.{Closed}
use Rattle.states.specs.declared.Handled.{Handled}
use Rattle.states.proofs.Buffers.{wrote_none}

-- ---- the text at the input's end

module _ (q : State) (l : List ℕ) where
  pub end-sheet : q.stage ≡ 0 → refused_line (refusal_number Form) q.line ≡ end_text q l
  end-sheet p = sym (end-at-sheet q l (rw p) (rw p))

  pub end-done : 2 ≤ q.stage → [] ≡ end_text q l
  end-done p = sym (done_end q l (le-leb 2 q.stage p))

  some_is : is_some l ≡ ltb 0 (length l)
  some_is = by l
    where
      by : (k : List ℕ) → is_some k ≡ ltb 0 (length k)
      by [] = refl
      by (b ∷ k) = sym (lt-ltb 0 (length (b ∷ k)) (omega arith))

  module _ (other : q.stage ≡ 0 → ⊥) (low : q.stage < 2) where
    end_by : (b : Bool) → (q.overlong || ltb 0 (length l)) ≡ b → cond b (refused_line (refusal_number Sample) q.line) [] ≡ end_text q l
    end_by b e = sym (end-at-samples q l (lt-leb 2 q.stage low) (ne_eqb q.stage 0 other) ∙ rw (some_is, e))

    pub end-sample : (q.overlong || ltb 0 (length l)) ≡ true → refused_line (refusal_number Sample) q.line ≡ end_text q l
    end-sample e = end_by true e

    pub end_none : (q.overlong || ltb 0 (length l)) ≡ false → [] ≡ end_text q l
    end_none e = end_by false e

-- ---- the tail

module _ (e : Equipment) (ends : Bool) (s d : List ℕ) (h : Handled) (inside : h.at ≤ length s) (full : h.written ≤ length d) where
  stays : ((before : List ℕ) → length before ≡ h.written
      → handled e ends (length d) (record { state = h.state; text = before }) (lines_in (drop h.at s)) ≡ record { state = h.state; text = before })
      → Closed e ends s d h d h
  stays f =
      record {
        later = omega arith;
        inside = inside;
        taken = omega arith;
        text = [];
        wrote = wrote_none d h.written full;
        all = λ before l. f before l ∙ ap (λ (t : List ℕ). record { state = h.state; text = t }) (sym (append-nil before));
      }

  pub done-stays : 2 ≤ h.state.stage → Closed e ends s d h d h
  done-stays p =
      stays (λ before l. handled-stops e ends (length d) (record { state = h.state; text = before }) (lines_in (drop h.at s)) (rw (le-leb 2 h.state.stage p)))

  or-true : (a : Bool) → (a || true) ≡ true
  or-true true = refl
  or-true false = refl

  pub full-stays : length d < h.written + line_room → Closed e ends s d h d h
  full-stays p =
      stays (λ before l.
      handled-stops e ends (length d) (record { state = h.state; text = before }) (lines_in (drop h.at s))
      (rw (lt-ltb (length d) (length before + line_room) (omega arith)) (or-true (is_done h.state))))

  module _ (low : h.state.stage < 2) (free : h.written + line_room ≤ length d) (stuck : Stuck s d h) where
    going : is_done h.state ≡ false
    going = lt-leb 2 h.state.stage low

    abbrev rest : List ℕ
    rest = drop h.at s

    tail-is : (before : List ℕ) → length before ≡ h.written
        → handled e ends (length d) (record { state = h.state; text = before }) (lines_in rest) ≡ at_tail ends (record { state = h.state; text = before }) rest
    tail-is before l =
        handled-unfed e ends (length d) (record { state = h.state; text = before }) rest (stuck going free)
        ∙ rw (going, le-ltb (length d) (length before + line_room) (omega arith))

    rest-length : length rest ≡ length s - h.at
    rest-length = length-drop h.at s

    pub closes : ends ≡ true → (d' : List ℕ) (w' : ℕ) → ((l : List ℕ) → length l ≡ length s - h.at → Wrote d h.written d' w' (end_text h.state l))
        → (next : State) → next ≡ stopped h.state (length s - h.at)
        → Closed e ends s d h d' (record { state = next; at = length s; written = w' })
    closes p d' w' wrote next is =
        record {
          later = inside;
          inside = omega arith;
          taken = ap (λ (k : State). k.taken) is;
          text = end_text h.state rest;
          wrote = wrote rest rest-length;
          all = λ before l. tail-is before l ∙ rw (p, is, rest-length);
        }

    pub drops : ends ≡ false → (h.state.overlong || ltb longest (length s - h.at)) ≡ true → (next : State) → next ≡ dropping h.state (length s - h.at)
        → Closed e ends s d h d (record { state = next; at = length s; written = h.written })
    drops p overlong next is =
        record {
          later = inside;
          inside = omega arith;
          taken = ap (λ (k : State). k.taken) is;
          text = [];
          wrote = wrote_none d h.written full;
          all = λ before l. tail-is before l ∙ rw (p, rest-length, overlong, is, append-nil before);
        }

    pub waits : ends ≡ false → (h.state.overlong || ltb longest (length s - h.at)) ≡ false → Closed e ends s d h d h
    waits p short = stays (λ before l. tail-is before l ∙ rw (p, rest-length, short))
