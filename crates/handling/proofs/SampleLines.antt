-- The sample lines of a block: one line more.
-- Assumes nothing.
use mathlib.Core.Path.{◌≡◌, refl, sym, ap, ap₂, ◌∙◌, subst}
use mathlib.Core.Bool.{Bool, true, false, cond, false≢true}
use mathlib.Core.List.{List, [], ◌++◌, append_assoc, append-nil}
use mathlib.Core.Option.{Option, none, some}
use Prim.Native.Nat.{ℕ, ◌+◌, ◌-◌, ◌≤◌, ◌<◌}
use native.Mathlib.Omega.{arith}
use borrow.Author.Tests.{le-ltb}
use lib.IntN.{ℤ}
use lib.ListN.{length, length-append, drop}
use Rattle.rules.specs.Samples.{Equipment}
use Rattle.rules.specs.Text.{first_line, has_feed}
use Rattle.rules.specs.Forms.{sample_form}
use Rattle.rules.specs.Transcripts.{lines_in, answer_line, on_sample_numbers}
use Rattle.rules.specs.declared.Board.{Board}
use Rattle.rules.specs.declared.Stepped.{Stepped}
use Rattle.buffers.specs.Written.{Wrote}
use Rattle.buffers.proofs.Writing.{and_then}
use Rattle.program.specs.States.{Fit}
use Rattle.program.specs.Saying.{Said, line_numbers, said}
use Rattle.program.specs.Responses.{line_room, handled}
use Rattle.program.specs.declared.State.{State}
use Rattle.program.proofs.Saying.{said-sample}
use Rattle.program.proofs.Handling.{handled-fed}
use Rattle.sampleline.specs.SampleLines.{line_with, line_from, line_answer}
use Rattle.std.specs.Prelude.{Some, None, is_some, unwrap_or}
use Rattle.std.specs.declared.option.Option.{Option as RustOption}
use Rattle.states.specs.Carrying.{Stands, Carried, Stuck}
use Rattle.sampleline.specs.declared.LineAt.{LineAt}
use Rattle.states.specs.declared.Handled.{Handled}
use Rattle.states.proofs.Buffers.{wrote_none, wrote-length}
use Rattle.states.proofs.Places.{after-place, next-stands}

-- ---- the loop's invariant

-- the state while samples are read, from h on
abbrev pub sampled : Handled → Board → ℕ → Bool → ℕ → State
sampled h b n overlong at =
    record { stage = 1; line = n; overlong = overlong; taken = h.state.taken + (at - h.at); settings = h.state.settings; board = b }

abbrev pub here : Handled → Board → ℕ → Bool → ℕ → ℕ → Handled
here h b n overlong at w = record { state = sampled h b n overlong at; at = at; written = w }

sampled-self : (h : Handled) → h.state.stage ≡ 1 → sampled h h.state.board h.state.line h.state.overlong h.at ≡ h.state
sampled-self h p =
    let q = h.state in
    let z : q.taken + (h.at - h.at) ≡ q.taken = omega arith in
    ap₂ (λ (a b : ℕ). record { stage = a; line = q.line; overlong = q.overlong; taken = b; settings = q.settings; board = q.board }) (sym p) z

pub beginning : (e : Equipment) (s d : List ℕ) (h : Handled) → h.state.stage ≡ 1 → Fit h.state (length s - h.at) → h.at ≤ length s → h.written ≤ length d
    → Carried e s d h d (here h h.state.board h.state.line h.state.overlong h.at h.written)
beginning e s d h p fit inside room =
    record {
      stands = rw (sampled-self h p) (record { later = omega arith; inside = inside; taken = omega arith; fit = fit });
      text = [];
      wrote = wrote_none d h.written room;
      same = λ before l ends. rw (sampled-self h p, append-nil before);
    }

module _ (e : Equipment) (s d : List ℕ) (h : Handled) (d' : List ℕ) (b : Board) (n : ℕ) (overlong : Bool) (at w : ℕ)
    (c : Carried e s d h d' (here h b n overlong at w)) where
  abbrev line : List ℕ
  line = first_line (drop at s)

  abbrev q : State
  q = sampled h b n overlong at

  -- no room for a line more
  pub stops_full : length d' - w < line_room → Stuck s d (here h b n overlong at w)
  stops_full full = λ busy room. absurd (omega (arith, wrote-length c.wrote))

  -- no line more
  pub stops_open : None ≡ line_from overlong (drop at s) at → Stuck s d (here h b n overlong at w)
  unfolding line_from
  stops_open is = λ busy room. by (has_feed (drop at s)) (ap is_some is)
    where
      by : (f : Bool) → false ≡ is_some (cond f (Some (line_with (at + length line + 1) (line_numbers overlong sample_form line))) None) → f ≡ false
      by false p = refl
      by true p = absurd (false≢true p)

  module _ (x : LineAt) (is : Some x ≡ line_from overlong (drop at s) at) (room : line_room ≤ length d' - w) where
    fed : has_feed (drop at s) ≡ true
    unfolding line_from
    fed = by (has_feed (drop at s)) (ap is_some is)
      where
        by : (f : Bool) → true ≡ is_some (cond f (Some (line_with (at + length line + 1) (line_numbers overlong sample_form line))) None) → f ≡ true
        by true p = refl
        by false p = absurd (false≢true (sym p))

    line-is : x ≡ line_with (at + length line + 1) (line_numbers overlong sample_form line)
    unfolding line_from
    line-is =
        let e : Some x ≡ Some (line_with (at + length line + 1) (line_numbers overlong sample_form line)) = is ∙ rw fed in
        ap (λ (o : RustOption LineAt). unwrap_or o x) e

    pub next-is : x.next ≡ at + length line + 1
    next-is = ap (λ (k : LineAt). k.next) line-is ∙ by (line_numbers overlong sample_form line)
      where
        by : (o : Option (List ℤ)) → (line_with (at + length line + 1) o).next ≡ at + length line + 1
        by none = refl
        by (some ns) = refl

    answer-is : on_sample_numbers e h.state.settings b (line_numbers overlong sample_form line) ≡ line_answer e b h.state.settings x
    answer-is = rw line-is (by (line_numbers overlong sample_form line))
      where
        by : (o : Option (List ℤ)) → on_sample_numbers e h.state.settings b o ≡ line_answer e b h.state.settings (line_with (at + length line + 1) o)
        by none = refl
        by (some ns) = refl

    module _ (r : Stepped) (step : r ≡ line_answer e b h.state.settings x) where
      said-is : said e q line ≡ record { state = sampled h r.board (n + 1) false x.next; text = answer_line n r.answer }
      said-is =
          let t : h.state.taken + (at - h.at) + (length line + 1) ≡ h.state.taken + (x.next - h.at) = omega (arith, next-is, c.stands.later) in
          said-sample e q line refl refl ∙ rw (answer-is, ← step, t)

      pub goes_on : (d'' : List ℕ) (w' : ℕ) → Wrote d' w d'' w' (answer_line n r.answer) → Carried e s d h d'' (here h r.board (n + 1) false x.next w')
      goes_on d'' w' wrote =
          record {
            stands = stands;
            text = c.text ++ answer_line n r.answer;
            wrote = and_then c.wrote wrote;
            same = λ before l ends. c.same before l ends ∙ same_line before l ends;
          }
        where
          stands : Stands s h.state h.at (sampled h r.board (n + 1) false x.next) x.next
          stands =
              subst (Stands s h.state h.at (sampled h r.board (n + 1) false x.next)) (sym next-is)
              (subst (λ (k : State). Stands s h.state h.at k (at + length line + 1)) (ap (λ (k : Said). k.state) said-is)
              (next-stands e s h.state q h.at at fed refl c.stands))

          same_line : (before : List ℕ) → length before ≡ h.written → (ends : Bool)
              → handled e ends (length d) (record { state = q; text = before ++ c.text }) (lines_in (drop at s))
              ≡ handled e ends (length d)
              (record { state = sampled h r.board (n + 1) false x.next; text = before ++ (c.text ++ answer_line n r.answer) })
              (lines_in (drop x.next s))
          same_line before l ends =
              let size : length (before ++ c.text) + line_room ≤ length d
              = omega (arith, length-append before c.text, c.wrote.after, room, wrote-length c.wrote) in
              handled-fed e ends (length d) (record { state = q; text = before ++ c.text }) (drop at s) fed
              ∙ rw (
                le-ltb (length d) (length (before ++ c.text) + line_room) size,
                said-is,
                after-place s at fed,
                ← next-is,
                append_assoc before c.text (answer_line n r.answer),
              )
