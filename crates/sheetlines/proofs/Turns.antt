-- The sheet's lines of a block: one line more.
-- Assumes nothing.
use Rattle.std.specs.Prelude.{Ok, Err, is_err}
use mathlib.Core.Path.{◌≡◌, refl, sym, ap, ◌∙◌, subst}
use mathlib.Core.Bool.{Bool, true, false, false≢true}
use mathlib.Core.List.{List, []}
use Prim.Native.Nat.{ℕ, ◌+◌, ◌-◌, ◌≤◌, ◌<◌}
use native.Mathlib.Omega.{arith}
use borrow.Author.Tests.{lt-ltb, le-ltb, eq-eqb, eqb-true}
use lib.Dec.{ltb, leb}
use lib.ListN.{length, take, drop, length-drop}
use lib.Seq.{drop-drop}
use Rattle.rules.specs.Samples.{Equipment}
use Rattle.rules.specs.Regions.{our_equipment}
use Rattle.rules.specs.Text.{first_line, has_feed, after_line}
use Rattle.rules.specs.Transcripts.{lines_in}
use Rattle.rules.specs.declared.Refusal.{Refusal}
use Rattle.rules.specs.Answers.{SettingsCheck, settings_refused}
use Rattle.text.proofs.Lines.{line-take, line_after, line-ended}
use Rattle.program.specs.States.{is_done, Fit}
use Rattle.program.specs.Saying.{Said, sheet_line, said}
use Rattle.program.specs.Responses.{line_room, handled}
use Rattle.program.specs.declared.State.{State}
use Rattle.program.proofs.Fitting.{fit-said}
use Rattle.program.proofs.Saying.{said-taken, said-sheet}
use Rattle.program.proofs.Handling.{handled-fed}
use Rattle.states.specs.Carrying.{check_text, Stands}
use Rattle.sheetlines.specs.SheetSaid.{SheetSaid}
use Rattle.states.proofs.Places.{after-place, next-stands}

-- ---- the loop's invariant: nothing is written yet, and what is said from here on is what was to be said

pub record Going (q : State) (s : List ℕ) (state : State) (at : ℕ) : Type 0 where
  pub stands : Stands s q 0 state at
  pub same : (e : Equipment) (size : ℕ) → line_room ≤ size → (ends : Bool)
      → handled e ends size (record { state = q; text = [] }) (lines_in s)
      ≡ handled e ends size (record { state = state; text = [] }) (lines_in (drop at s))

pub beginning : (q : State) (s : List ℕ) → Fit q (length s) → Going q s q 0
beginning q s fit =
    let all : length s ≡ length s - 0 = omega arith in
    record { stands = record { later = omega arith; inside = omega arith; taken = omega arith; fit = subst (Fit q) all fit }; same = λ e size h ends. refl }

-- the line that `sheet_line` was lent
pub line-lent : (s : List ℕ) (at end : ℕ) → end ≡ at + length (first_line (drop at s)) → take (end - at) (drop at s) ≡ first_line (drop at s)
line-lent s at end p =
    let n : end - at ≡ length (first_line (drop at s)) = omega arith in
    ap (λ (k : ℕ). take k (drop at s)) n ∙ line-take (drop at s)

pub not-err : (c : SettingsCheck) → is_err c ≡ false → c ≡ Ok tt
not-err (Ok ok) e = refl
not-err (Err away) e = absurd (false≢true (sym e))

module _ (q : State) (s : List ℕ) (state : State) (at end : ℕ) (going : Going q s state at) (sheet : state.stage ≡ 0)
    (place : end ≡ at + length (first_line (drop at s))) (ended : ltb end (length s) ≡ has_feed (drop at s)) where
  busy : is_done state ≡ false
  busy = ap (leb 2) sheet

  pub no-feed : length s ≤ end → has_feed (drop at s) ≡ false
  no-feed h = sym ended ∙ le-ltb end (length s) h

  -- where no line feed is left
  pub waits : length s ≤ end → SheetSaid q s (record { state = state; at = at; check = Ok tt })
  waits h = record { stands = going.stands; same = going.same; stuck = λ p. no-feed h }

  pub fit_line : end < length s → Fit state (length (take (end - at) (drop at s)) + 1)
  fit_line h =
      let f = going.stands.fit in
      let n = ap length (line-lent s at end place) in
      record { from_one = f.from_one; low = f.low; high = omega (arith, f.high, n); sheet = f.sheet }

  module _ (h : end < length s) (next : State) (check : SettingsCheck)
      (is : sheet_line state (take (end - at) (drop at s)) ≡ record { state = next; text = check_text check }) where
    fed : has_feed (drop at s) ≡ true
    fed = sym ended ∙ lt-ltb end (length s) h

    said-is : (e : Equipment) → said e state (first_line (drop at s)) ≡ record { state = next; text = check_text check }
    said-is e =
        said-sheet e state (first_line (drop at s)) busy (eq-eqb state.stage 0 sheet) ∙ ap (sheet_line state) (sym (line-lent s at end place)) ∙ is

    -- no equipment has a part in a sheet's line, so any will do
    step-stands : Stands s q 0 next (end + 1)
    step-stands =
        let p : at + length (first_line (drop at s)) + 1 ≡ end + 1 = omega arith in
        let e = our_equipment in
        let after = next-stands e s q state 0 at fed busy going.stands in
        subst (Stands s q 0 next) p (subst (λ (k : Said). Stands s q 0 k.state (at + length (first_line (drop at s)) + 1)) (said-is e) after)

    step_same : (e : Equipment) (size : ℕ) → line_room ≤ size → (ends : Bool)
        → handled e ends size (record { state = q; text = [] }) (lines_in s)
        ≡ handled e ends size (record { state = next; text = check_text check }) (lines_in (drop (end + 1) s))
    step_same e size r ends =
        let p : at + length (first_line (drop at s)) + 1 ≡ end + 1 = omega arith in
        going.same e size r ends
        ∙ handled-fed e ends size (record { state = state; text = [] }) (drop at s) fed
        ∙ rw (busy, le-ltb size line_room r, said-is e, after-place s at fed, p)

    pub refused : next.stage ≡ 2 → SheetSaid q s (record { state = next; at = end + 1; check = check })
    refused two =
        record {
          stands = step-stands;
          same = step_same;
          stuck = λ p. let z = eqb-true next.stage 0 p in absurd (omega arith);
        }

    pub goes_on : check ≡ Ok tt → Going q s next (end + 1)
    goes_on c =
        record { stands = step-stands; same = λ e size r ends. step_same e size r ends ∙ rw c }

pub past : (q : State) (s : List ℕ) (state : State) (at : ℕ) → Going q s state at → (state.stage ≡ 0 → ⊥)
    → SheetSaid q s (record { state = state; at = at; check = Ok tt })
past q s state at going other =
    record { stands = going.stands; same = going.same; stuck = λ p. absurd (other (eqb-true state.stage 0 p)) }
