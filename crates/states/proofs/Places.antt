-- A place in a block: what follows the line there, and that the state after that line stands behind it.
-- Assumes nothing.
use mathlib.Core.Path.{◌≡◌, ap, ◌∙◌, subst}
use mathlib.Core.Bool.{true, false}
use mathlib.Core.List.{List}
use Prim.Native.Nat.{ℕ, ◌+◌, ◌-◌, ◌<◌}
use native.Mathlib.Omega.{arith}
use lib.ListN.{length, drop, length-drop}
use lib.Seq.{drop-drop}
use Rattle.rules.specs.Samples.{Equipment}
use Rattle.rules.specs.Text.{first_line, has_feed, after_line}
use Rattle.text.proofs.Lines.{line_after, line-ended}
use Rattle.program.specs.States.{is_done, Fit}
use Rattle.program.specs.Saying.{said}
use Rattle.program.specs.declared.State.{State}
use Rattle.program.proofs.Fitting.{fit-said}
use Rattle.program.proofs.Saying.{said-taken}
use Rattle.states.specs.Carrying.{Stands}

-- what follows the line at a place
pub after-place : (s : List ℕ) (at : ℕ) → has_feed (drop at s) ≡ true → after_line (drop at s) ≡ drop (at + length (first_line (drop at s)) + 1) s
after-place s at f =
    let l = first_line (drop at s) in
    let same : at + (length l + 1) ≡ at + length l + 1 = omega arith in
    line_after (drop at s) f ∙ drop-drop (length l + 1) at s ∙ ap (λ (n : ℕ). drop n s) same

-- the state after the line at a place stands at the place after it
pub next-stands : (e : Equipment) (s : List ℕ) (q r : State) (at₀ at : ℕ) → has_feed (drop at s) ≡ true → is_done r ≡ false → Stands s q at₀ r at
    → Stands s q at₀ (said e r (first_line (drop at s))).state (at + length (first_line (drop at s)) + 1)
next-stands e s q r at₀ at f going st =
    let l = first_line (drop at s) in
    let short : length l < length s - at = omega (arith, line-ended (drop at s) f, length-drop at s) in
    let left : length s - at - (length l + 1) ≡ length s - (at + length l + 1) = omega arith in
    record {
      later = omega (arith, st.later);
      inside = omega (arith, st.inside);
      taken = omega (arith, said-taken e r l going, st.taken, st.later);
      fit = subst (Fit (said e r l).state) left (fit-said e l going st.fit (omega arith));
    }
