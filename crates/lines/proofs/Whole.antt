-- The lines are their pieces, one after the other.
-- Assumes nothing.
use mathlib.Core.Path.{◌≡◌, sym, ap, ◌∙◌}
use mathlib.Core.Bool.{true}
use mathlib.Core.List.{List, [], ◌∷◌, ◌++◌, append_assoc, append-nil}
use Prim.Native.Nat.{ℕ}
use borrow.Author.Tests.{eqb-true}
use lib.IntN.{ℤ, pos}
use lib.ListN.{drop}
use Rattle.rules.specs.Text.{bytes, decimal, signed_decimal, digits_before}
use Rattle.basics.proofs.Bools.{both}
use Rattle.rules.specs.Transcripts.{bit_digits, spaced, spaced_numbers, report_numbers, report_line, refused_line}
use Rattle.rules.specs.declared.Report.{Report}
use Rattle.buffers.specs.Written.{Wrote}
use Rattle.buffers.proofs.Writing.{and_then}
use Rattle.pieces.specs.Pieces.{status_word}
use Rattle.reportparts.specs.Parts.{report_head, is_steady, event_numbers}
use Rattle.lines.specs.Fronts.{report_front}

pub report-whole : (r : Report) → report_line r ≡ report_head r ++ (spaced_numbers (report_numbers r) ++ bytes ")\n")
unfolding report_line report_head status_word
report-whole r = sym (ap (λ (l : List ℕ). bytes "(report " ++ l) (append_assoc (status_word r.status) (bytes " " ++ bit_digits 9 r.bits) _))

-- numbers written one after the other, and then the line's end, are all of them and the end
pub number-then : (z : ℤ) (zs : List ℤ) (e : List ℕ) {d d₁ d₂ : List ℕ} {at r₁ r₂ : ℕ} → Wrote d at d₁ r₁ (spaced z)
    → Wrote d₁ r₁ d₂ r₂ (spaced_numbers zs ++ e) → Wrote d at d₂ r₂ (spaced_numbers (z ∷ zs) ++ e)
unfolding spaced_numbers
number-then z zs e w₁ w₂ = rw (append_assoc (spaced z)) (and_then w₁ w₂)

-- the two of an event, and then the others
pub event-then : (side held : ℕ) (zs : List ℤ) (e : List ℕ) {d d₁ d₂ : List ℕ} {at r₁ r₂ : ℕ} → Wrote d at d₁ r₁ (event_numbers side held)
    → Wrote d₁ r₁ d₂ r₂ (spaced_numbers zs ++ e) → Wrote d at d₂ r₂ (spaced_numbers (pos side ∷ pos held ∷ zs) ++ e)
unfolding spaced_numbers event_numbers
event-then side held zs e w₁ w₂ =
    rw (append_assoc (spaced (pos side)), append_assoc (spaced (pos held))) (rw (append_assoc (spaced (pos side))) at (and_then w₁ w₂))

pub numbers-end : (e : List ℕ) {d d₁ : List ℕ} {at r₁ : ℕ} → Wrote d at d₁ r₁ e → Wrote d at d₁ r₁ (spaced_numbers [] ++ e)
unfolding spaced_numbers
numbers-end e w = w

-- the numbers that a line shows after its front
abbrev pub after_front : Report → List ℤ
after_front r = drop 2 (report_numbers r)

pub report-pieces : (r : Report) → report_line r ≡ report_front r ++ (spaced_numbers (after_front r) ++ bytes ")\n")
unfolding report_front spaced_numbers
report-pieces r = report-whole r ∙ simp append_assoc

-- the front of a steady report
pub steady-front : (r : Report) → is_steady r ≡ true → report_front r ≡ bytes "(report continuous 000000001 10000 40"
unfolding report_front report_head spaced signed_decimal status_word bit_digits decimal digits_before
steady-front r t =
    let status = both _ _ t in
    let bits = both _ _ status.1 in
    let share = both _ _ bits.1 in
    rw (
      eqb-true r.status 2 status.0,
      eqb-true r.bits 1 bits.0,
      eqb-true r.share 10000 share.0,
      eqb-true r.recovery 40 share.1,
    )

pub refused-pieces : (number line : ℕ)
    → refused_line number line ≡ bytes "(refused" ++ (spaced (pos number) ++ (spaced (pos line) ++ bytes ")\n"))
unfolding refused_line spaced_numbers
refused-pieces number line = simp (append_assoc, append-nil)
