-- How long the lines are at the most.
-- Assumes nothing.
use mathlib.Core.List.{List, [], ◌∷◌}
use Prim.Native.Nat.{ℕ, suc, ◌+◌, ◌*◌, ◌^◌, ◌≤◌, ◌<◌}
use native.Mathlib.Nat.{suc-mul}
use native.Mathlib.Omega.{arith}
use lib.IntN.{ℤ, pos, nat_abs}
use lib.ListN.{length, length-append}
use Rattle.rules.specs.Transcripts.{report_numbers, spaced_numbers, report_line, refused_line}
use Rattle.rules.specs.declared.Report.{Report}
use Rattle.spacednumbers.proofs.Lengths.{spaced-length}
use Rattle.reportparts.proofs.Parts.{head-length}
use Rattle.lines.proofs.Whole.{report-whole}

-- every number has at most k + 1 digits
abbrev pub AllShort : ℕ → List ℤ → Type 0
AllShort k [] = Unit {0}
AllShort k (z ∷ zs) = (nat_abs z < 10 ^ suc k) × AllShort k zs

numbers-length : (k : ℕ) (zs : List ℤ) → AllShort k zs → length (spaced_numbers zs) ≤ length zs * (k + 3)
unfolding spaced_numbers
numbers-length k [] s = omega arith
numbers-length k (z ∷ zs) s =
    rw (suc-mul (length zs) (k + 3)) (simp length-append (omega (arith, spaced-length k z s.0, numbers-length k zs s.1)))

-- ---- whole lines

pub report-length : (r : Report) → AllShort 4 (report_numbers r) → length (report_line r) ≤ 80
report-length r short =
    let numbers = numbers-length 4 (report_numbers r) short in
    rw (report-whole r) (simp length-append (omega (arith, head-length r)))

pub refused-length : (number line : ℕ) → number < 100 → line < 10 ^ 20 → length (refused_line number line) ≤ 64
unfolding refused_line
refused-length number line n h =
    let small : number < 10 ^ 20 = omega arith in
    simp length-append (omega (arith, numbers-length 19 (pos number ∷ pos line ∷ []) (small, (h, tt))))
