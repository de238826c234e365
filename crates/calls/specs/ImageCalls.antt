-- Spec 9.5 to 9.8, 11.3, 11.4: what carrying over, called over the C boundary, leaves in the lent buffer and answers.
-- Assumes nothing.
use Rattle.std.specs.Prelude.{◌≡◌, List, ℕ}
use Rattle.carryover.specs.CarryOver.{carry_number, forward_answer, back_answer, forward_into, back_into}

-- `saltdelta_carry_forward`, with `before` in the target
abbrev pub ForwardLeaves : List ℕ → List ℕ → List ℕ → ℕ → Type 0
ForwardLeaves source before after number = (number ≡ carry_number (forward_answer source before)) × (after ≡ forward_into source before)

-- `saltdelta_carry_back`, likewise
abbrev pub BackLeaves : List ℕ → List ℕ → List ℕ → ℕ → Type 0
BackLeaves source before after number = (number ≡ carry_number (back_answer source before)) × (after ≡ back_into source before)
