-- Spec 3.2, 10.2: the numbers that a text begins with by a form.
-- Assumes nothing.
use Rattle.std.specs.Prelude.{cond, List, [], ◌∷◌, ◌++◌, ℕ, eqb, ℤ}
use Rattle.std.proofs.Math.Option.{Option, none, some}
use Rattle.rules.specs.Text.{Taken}
use Rattle.formats.specs.Marks.{is_mark, take_marked}

-- the numbers of a form that a text begins with, and the text after it
pub record Formed : Type 0 where
  pub numbers : List ℤ
  pub rest : List ℕ

-- numbers before those that are found
abbrev pub after : List ℤ → Option Formed → Option Formed
after ns none = none
after ns (some f) = some (record { numbers = ns ++ f.numbers; rest = f.rest })

abbrev pub taken_then : Option Taken → (List ℕ → Option Formed) → Option Formed
taken_then none rest = none
taken_then (some t) rest = after (t.value ∷ []) (rest t.rest)

abbrev pub byte_then : ℕ → List ℕ → (List ℕ → Option Formed) → Option Formed
byte_then mark [] rest = none
byte_then mark (b ∷ s) rest = cond (eqb b mark) (rest s) none

-- the numbers in the places of the form's marks, every other byte being the form's own
unfoldable pub take_form : List ℕ → List ℕ → Option Formed
take_form [] s = some (record { numbers = []; rest = s })
take_form (mark ∷ form) s = cond (is_mark mark) (taken_then (take_marked mark s) (take_form form)) (byte_then mark s (take_form form))
