-- Spec 3.2: what is read by a form at a place of a text, against the rules' reading of the text from that place on.
-- Assumes nothing.
use Rattle.std.specs.Prelude.{◌≡◌, List, ◌++◌, ℕ, ◌-◌, ◌≤◌, ℤ, pos, length, drop, replicate, MatchOption}
use Rattle.std.specs.declared.option.Option.{Option as RustOption}
use Rattle.std.proofs.Math.Option.{Option, none, some}
use Rattle.matching.specs.Forms.{Formed}
use Rattle.matching.specs.declared.Match.{Match}

-- numbers followed by zeros
abbrev pub padded : List ℤ → List ℤ
padded ns = ns ++ replicate (8 - length ns) (pos 0)

-- the numbers of a form, and the place after it
pub record Matched (o : Option Formed) (s : List ℕ) (m : Match) : Type 0 where
  pub numbers : List ℤ
  pub same : o ≡ some (record { numbers = numbers; rest = drop m.next s })
  pub stored : m.n ≡ padded numbers
  pub inside : m.next ≤ length s

-- what the rules read by the form, or none where they read none
abbrev pub MatchAt : Option Formed → List ℕ → RustOption Match → Type 0
MatchAt o s r = MatchOption r (o ≡ none) (Matched o s)
