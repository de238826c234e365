-- Spec 3.4: the number that is read at a place of a text, against the rules' reading of the text from that place on.
-- Assumes nothing.
use Rattle.std.specs.Prelude.{◌≡◌, List, ℕ, ◌-◌, ◌≤◌, min, nat_abs, length, drop, MatchOption}
use Rattle.std.specs.declared.option.Option.{Option as RustOption}
use Rattle.std.proofs.Math.Option.{Option, none, some}
use Rattle.rules.specs.Text.{Taken, leading_digits, after_digits, value_after}
use Rattle.numerals.specs.declared.Digits.{Digits}
use Rattle.numerals.specs.declared.Number.{Number}

-- a run of digits, up to the seventh
pub record DigitsAt (s : List ℕ) (at : ℕ) (r : Digits) : Type 0 where
  pub from : at ≤ r.next
  pub inside : r.next ≤ length s
  pub count : r.next - at ≡ min 7 (length (leading_digits (drop at s)))
  pub value : r.next - at ≤ 6 → r.value ≡ value_after 0 (leading_digits (drop at s))
  pub rest : r.next - at ≤ 6 → drop r.next s ≡ after_digits (drop at s)

-- a number that the rules take, and the place after it
pub record NumberTaken (o : Option Taken) (s : List ℕ) (x : Number) : Type 0 where
  pub same : o ≡ some (record { value = x.value; rest = drop x.next s })
  pub inside : x.next ≤ length s
  pub small : nat_abs x.value ≤ 999999

-- the number that the rules take, or none where they take none
abbrev pub NumberAt : Option Taken → List ℕ → RustOption Number → Type 0
NumberAt o s r = MatchOption r (o ≡ none) (NumberTaken o s)
