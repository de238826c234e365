-- A write into a lent buffer: bytes at a place, and every other byte as it was.
-- Assumes nothing.
use Rattle.std.specs.Prelude.{◌≡◌, List, ◌++◌, ℕ, ◌+◌, ◌≤◌, length, take, drop}

-- d with the bytes x at a place
unfoldable pub written : List ℕ → ℕ → List ℕ → List ℕ
written d at x = take at d ++ x ++ drop (at + length x) d

-- a write of x into d at a place leaves d' and hands back the place after x, still inside d
pub record Wrote (d : List ℕ) (at : ℕ) (d' : List ℕ) (r : ℕ) (x : List ℕ) : Type 0 where
  pub after : r ≡ at + length x
  pub inside : r ≤ length d
  pub bytes : d' ≡ written d at x
