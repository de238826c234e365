-- A number below ten is written with one digit.
-- Assumes nothing.
use mathlib.Core.Path.{◌≡◌}
use mathlib.Core.List.{List, ◌∷◌}
use Prim.Native.Nat.{ℕ, suc, ◌+◌, ◌<◌}
use borrow.Author.Tests.{lt-ltb}
use Rattle.rules.specs.Text.{digits_before}

pub last-only : (k n : ℕ) (after : List ℕ) → n < 10 → digits_before (suc k) n after ≡ (48 + n) ∷ after
unfolding digits_before
last-only k n after h = rw (lt-ltb n 10 h)
