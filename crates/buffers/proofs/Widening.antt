-- A signed number of 16 bits, widened to 32 bits, is the number.
-- Assumes nothing.
use mathlib.Core.Path.{◌≡◌, ap, ◌∙◌}
use lib.IntN.{ℤ}
use mir.Syntax.{w16, w32}
use mir.Val.{SFits, to_z, of_z}
use mir.Facts.{to_z-of_z, sfits_widen}

-- what a cast leaves of it
abbrev pub widened : ℤ → ℤ
widened v = to_z w32 (of_z w32 (to_z w16 (of_z w16 v)))

pub widened_is : (v : ℤ) → SFits w16 v → widened v ≡ v
widened_is v f = ap (λ (z : ℤ). to_z w32 (of_z w32 z)) (to_z-of_z f) ∙ to_z-of_z {w = w32} (sfits_widen {w = w16} {w' = w32} {z = v} (tt {0}) f)
