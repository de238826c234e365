-- What a saving answers, from what the image's saving says.
-- Assumes nothing.
use mathlib.Core.Path.{◌≡◌, sym, ap, ◌∙◌}
use mathlib.Core.List.{List}
use Prim.Native.Nat.{ℕ}
use Rattle.rules.specs.Refusals.{saved_number}
use Rattle.rules.specs.Images.{save_check}
use Rattle.rules.specs.Answers.{Saved}

pub saved : (buffer : List ℕ) (r a : Saved) → r ≡ save_check buffer → r ≡ a → saved_number a ≡ saved_number (save_check buffer)
saved buffer r a e told = ap saved_number (sym told ∙ e)
