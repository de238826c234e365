-- Spec 10.10: how long a line of a form is.
-- Assumes nothing.
use Rattle.std.specs.Prelude.{ℕ}

-- no line of a form is longer
abbrev pub longest : ℕ
longest = 128
