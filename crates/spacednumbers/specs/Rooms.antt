-- Room for the numbers of the lines of spec 10.4 and 10.5: none is longer.
-- Assumes nothing.
use Rattle.std.specs.Prelude.{ℕ}

-- a number of 16 bits after a space, with its sign
abbrev pub number_room : ℕ
number_room = 7

-- a number of any length after a space, with its sign
abbrev pub long_room : ℕ
long_room = 22
