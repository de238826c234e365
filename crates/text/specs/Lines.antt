-- Spec 3.2: the numbers of a whole line.
-- Assumes nothing.
use Rattle.std.specs.Prelude.{List, ℤ, Some, None}
use Rattle.std.specs.declared.option.Option.{Option as RustOption}
use Rattle.std.proofs.Math.Option.{Option, none, some}
use Rattle.matching.specs.Places.{padded}

-- the numbers that are read, followed by zeros, or none where none are
abbrev pub numbers_read : Option (List ℤ) → RustOption (List ℤ)
numbers_read none = None
numbers_read (some ns) = Some (padded ns)
