-- `sensing::table` meets its contract: the square rule, computed over the table that the code names, is carried to each code's entry.
-- Assumes nothing.
use mathlib.Core.List.{List}
use Prim.Native.Nat.{ℕ}
use Rattle.sensing.proofs.SquareRule.{entry-is-voltage}
use Rattle.sensing.proofs.table.Goals as goal
use Rattle.sensing.proofs.table.Reads as reads
use Rattle.sensing.proofs.table.Lts as lts

-- the table, as the code has it
abbrev entries : goal.Start → List ℕ
entries c = (lts.m2 reads.Pre reads.Post c.args).0

pub returns : goal.returns
returns c = λ code h. entry-is-voltage (entries c) tt code h h
