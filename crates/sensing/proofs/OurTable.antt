-- A board with our sensing table lent is like ours: no accepted sample tells them apart (`Alike`).
-- Assumes nothing.
use mathlib.Core.Path.{refl}
use mathlib.Core.List.{List}
use Prim.Native.Nat.{ℕ}
use native.Mathlib.Omega.{arith}
use Rattle.rules.specs.Regions.{our_equipment, equipped_with}
use Rattle.causes.specs.Alike.{Alike}
use Rattle.sensing.specs.Tables.{IsTable}

pub table-alike : (table : List ℕ) → IsTable table → Alike (equipped_with table) our_equipment
table-alike table is = record { sensing = λ code h. is code (omega arith); region = λ v. refl }
