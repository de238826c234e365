-- The limits of an accepted sheet, by their kind: what every limit's level and clearing time keep.
-- Assumes nothing.
use mathlib.Core.Path.{◌≡◌}
use mathlib.Core.Bool.{true}
use mathlib.Core.List.{List, [], ◌∷◌}
use Prim.Native.Nat.{ℕ, suc, ◌≤◌}
use native.Mathlib.Omega.{arith}
use Rattle.rules.specs.Settings.{rows, settings_accepted, limit_at}
use Rattle.rules.specs.Counters.{Kind, undervoltage, overvoltage, underfrequency, overfrequency, kinds}
use Rattle.rules.specs.declared.Limit.{Limit}
use Rattle.rules.specs.declared.Settings.{Settings}
use Rattle.laws.proofs.Accepted.{sheet-rows}

-- the levels that the sheet allows a kind of limit
abbrev pub LevelIn : Kind → ℕ → Type 0
LevelIn undervoltage n = n ≤ 8800
LevelIn overvoltage n = (11000 ≤ n) × (n ≤ 12000)
LevelIn underfrequency n = (50000 ≤ n) × (n ≤ 59000)
LevelIn overfrequency n = (61000 ≤ n) × (n ≤ 66000)

pub record LimitIn (k : Kind) (l : Limit) : Type 0 where
  pub level_in : LevelIn k l.level
  pub clearing-low : 1 ≤ l.clearing
  pub clearing-high : l.clearing ≤ 100000

-- the limits of these kinds, from limit i on
abbrev pub LimitsIn : Settings → ℕ → List Kind → Type 0
LimitsIn st i [] = Unit {0}
LimitsIn st i (k ∷ ks) = LimitIn k (limit_at st i) × LimitsIn st (suc i) ks

pub limits-in : (st : Settings) → settings_accepted st ≡ true → LimitsIn st 0 kinds
unfolding rows
limits-in st ok = let k = sheet-rows st ok in omega arith
