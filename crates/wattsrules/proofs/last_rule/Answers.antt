-- `wattsrules::last_rule` meets its contract: the limits are tested in their order (`Binding.antt`).
-- Assumes nothing.
use mathlib.Core.Path.{◌≡◌, sym, ap, ◌∙◌}
use Prim.Native.Nat.{ℕ, ◌+◌, ◌≤◌, min}
use native.Mathlib.Omega.{arith}
use lib.IntN.{ℤ, nat_abs}
use mir.Syntax.{w32}
use mir.Val.{to_z, of_z}
use Rattle.rules.specs.Curves.{nameplate}
use Rattle.laws.proofs.Curves.{watt-rises, watt-not-negatives}
use Rattle.output.proofs.OnReading.{kept32}
use Rattle.wattsrules.proofs.Binding.{by-curve, by-nameplate, by-recovery}
use borrow.Author.Rules.{rules}
use Rattle.wattsrules.proofs.last_rule.Goals as goal

-- what the nameplate leaves of one watt more, with the vars as they are lent
one_more : (p watts : ℕ) (vars : ℤ) → nat_abs vars ≤ 10000 → p ≡ min (watts + 1) (nameplate (to_z w32 (of_z w32 vars))) → p ≡ min (watts + 1) (nameplate vars)
one_more p watts vars small e = e ∙ ap (λ (z : ℤ). min (watts + 1) (nameplate z)) (kept32 vars small)

pub volt_watt-requires : goal.volt_watt-requires
volt_watt-requires c =
    (watt-rises c.args.s.settings c.args.s.sheet, watt-not-negatives c.args.s.settings c.args.s.sheet)
