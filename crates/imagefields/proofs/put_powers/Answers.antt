-- `imagefields::put_powers` meets its contract: two fields, one after the other, vars in two's complement.
-- Assumes nothing.
use mathlib.Core.Path.{ap, ◌∙◌}
use mathlib.Core.List.{[], ◌∷◌}
use Prim.Native.Nat.{ℕ}
use mir.Syntax.{w16}
use mir.Val.{SFits}
use mir.Facts.{to_z-of_z}
use native.Mathlib.Omega.{arith}
use Rattle.rules.specs.Images.{field, twos_complement}
use Rattle.imagefields.proofs.Fields.{and-fields}
use borrow.Author.Rules.{rules}
use Rattle.imagefields.proofs.put_powers.Goals as goal

pub returns : goal.returns
returns c =
    let signed : SFits w16 c.args.vars = search rules in
    let bits = c.twos_complement-reactive.ensures ∙ ap twos_complement (to_z-of_z signed) in
    let both = ap (λ (n : ℕ). field 2 c.args.watts ∷ field 2 n ∷ []) bits in
    record { wrote = and-fields _ _ both c.put_field-place.ensures.wrote c.put_field.ensures.wrote; value = omega arith }
