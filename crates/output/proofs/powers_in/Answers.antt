-- `output::powers_in` meets its contract: an accepted sheet's curves rise, and the limits, taken in turn, leave their least
-- (`OnReading.antt`).
-- Assumes nothing.
use mathlib.Core.Path.{◌≡◌, sym, ◌∙◌}
use mathlib.Core.Bool.{true, false}
use mathlib.Core.List.{[], ◌∷◌}
use Prim.Native.Nat.{◌≤◌}
use native.Mathlib.Omega.{arith}
use mir.Syntax.{w32}
use mir.Val.{to_z, of_z}
use borrow.Author.Tests.{not-true, not-false}
use Rattle.rules.specs.Curves.{nameplate}
use Rattle.rules.specs.Service.{exports, recovery_limit, vars_of, watts_of}
use Rattle.laws.proofs.Curves.{var-rises, watt-rises, watt-not-negatives}
use Rattle.laws.proofs.Least.{in_turn, in-turn-low}
use Rattle.output.proofs.OnReading.{kept32, vars-on, watts-on}
use borrow.Author.Rules.{rules}
use Rattle.output.proofs.powers_in.Goals as goal

pub volt_var-vars-requires : goal.volt_var-vars-requires
volt_var-vars-requires c =
    var-rises c.args.s c.requires.1

pub volt_watt-curve-requires : goal.volt_watt-curve-requires
volt_watt-curve-requires c = (
  watt-rises c.args.s c.requires.1,
  watt-not-negatives c.args.s c.requires.1,
)

pub returns : goal.returns
returns c =
    let curve = c.volt_watt-curve in
    let vars = c.volt_var-vars in
    let a = c.args in
    let pre = c.requires in
    let given = c.gives_power in
    let on : exports a.status ≡ true = sym given.ensures ∙ c.if-not-gives_power.false in
    let same : to_z w32 (of_z w32 vars.result) ≡ vars.result = kept32 vars.result vars.ensures.result_bound in
    let others = curve.result ∷ nameplate vars.result ∷ recovery_limit a.recovery ∷ [] in
    let begin = c.first_limits-p in
    let turns : c.within_recovery-watts.result ≡ in_turn begin.result others
    = rw (c.within_recovery-watts.ensures, c.within_nameplate-p.ensures, c.min-p.ensures, same) in
    let low : c.within_recovery-watts.result ≤ 10000 = rw turns (omega (arith, in-turn-low begin.result others, begin.ensures.upper_bound, pre.0.available-top)) in (record {
      vars_value = (λ e x q. same ∙ vars-on e a.s x a.r q a.status on vars.result vars.ensures.value);
      watts_value = (λ e x q.
          watts-on e a.s x a.r q a.status on a.share a.recovery a.held begin.result vars.result curve.result _ (begin.ensures.value e x q)
          vars.ensures.value curve.ensures.value turns);
      watts_bound = (low, rw same vars.ensures.result_bound);
    })
