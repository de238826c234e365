-- `respond::respond` meets its contract.
-- Assumes nothing.
use Rattle.std.proofs.Common.{◌≡◌, refl, sym, ap, ◌∙◌, ◌||◌, ℕ, arith, length}
use mathlib.Core.Bool.{false≢true}
use Prim.Native.Nat.{min}
use lib.Dec.{leb}
use Rattle.rules.specs.Regions.{our_equipment}
use Rattle.respond.proofs.Whole.{wild, taken-low, fit-part, part-inside, short-left, responds}
use Rattle.respond.proofs.respond.Goals.{then-last, else-last}
use Rattle.respond.proofs.respond.Goals as goal

pub returns-then-not-sensible : goal.returns-then-not-sensible
returns-then-not-sensible c =
    let a = c.args in
    let odd = sym c.sensible.ensures ∙ c.if-not-sensible.true in
    record {
      responds = wild our_equipment a.state a.block.now a.last a.out.now c.stop.result odd c.stop.ensures;
      taken_in_bounds = (omega arith, omega arith);
      block_len_bound = λ room going none. absurd (false≢true (sym going));
    }

pub budget-budget-requires : goal.budget-budget-requires
budget-budget-requires c =
    let a = c.args in
    taken-low our_equipment a.state a.block.now a.last (sym c.sensible.ensures ∙ c.if-not-sensible.false)

-- the part of the block that the budget has room for
part_end : (total held end size : ℕ) → total ≡ held → end ≡ min total size → end ≡ min held size
part_end total held end size is ends = ends ∙ ap (λ (m : ℕ). min m size) is

pub handle-r-requires : goal.handle-r-requires
handle-r-requires c =
    let a = c.args in
    let w = c.within_budget-end in
    let told = sym c.sensible.ensures ∙ c.if-not-sensible.false in
    let end = part_end _ _ _ _ c.budget-budget.ensures w.ensures in
    fit-part our_equipment a.state a.block.now a.last told w.result end

pub returns : goal.returns
returns c =
    let a = c.args in
    let w = c.within_budget-end in
    let r = c.handle-r in
    let told = sym c.sensible.ensures ∙ c.if-not-sensible.false in
    let end = part_end _ _ _ _ c.budget-budget.ensures w.ensures in
    let block = a.block.now in
    let out = a.out.now in
    let tests : c.if-last.ends ≡ (a.last || leb c.budget-budget.result (length block)) = elim c.if-last.branch [
      | then-last w ↦ rw (w.ends-is, w.if-last.true) refl
      | else-last w ↦ rw (w.ends-is, w.if-last.false) refl
    ] in
    let ends = tests ∙ ap (λ (m : ℕ). a.last || leb m (length block)) c.budget-budget.ensures in
    let whole = responds our_equipment a.state block a.last told w.result end c.if-last.ends ends out _ r.result r.ensures in
    record {
      responds = whole;
      taken_in_bounds = (part-inside block w.result r.result.at r.ensures.inside, r.ensures.wrote.inside);
      block_len_bound = short-left our_equipment a.state block a.last told out _ _ whole;
    }
