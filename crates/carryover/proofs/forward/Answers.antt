-- `carryover::forward` meets its contract: refused, it writes nothing; else the old bytes, and behind them what is appended.
-- Assumes nothing.
use mathlib.Core.Path.{◌≡◌, refl, sym, ap, ◌∙◌}
use mathlib.Core.Bool.{true}
use mathlib.Core.List.{List, ◌++◌}
use Prim.Native.Nat.{ℕ, ◌≤◌}
use native.Mathlib.Omega.{arith}
use lib.ListN.{length, take, drop}
use lib.Seq.{take_all}
use Rattle.std.specs.Prelude.{Ok, Err}
use Rattle.std.proofs.lemmas.Result.{err_from_is_err_and}
use Rattle.std.proofs.lemmas.Slice.{put_mid-paste}
use Rattle.buffers.specs.Written.{written}
use Rattle.buffers.proofs.Writing.{copy-all, write_then}
use Rattle.rules.specs.Images.{image_length}
use Rattle.oldimages.specs.OldImages.{old_length, added_bytes}
use Rattle.carryover.specs.CarryOver.{carried_forward, forward_answer, forward_into}
use Rattle.carryover.proofs.Outcomes.{front, promised, stays, clear}
use Rattle.carryover.proofs.forward.Goals as goal

-- the old bytes, and then those behind them
both : (source target d d' : List ℕ) → (length source ≡ old_length) × (image_length ≤ length target) → d ≡ written target 0 (take old_length source)
    → d' ≡ written d old_length added_bytes → d' ≡ carried_forward source ++ drop (length (carried_forward source)) target
both source target d d' long old appended =
    let whole : take old_length source ≡ source = take_all old_length source (omega (arith, long.0)) in
    let bytes : d ≡ written target 0 source = old ∙ ap (written target 0) whole in
    write_then target 0 source added_bytes (omega (arith, long.0)) (omega (arith, long)) bytes appended
    ∙ front (carried_forward source) target

pub returns-in_err-checked-clause-value : goal.returns-in_err-checked-clause-value
unfolding forward_answer forward_into
returns-in_err-checked-clause-value c =
    let source = c.args.source.now in
    let target = c.args.target.now in
    let p = err_from_is_err_and c.from_residual.result c.from_residual.ensures.1 in
    promised (forward_answer source target) _ (carried_forward source) target target
    (p.1 ∙ ap Err p.2 ∙ sym c.in_err-checked.was ∙ c.checked.ensures) (rw p.1 (stays _ (carried_forward source) target))

-- where nothing is refused the lengths are right
long : (source target : List ℕ) → forward_answer source target ≡ Ok tt → (length source ≡ old_length) × (image_length ≤ length target)
unfolding forward_answer
long source target e = let h = clear source target old_length image_length true e in (h.0, h.2)

pub returns-clause-value : goal.returns-clause-value
unfolding forward_into forward_answer
returns-clause-value c =
    let source = c.args.source.now in
    let target = c.args.target.now in
    let told : forward_answer source target ≡ Ok tt = sym c.checked.ensures ∙ c.in_ok-checked.was in
    let appended = put_mid-paste old_length 4 c.copy_old.new.target _ added_bytes 4 c.copy_from_slice.ensures.after refl refl ∙ copy-all c.copy_old.new.target old_length added_bytes in
    promised (forward_answer source target) (Ok tt) (carried_forward source) target _ (sym told)
    (both source target _ _ (long source target told) c.copy_old.ensures appended)
