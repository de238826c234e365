-- `image::save` meets its contract: a buffer under 49 bytes is left alone, and any other gets the image.
-- Assumes nothing.
use Rattle.std.specs.Prelude.{Ok, Err}
use borrow.Author.Rules.{rules}
use borrow.Author.Tests.{le-leb, lt-leb}
use mathlib.Core.Path.{◌≡◌, refl, ap, ◌∙◌}
use mathlib.Core.List.{List, [], ◌∷◌, ◌++◌}
use Prim.Native.Nat.{ℕ, ◌≤◌, ◌<◌}
use native.Mathlib.Omega.{arith}
use native.Mathlib.Nat.{zero-add}
use lib.Dec.{ltb}
use lib.ListN.{length, drop}
use Rattle.rules.specs.Images.{image, image_length, save_check, saved_into}
use Rattle.rules.specs.Refusals.{saved_number}
use Rattle.rules.specs.declared.Board.{Board}
use Rattle.rules.specs.Answers.{Saved}
use Rattle.rules.specs.declared.Refusal.TheVariants.{Buffer}
use Rattle.causes.specs.FirstCause.{cause, first}
use Rattle.laws.proofs.FirstCause.{save-number}
use Rattle.buffers.specs.Written.{written}
use Rattle.laws.proofs.Images.{image-length}
use Rattle.image.proofs.save.Goals as goal

front : (d x : List ℕ) → length x ≡ image_length → written d 0 x ≡ x ++ drop image_length d
unfolding written
front d x e = rw (zero-add, e)

-- what is promised of the answer and of the buffer, and so of the answer's number
abbrev Saves : Board → List ℕ → List ℕ → Saved → Type 0
Saves b out left r = (r ≡ save_check out) × (left ≡ saved_into b out)

promised : (b : Board) (out left : List ℕ) (r : Saved) → Saves b out left r
    → Saves b out left r × (saved_number r ≡ first (cause 9 (ltb (length out) image_length) ∷ []))
promised b out left r e = (e, ap saved_number e.0 ∙ save-number out)

pub returns-then-out-lt-IMAGE_LENGTH : goal.returns-then-out-lt-IMAGE_LENGTH
unfolding save_check saved_into
returns-then-out-lt-IMAGE_LENGTH c =
    let out = c.args.out.now in
    let short : length out < image_length = omega arith in
    let both =
    promised c.args.b out out (Err Buffer) (rw (lt-leb image_length _ short) (refl, refl))
    in record { value = both.0; result_value = both.1 }

pub returns : goal.returns
unfolding save_check saved_into
returns c =
    let nine : length c.args.b.counters ≡ 9 = search rules in
    let whole = front c.args.out.now (image c.args.b) (image-length c.args.b nine) in
    let long : image_length ≤ length c.args.out.now = omega arith in
    let both =
    promised c.args.b c.args.out.now c.put_image.new.out (Ok tt)
    (rw (le-leb image_length _ long) (refl, c.put_image.ensures ∙ whole))
    in record { value = both.0; result_value = both.1 }
