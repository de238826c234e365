-- `pieces::copies::put` meets its contract: the part of the buffer that is copied to is a write of the text.
-- Assumes nothing.
use mathlib.Core.Path.{refl, ◌∙◌}
use native.Mathlib.Omega.{arith}
use lib.ListN.{length}
use Rattle.std.proofs.lemmas.Slice.{put_mid-paste}
use Rattle.buffers.proofs.Writing.{copy-all}
use Rattle.pieces.proofs.copies.put.Goals as goal

pub returns : goal.returns
returns c =
    let text = c.args.text.now in
    let bytes = put_mid-paste c.args.at _ c.args.out.now _ text (length text) c.copy_from_slice.ensures.after (omega arith) refl in
    record { after = refl; inside = omega arith; bytes = bytes ∙ copy-all _ _ _ }
