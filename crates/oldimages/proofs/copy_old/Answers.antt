-- `oldimages::copy_old` meets its contract: the front of the target that is copied to is a write of the source's first bytes.
-- Assumes nothing.
use native.Mathlib.Omega.{arith}
use mathlib.Core.Path.{◌≡◌, refl}
use lib.ListN.{length, take}
use lib.Seq.{length-take-le}
use Rattle.buffers.specs.Written.{written}
use Rattle.oldimages.specs.OldImages.{old_length}
use Rattle.oldimages.proofs.copy_old.Goals as goal

pub returns : goal.returns
unfolding written
returns c =
    let long : length (take old_length c.args.source.now) ≡ 45 = length-take-le old_length c.args.source.now (omega arith) in
    rw (c.copy_from_slice.ensures.after, long) refl
