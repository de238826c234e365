-- `pieces::copies::put_byte` meets its contract: a store is a write of one byte.
-- Assumes nothing.
use mathlib.Core.Path.{refl}
use mathlib.Core.List.{[], ◌∷◌}
use native.Mathlib.Omega.{arith}
use Rattle.buffers.proofs.Writing.{stores}
use Rattle.pieces.proofs.copies.put_byte.Goals as goal

pub returns : goal.returns
returns c = record { after = refl; inside = omega arith; bytes = stores _ c.args.at (c.args.b ∷ []) (omega arith) }
