-- `imagefields::put_event` meets its contract: three fields, one after the other.
-- Assumes nothing.
use Rattle.imagefields.proofs.Fields.{and-fields}
use mathlib.Core.Path.{refl}
use borrow.Author.Rules.{rules}
use Rattle.imagefields.proofs.put_event.Goals as goal

pub returns : goal.returns
returns c =
    and-fields _ _ refl c.put_field-a.ensures.wrote
    (and-fields _ _ refl c.put_field-b.ensures.wrote c.put_field.ensures.wrote)
