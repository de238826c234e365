-- `image::put_image` meets its contract: its writes, one after the other, are the image's fields.
-- Assumes nothing.
use mathlib.Core.Path.{refl, ap}
use mathlib.Core.List.{List, [], ◌∷◌}
use lib.IntN.{ℤ}
use mir.Syntax.{w16}
use mir.Val.{SFits}
use mir.Facts.{to_z-of_z}
use Rattle.rules.specs.Images.{Field, field, field_bytes, twos_complement, image_fields, image}
use Rattle.rules.specs.declared.Board.{Board}
use Rattle.buffers.specs.Written.{Wrote}
use Rattle.imagefields.proofs.Fields.{and-fields}
use borrow.Author.Rules.{rules}
use Rattle.image.proofs.put_image.Goals as goal

-- the fields after watts and vars
abbrev event_fields : Board → List Field
event_fields b = field 1 b.recovery ∷ field 1 b.side ∷ field 2 b.held ∷ []

pub returns : goal.returns
unfolding image image_fields
returns c =
    let signed : SFits w16 c.args.b.vars = search rules in
    let vars = ap (λ (v : ℤ). field 2 c.args.b.watts ∷ field 2 (twos_complement v) ∷ event_fields c.args.b) (to_z-of_z signed) in
    let all : Wrote _ 0 _ _ (field_bytes (image_fields c.args.b))
    = and-fields _ _ refl c.put_field-at.ensures.wrote
    (and-fields _ _ refl c.put_counters-at.ensures.wrote
    (and-fields _ _ refl c.put_field-at-2.ensures.wrote
    (and-fields _ _ vars c.put_powers-at.ensures.wrote c.put_event.ensures))) in
    all.bytes
