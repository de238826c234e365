-- `text::table::form` meets its contract: the code's table is the rules' forms, by one computed test.
-- Assumes nothing.
use Rattle.std.proofs.Common.{◌≡◌, sym, ℕ, List, Bor, map, get_or}
use Rattle.std.proofs.Math.ListN.{get_or-map}
use Rattle.rules.specs.Forms.{sheet_forms, sample_form}
use Rattle.formats.specs.Marks.{forms}
use Rattle.text.proofs.table.form.Goals as goal

now-at : (l : List (Bor (List ℕ))) (i : ℕ) (d : Bor (List ℕ)) → (get_or l i d).now ≡ get_or (map (λ (b : Bor (List ℕ)). b.now) l) i d.now
now-at l i d = sym (get_or-map (λ (b : Bor (List ℕ)). b.now) l i d)

pub returns : goal.returns
unfolding forms sheet_forms sample_form
returns c = rw now-at
