-- `text::table::sample_form` meets its contract, by computing.
-- Assumes nothing.
use Rattle.std.proofs.Common.{refl}
use Rattle.rules.specs.Forms.{sample_form}
use Rattle.text.proofs.table.sample_form.Goals as goal

pub returns : goal.returns
unfolding sample_form
returns c = refl
