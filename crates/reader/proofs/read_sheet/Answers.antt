-- `reader::read_sheet` meets its contract: what it gives is what the reading gives, with the part that is handed back.
-- Assumes nothing.
use Rattle.reader.proofs.Reading.{reads}
use Rattle.reader.proofs.read_sheet.Goals as goal

pub returns : goal.returns
returns c =
    reads c.args.s c.part_from-line.result c.read-outcome.result c.read-outcome.ensures.sheet_given c.read-outcome.ensures.start_in_bounds
    c.part_from-line.ensures
