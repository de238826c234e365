-- `sheetlines::read_whole` meets its contract.
-- Assumes nothing.
use Rattle.sheet.specs.LineReads.{line_read}
use borrow.Author.Rules.{rules}
use Rattle.sheetlines.proofs.read_whole.Goals as goal

pub returns : goal.returns
unfolding line_read
returns c = rw c.if-overlong.false c.read_line.ensures
