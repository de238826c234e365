-- `matching::match_at` meets its contract: each turn takes one byte of the form, with its number or its byte of the text.
-- Assumes nothing.
use Rattle.matching.proofs.Matching.{Matching}
use Rattle.matching.proofs.match_at.Given as goal

abbrev pub invariant-loop-mark : goal.invariant-loop-mark
invariant-loop-mark l = Matching l.form l.s l.start l.n l.k l.at l.mark-index
