-- `lines::put_report` meets its contract: the front, the numbers one after the other, and the end are the line.
-- Assumes nothing.
use mathlib.Core.List.{◌++◌}
use mir.Syntax.{w16}
use mir.Val.{SFits}
use mir.Facts.{to_z-of_z}
use Rattle.rules.specs.Text.{bytes}
use Rattle.rules.specs.Transcripts.{spaced_numbers}
use Rattle.buffers.specs.Written.{Wrote}
use Rattle.buffers.proofs.Writing.{and_then}
use Rattle.lines.proofs.Whole.{number-then, event-then, numbers-end, after_front, report-pieces}
use borrow.Author.Rules.{rules}
use Rattle.lines.proofs.put_report.Goals as goal

pub returns : goal.returns
returns c =
    let signed : SFits w16 c.args.report.vars = search rules in
    let negative = rw (to_z-of_z signed) at c.put_signed_number-place.ensures.wrote in
    let numbers : Wrote _ _ _ _ (spaced_numbers (after_front c.args.report) ++ bytes ")\n")
    = event-then _ _ _ _ c.put_event-place.ensures.wrote
    (number-then _ _ _ c.put_number-place.ensures.wrote
    (number-then _ _ _ negative
    (numbers-end _ c.put.ensures))) in
    rw (report-pieces c.args.report) (and_then c.put_front-place.ensures.wrote numbers)
