-- `text::form_numbers` meets its contract: a match that ends where the line does has the line's numbers.
-- Assumes nothing.
use Rattle.std.proofs.Common.{sym, ◌∙◌, arith}
use Rattle.formats.specs.Marks.{form_at}
use Rattle.text.proofs.Made.{made_at}
use Rattle.text.proofs.Whole.{match-none, match-whole, match-short}
use Rattle.text.proofs.form_numbers.Goals as goal

pub match_at-requires : goal.match_at-requires
match_at-requires c = (rw c.form.ensures (made_at c.args.i).few, omega arith)

pub returns-in_err-m : goal.returns-in_err-m
returns-in_err-m c = c.from_residual.ensures ∙ sym (match-none (form_at c.args.i) c.args.line.now (rw c.form.ensures at c.in_err-m.ensures))

pub returns-then-m-line : goal.returns-then-m-line
returns-then-m-line c =
    let e = rw c.form.ensures at c.in_ok-m.ensures in
    sym (match-short (form_at c.args.i) c.args.line.now c.in_ok-m.m e c.if-m-line.true)

pub returns : goal.returns
returns c =
    let e = rw c.form.ensures at c.in_ok-m.ensures in
    sym (match-whole (form_at c.args.i) c.args.line.now c.in_ok-m.m e c.if-m-line.false)
