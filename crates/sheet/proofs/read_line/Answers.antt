-- `sheet::read_line` meets its contract: with its form a line is stored and checked, without it refused.
-- Assumes nothing.
use Rattle.std.specs.Prelude.{Ok, Err}
use mathlib.Core.Path.{sym, ◌∙◌}
use Rattle.rules.specs.Forms.{numbers_of}
use Rattle.formats.specs.Marks.{form_at}
use Rattle.sheet.specs.LineReads.{line_read}
use Rattle.sheet.proofs.Lines.{line-none, line-some}
use borrow.Author.Rules.{rules}
use Rattle.sheet.proofs.read_line.Goals as goal

pub returns-in_default : goal.returns-in_default
unfolding line_read
returns-in_default c =
    let a = c.args in
    line-none a.i a.before (numbers_of (form_at a.i) a.line.now) (sym c.form_numbers.ensures ∙ c.in_default.is) c.formless.result c.formless.ensures

pub returns-in-Err : goal.returns-in-Err
unfolding line_read
returns-in-Err c =
    let a = c.args in
    line-some a.i a.before (numbers_of (form_at a.i) a.line.now) c.in-Some.n (sym c.form_numbers.ensures ∙ c.in-Some.is) c.with_numbers-next.result
    c.with_numbers-next.ensures (Err c.in-Err.why) c.in-Err.ensures

pub returns-in-Ok : goal.returns-in-Ok
unfolding line_read
returns-in-Ok c =
    let a = c.args in
    line-some a.i a.before (numbers_of (form_at a.i) a.line.now) c.in-Some.n (sym c.form_numbers.ensures ∙ c.in-Some.is) c.with_numbers-next.result
    c.with_numbers-next.ensures (Ok tt) c.in-Ok.ensures
