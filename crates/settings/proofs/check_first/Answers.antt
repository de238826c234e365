-- `settings::check_first` meets its contract: what the lines from `line` on find is what the first lines find.
-- Assumes nothing.
use Rattle.std.specs.Prelude.{Ok, Err}
use mathlib.Core.Path.{◌≡◌, sym, ap, ◌∙◌}
use Prim.Native.Nat.{◌+◌, ◌-◌, ◌≤◌}
use native.Mathlib.Omega.{arith}
use Rattle.rules.specs.Answers.{settings_refused}
use Rattle.ranges.specs.Rows.{row_at}
use Rattle.pairs.specs.Pairs.{settings_line}
use Rattle.settings.specs.Lines.{line_found, first_lines_check}
use Rattle.ranges.proofs.Rows.{row_here}
use Rattle.settings.proofs.Steps.{from, from_first, line-more, line-end, line-passes, line-refuses}
use Rattle.std.proofs.lemmas.Result.{err_from_is_err_and}
use borrow.Author.Rules.{rules}
use Rattle.settings.proofs.check_first.Goals as goal

pub loop-line-init : goal.loop-line-init
loop-line-init c = (omega arith, from_first c.args.lines c.args.s)

pub loop-line-preserved : goal.loop-line-preserved
loop-line-preserved c =
    let s = c.args.s in
    let n = c.args.lines in
    let i = c.loop-line.line in
    let row = row_here c.row_table-rows.result c.row_table-rows.ensures i in
    let found : line_found (row_at i) (settings_line s i) i ≡ Ok tt = rw (← row) (sym c.line_check.ensures ∙ c.in_ok-line_check.was) in (
      omega arith,
      c.loop-line.invariant.1 ∙ line-more n s i c.requires (omega arith)
          ∙ line-passes (row_at i) (settings_line s i) i (from n s (i + 1)) (λ cause. settings_refused cause (i + 1)) found,
    )

pub returns-in_err-line_check : goal.returns-in_err-line_check
returns-in_err-line_check c =
    let s = c.args.s in
    let n = c.args.lines in
    let i = c.loop-line.line in
    let away = c.in_err-line_check.field-0.0 in
    let row = row_here c.row_table-rows.result c.row_table-rows.ensures i in
    let found : line_found (row_at i) (settings_line s i) i ≡ Err away = rw (← row) (sym c.line_check.ensures ∙ c.in_err-line_check.was) in
    let refused = line-refuses (row_at i) (settings_line s i) i (from n s (i + 1)) (λ why. settings_refused why (i + 1)) away.cause away.line found in
    let given = err_from_is_err_and c.from_residual.result c.from_residual.ensures.1 in
    given.1 ∙ ap Err given.2 ∙ ap (settings_refused away.cause) refused.1 ∙ sym (c.loop-line.invariant.1 ∙ line-more n s i c.requires (omega arith) ∙ refused.0)

pub returns : goal.returns
returns c =
    sym (c.loop-line.invariant.1 ∙ line-end c.args.lines c.args.s c.loop-line.line (omega arith))
