-- `text::line_end` meets its contract: the first line ends where its line feed stands.
-- Assumes nothing.
use Rattle.std.proofs.Common.{ap, length, arith}
use Rattle.text.proofs.Lines.{place-found, end-value, line-past}
use Rattle.text.proofs.line_end.Goals as goal

pub returns-then-s-from-clause-value : goal.returns-then-s-from-clause-value
returns-then-s-from-clause-value c = omega (arith, ap length (line-past c.args.s.now c.args.from (omega arith)))

pub returns-then-s-from-clause-s_value : goal.returns-then-s-from-clause-s_value
returns-then-s-from-clause-s_value c =
    end-value c.args.s.now c.args.from c.args.from (omega (arith, ap length (line-past c.args.s.now c.args.from (omega arith))))

pub returns-clause-value : goal.returns-clause-value
returns-clause-value c = place-found c.args.s.now c.args.from c.first_feed.result c.unwrap_or.result c.first_feed.ensures c.unwrap_or.ensures

pub returns-clause-s_value : goal.returns-clause-s_value
returns-clause-s_value c =
    end-value c.args.s.now c.args.from _ (place-found c.args.s.now c.args.from c.first_feed.result c.unwrap_or.result c.first_feed.ensures c.unwrap_or.ensures)
