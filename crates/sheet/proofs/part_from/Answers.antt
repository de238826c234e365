-- `sheet::part_from` meets its contract: the empty part at the end, the rest, or the line (`HandedBack.antt`).
-- Assumes nothing.
use mathlib.Core.Path.{refl}
use native.Mathlib.Omega.{arith}
use Rattle.sheet.proofs.HandedBack.{past-part, rest_part, line-part, line-inside}
use borrow.Author.Rules.{rules}
use Rattle.sheet.proofs.part_from.Goals as goal

pub returns-then-start-n : goal.returns-then-start-n
returns-then-start-n c =
    let a = c.args in
    record { bytes = past-part a.s.now a.check a.start (omega arith); block = refl; place = omega arith }

pub returns-in-Err : goal.returns-in-Err
returns-in-Err c =
    let a = c.args in
    let end = c.line_end-end in
    record {
      bytes = line-part a.s.now a.check a.start _ _ end.result c.in-Err.is end.ensures.value;
      block = refl;
      place = omega arith;
    }

pub slice_bounds-result-end-in-Err : goal.slice_bounds-result-end-in-Err
slice_bounds-result-end-in-Err c =
    line-inside c.args.s.now c.args.start c.line_end-end.result (omega arith) c.line_end-end.ensures.value
