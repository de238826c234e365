-- `sampleline::line_at` meets its contract.
-- Assumes nothing.
use Rattle.std.proofs.Common.{◌≡◌, ◌∙◌, drop, rules}
use Rattle.sampleline.specs.SampleLines.{formless_from, line_from}
use Rattle.sampleline.proofs.LinesAt.{long-line, found-line, missed-line}
use Rattle.sampleline.proofs.line_at.Goals as goal
use Rattle.sampleline.proofs.line_at.Goals.{then-not-overlong+in_default, else-not-overlong}

pub returns-in-Some : goal.returns-in-Some
returns-in-Some c =
    let a = c.args in
    rw c.if-not-overlong.true (found-line a.s.now a.at c.in-Some.x (search rules))

pub returns : goal.returns
returns c =
    let a = c.args in
    let same : formless_from (drop a.at a.s.now) a.at ≡ line_from a.overlong (drop a.at a.s.now) a.at
    = elim c.if-not-overlong.branch [
      | then-not-overlong+in_default w ↦ rw w.if-not-overlong.true (missed-line a.s.now a.at w.in_default.ensures)
      | else-not-overlong w ↦ rw w.if-not-overlong.false (long-line (drop a.at a.s.now) a.at)
    ]
    in
    c.formless_at.ensures ∙ same
