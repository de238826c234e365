-- `handling::sample_lines::sample_lines` meets its contract. The loop's invariant: what is said from here on is what was to be said from h on
-- (`SampleLines.antt`).
-- Assumes nothing.
use Rattle.std.proofs.Common.{arith}
use Rattle.rules.specs.Regions.{equipped_with}
use Rattle.handling.proofs.SampleLines.{beginning, stops_full, stops_open, next-is, goes_on}
use Rattle.handling.proofs.sample_lines.sample_lines.Goals as goal
use Rattle.handling.proofs.sample_lines.sample_lines.Goals.{else-loop-out-test, then-loop-out-test+in_default}

pub loop-out-init : goal.loop-out-init
loop-out-init c =
    beginning (equipped_with c.args.table.now) c.args.s.now c.args.out.now c.args.h c.requires.0 c.requires.1 c.requires.2 c.requires.3

pub loop-out-preserved : goal.loop-out-preserved
loop-out-preserved c =
    let l = c.loop-out in
    let a = c.args in
    let r = c.answer_to-r in
    goes_on (equipped_with a.table.now) a.s.now a.out.now a.h l.out l.board l.line l.overlong l.at l.w l.invariant c.in-Some.x c.in-Some.ensures
    c.loop-out-test.true r.result (r.ensures a.h.state.settings (c.accept-accepted.ensures.accepted, c.accept-accepted.ensures.refused)) _ _ c.put_answer-w.ensures

pub loop-out-smaller : goal.loop-out-smaller
loop-out-smaller c =
    let l = c.loop-out in
    let a = c.args in
    let r = c.answer_to-r in
    let e = equipped_with a.table.now in
    let next = next-is e a.s.now a.out.now a.h l.out l.board l.line l.overlong l.at l.w l.invariant c.in-Some.x c.in-Some.ensures c.loop-out-test.true in
    let on = goes_on e a.s.now a.out.now a.h l.out l.board l.line l.overlong l.at l.w l.invariant c.in-Some.x c.in-Some.ensures
    c.loop-out-test.true r.result (r.ensures a.h.state.settings (c.accept-accepted.ensures.accepted, c.accept-accepted.ensures.refused)) _ _ c.put_answer-w.ensures in
    omega (arith, next, on.stands.inside)

pub returns-clause-stuck : goal.returns-clause-stuck
returns-clause-stuck c =
    let l = c.loop-out in
    let a = c.args in
    let e = equipped_with a.table.now in
    elim c.loop-out-test.branch [
      | else-loop-out-test w ↦ stops_full e a.s.now a.out.now a.h l.out l.board l.line l.overlong l.at l.w l.invariant w.loop-out-test.false
      | then-loop-out-test+in_default w ↦ stops_open e a.s.now a.out.now a.h l.out l.board l.line l.overlong l.at l.w l.invariant w.in_default.ensures
    ]
