-- `samples::sample_at` meets its contract: what the fast reader finds is the sample line; where nothing is, a match that ends at a line
-- feed is an ended sample line, and no other is.
-- Assumes nothing.
use Rattle.std.proofs.Common.{◌≡◌, sym, ◌∙◌, ◌<◌, ◌≤◌, length, rules, slice_index_or}
use Rattle.formats.specs.Marks.{forms}
use Rattle.rules.specs.Forms.{sheet_forms}
use Rattle.text.proofs.Made.{made_at}
use Rattle.samples.proofs.Samples.{at-feed, at-nothing, at-past, at_other, sample-found, sample-none}
use Rattle.samples.proofs.sample_at.Goals as goal

pub match_at-requires : goal.match_at-requires
unfolding forms sheet_forms
match_at-requires c = (rw c.sample_form.ensures (made_at 13).few, c.requires)

pub returns-in_err-m : goal.returns-in_err-m
returns-in_err-m c =
    c.from_residual.ensures ∙ sample-none c.args.s.now c.args.at (at-nothing c.args.s.now c.args.at (rw c.sample_form.ensures at c.in_err-m.ensures))

pub returns-in_err-get : goal.returns-in_err-get
returns-in_err-get c =
    let m = c.in_ok-m in
    let e = rw c.sample_form.ensures at m.ensures in
    let past : length c.args.s.now ≤ m.m.next = search rules in
    c.from_residual-in_err-get.ensures ∙ sample-none c.args.s.now c.args.at (at-past c.args.s.now c.args.at m.m c.requires e past)

pub returns-then-branch-ne10 : goal.returns-then-branch-ne10
returns-then-branch-ne10 c =
    let m = c.in_ok-m in
    let e = rw c.sample_form.ensures at m.ensures in
    let inside : m.m.next < length c.args.s.now = search rules in
    let same : c.in_ok-get.field-0.now ≡ slice_index_or c.args.s.now m.m.next 0 = search rules in
    sample-none c.args.s.now c.args.at (at_other c.args.s.now c.args.at m.m c.requires e inside (λ q. c.if-branch-ne10.true (same ∙ q)))

pub returns : goal.returns
returns c =
    let m = c.in_ok-m in
    let e = rw c.sample_form.ensures at m.ensures in
    let inside : m.m.next < length c.args.s.now = search rules in
    let same : c.in_ok-get.field-0.now ≡ slice_index_or c.args.s.now m.m.next 0 = search rules in
    sample-found c.args.s.now c.args.at m.m c.sample_slice.result
    (at-feed c.args.s.now c.args.at m.m c.requires e inside (sym same ∙ c.if-branch-ne10.false)) c.sample_slice.ensures
