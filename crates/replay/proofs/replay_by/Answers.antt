-- `replay::replay_by` meets its contract: settings by 2 or 3, then the buffer by 9, and otherwise what all samples make (`Answering.antt`).
-- Assumes nothing.
use mathlib.Core.Path.{sym, ap, ◌∙◌}
use native.Mathlib.Omega.{arith}
use Rattle.rules.specs.Settings.{settings_passed}
use Rattle.rules.specs.Regions.{equipped_with}
use Rattle.rules.specs.declared.Settings.{Settings}
use Rattle.recording.specs.Recordings.{ran_by}
use Rattle.replay.proofs.Answering.{by-2-or-3, by-9, through, numbered}
use borrow.Author.Rules.{rules}
use Rattle.replay.proofs.replay_by.Goals as goal

pub returns-then-buffer-lt-IMAGE_LENGTH-clause-value : goal.returns-then-buffer-lt-IMAGE_LENGTH-clause-value
returns-then-buffer-lt-IMAGE_LENGTH-clause-value c =
    let a = c.args in
    let e = equipped_with a.table.now in
    let told = c.in-Ok.ensures.accepted.1 in
    let is = by-9 e a.settings a.samples.now a.buffer.now told (omega (arith, c.if-buffer-lt-IMAGE_LENGTH.true)) in
    let told-all = c.refused-then-buffer-lt-IMAGE_LENGTH.ensures ∙ is.0 in
    (told-all, is.1)

pub returns-then-buffer-lt-IMAGE_LENGTH-clause-number_value : goal.returns-then-buffer-lt-IMAGE_LENGTH-clause-number_value
returns-then-buffer-lt-IMAGE_LENGTH-clause-number_value c =
    let a = c.args in
    let e = equipped_with a.table.now in
    let told = c.in-Ok.ensures.accepted.1 in
    let is = by-9 e a.settings a.samples.now a.buffer.now told (omega (arith, c.if-buffer-lt-IMAGE_LENGTH.true)) in
    let told-all = c.refused-then-buffer-lt-IMAGE_LENGTH.ensures ∙ is.0 in
    numbered e a.settings a.samples.now a.buffer.now _ told-all

pub returns-in-Err-clause-value : goal.returns-in-Err-clause-value
returns-in-Err-clause-value c =
    let a = c.args in
    let e = equipped_with a.table.now in
    let told = c.in-Err.ensures.refused in
    let is = by-2-or-3 e a.settings a.samples.now a.buffer.now _ _ told in
    let told-all = c.refused.ensures ∙ is.0 in
    (told-all, is.1)

pub returns-in-Err-clause-number_value : goal.returns-in-Err-clause-number_value
returns-in-Err-clause-number_value c =
    let a = c.args in
    let e = equipped_with a.table.now in
    let told = c.in-Err.ensures.refused in
    let is = by-2-or-3 e a.settings a.samples.now a.buffer.now _ _ told in
    let told-all = c.refused.ensures ∙ is.0 in
    numbered e a.settings a.samples.now a.buffer.now _ told-all

pub returns-else-buffer-lt-IMAGE_LENGTH-clause-value : goal.returns-else-buffer-lt-IMAGE_LENGTH-clause-value
returns-else-buffer-lt-IMAGE_LENGTH-clause-value c =
    let a = c.args in
    let e = equipped_with a.table.now in
    let told = c.in-Ok.ensures.accepted.1 in
    let is = through e a.settings a.samples.now a.buffer.now told (omega (arith, c.if-buffer-lt-IMAGE_LENGTH.false)) c.step_all-run.result
    (c.step_all-run.ensures ∙ ap (λ (s : Settings). ran_by e s a.samples.now) c.in-Ok.ensures.accepted.0) _ c.save.ensures.value.1 in
    is

pub returns-else-buffer-lt-IMAGE_LENGTH-clause-number_value : goal.returns-else-buffer-lt-IMAGE_LENGTH-clause-number_value
returns-else-buffer-lt-IMAGE_LENGTH-clause-number_value c =
    let a = c.args in
    let e = equipped_with a.table.now in
    let told = c.in-Ok.ensures.accepted.1 in
    let is = through e a.settings a.samples.now a.buffer.now told (omega (arith, c.if-buffer-lt-IMAGE_LENGTH.false)) c.step_all-run.result
    (c.step_all-run.ensures ∙ ap (λ (s : Settings). ran_by e s a.samples.now) c.in-Ok.ensures.accepted.0) _ c.save.ensures.value.1 in
    numbered e a.settings a.samples.now a.buffer.now _ is.0
