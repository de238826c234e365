-- Spec 11.1: the number that an explained step answers.
-- Assumes nothing.
use Rattle.std.specs.Prelude.{ℕ, Ok, Err}
use Rattle.rules.specs.Refusals.{refusal_number}
use Rattle.explain.specs.Answers.{ExplainedAnswer}

-- 0 where nothing is refused
abbrev pub explained_number : ExplainedAnswer → ℕ
explained_number (Ok given) = 0
explained_number (Err cause) = refusal_number cause
