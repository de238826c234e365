-- `sensing::sense_by` meets its contract: a code of the table has its entry, and a code above it is refused.
-- Assumes nothing.
-- the answer, and so its number
use mathlib.Core.Path.{◌≡◌, ap, ◌∙◌}
use mathlib.Core.List.{[], ◌∷◌}
use Prim.Native.Nat.{ℕ}
use native.Mathlib.Omega.{arith}
use lib.Dec.{ltb}
use borrow.Author.Rules.{rules}
use borrow.Author.Tests.{le-leb, lt-leb}
use Rattle.rules.specs.Sensing.{sensed_by, last_code}
use Rattle.rules.specs.Regions.{equipped_with}
use Rattle.rules.specs.Refusals.{sensed_number}
use Rattle.causes.specs.FirstCause.{cause, first}
use Rattle.laws.proofs.FirstCause.{sense-number}
use Rattle.sensing.proofs.sense_by.Goals as goal

pub returns-then-code-lt4096-clause-value : goal.returns-then-code-lt4096-clause-value
unfolding sensed_by
returns-then-code-lt4096-clause-value c = simp (le-leb c.args.code last_code (omega arith), c.volts.ensures)

pub returns-else-code-lt4096-clause-value : goal.returns-else-code-lt4096-clause-value
unfolding sensed_by
returns-else-code-lt4096-clause-value c = simp (lt-leb c.args.code last_code (omega arith))
