-- `storing::with_numbers` meets its contract: each arm stores the numbers of its own line.
-- Assumes nothing.
use mathlib.Core.Path.{◌≡◌}
use native.Mathlib.Omega.{arith}
use mir.Syntax.{w32}
use borrow.Author.Tests.{lt-ltb, ne_eqb}
use Rattle.ranges.proofs.Words.{word}
use Rattle.storing.specs.Stores.{with_numbers}
use borrow.Author.Rules.{rules}
use Rattle.storing.proofs.with_numbers.Goals as goal

pub returns-in-0-to-7 : goal.returns-in-0-to-7
unfolding with_numbers
returns-in-0-to-7 c =
    rw (
      lt-ltb c.args.i 8 (omega arith),
      ne_eqb c.args.i 8 (λ e. omega arith),
      ne_eqb c.args.i 9
          (λ e. omega arith),
      ne_eqb c.args.i 10 (λ e. omega arith),
      ne_eqb
          c.args.i 11 (λ e. omega arith),
      ne_eqb c.args.i 12
          (λ e. omega arith),
      c.magnitude-first.ensures,
      c.magnitude-second.ensures,
      word w32
          c.magnitude-arg-1.given,
      word w32 c.magnitude-arg-2-1.given,
    )

pub returns-in-8 : goal.returns-in-8
unfolding with_numbers
returns-in-8 c =
    let here : c.args.i ≡ 8
    = search rules in rw (
      here,
      c.magnitude-first.ensures,
      c.magnitude-second.ensures,
      word w32 c.magnitude-arg-1.given,
      word w32
          c.magnitude-arg-2-1.given,
    )

pub returns-in-9 : goal.returns-in-9
unfolding with_numbers
returns-in-9 c =
    let here : c.args.i ≡ 9
    = search rules in rw (
      here,
      c.magnitude-first.ensures,
      c.magnitude-second.ensures,
      word w32 c.magnitude-arg-1.given,
      word w32
          c.magnitude-arg-2-1.given,
    )

pub returns-in-10 : goal.returns-in-10
unfolding with_numbers
returns-in-10 c =
    let here : c.args.i ≡ 10
    = search rules in rw (
      here,
      c.magnitude-first.ensures,
      c.magnitude-second.ensures,
      word w32 c.magnitude-arg-1.given,
      word w32
          c.magnitude-arg-2-1.given,
    )

pub returns-in-11 : goal.returns-in-11
unfolding with_numbers
returns-in-11 c =
    let here : c.args.i ≡ 11 = search rules in rw (here, c.points-next.ensures)

pub returns-in_default : goal.returns-in_default
unfolding with_numbers
returns-in_default c =
    let here : c.args.i ≡ 12 = omega arith in rw (here, c.points-next-in_default.ensures)
