-- `counters::count_ninth` meets its contract: the eight counters are 0 and below their tops (`Unbroken.antt`).
-- Assumes nothing.
use mathlib.Core.Path.{◌≡◌, sym}
use mathlib.Core.Bool.{true}
use lib.ListN.{length}
use Rattle.counters.proofs.Ordinary.{unbroken}
use Rattle.counters.proofs.Unbroken.{ninth-counted, ninth-marked}
use borrow.Author.Rules.{rules}
use Rattle.counters.proofs.count_ninth.Goals as goal

pub returns-clause-n_value : goal.returns-clause-n_value
returns-clause-n_value c =
    let a = c.args in
    let most = c.top-most in
    let n = c.count-n in
    let nine : length a.old ≡ 9 = search rules in λ r e. ninth-counted r a.s.settings a.old nine (unbroken r a.s.settings a.s.sheet e) true most.result n.result (sym e) most.ensures n.ensures

pub returns-clause-bits_value : goal.returns-clause-bits_value
returns-clause-bits_value c =
    let a = c.args in
    let most = c.top-most in
    let n = c.count-n in
    let nine : length a.old ≡ 9 = search rules in λ r. ninth-marked r a.s.settings a.s.sheet most.result n.result c.marked.result most.ensures c.marked.ensures
