-- The numbers of an accepted sample have at most six digits.
-- Assumes nothing.
use mathlib.Core.Path.{◌≡◌, subst}
use mathlib.Core.Bool.{true}
use mathlib.Core.List.{List, map}
use Prim.Native.Nat.{ℕ}
use native.Mathlib.Omega.{arith}
use borrow.Author.Tests.{le-leb, eq-eqb}
use lib.ListN.{length, get_or}
use Rattle.rules.specs.Tests.{all}
use Rattle.rules.specs.Samples.{Slice, code_of, frequency, permission, available, operator_limit, sample_accepted}
use Rattle.laws.proofs.Accepted.{SampleRight, sample-right}
use Rattle.formats.specs.Samples.{six_digits, writable}
use Rattle.basics.proofs.Tables.{tabulated, tabulated-same}

-- place by place
digits : (x : Slice) → SampleRight x → all (map six_digits (tabulated (λ k. get_or x k 0) 0 7)) ≡ true
unfolding all
digits x r =
    rw (
      le-leb (code_of x 0) 999999 (omega arith),
      le-leb (code_of x 1) 999999 (omega arith),
      le-leb (code_of x 2) 999999 (omega arith),
      le-leb (frequency x) 999999 (omega arith),
      le-leb
          (permission x) 999999 (omega arith),
      le-leb (available x) 999999 (omega arith),
      le-leb (operator_limit x) 999999 (omega arith),
    )

pub accepted-writable : (x : Slice) → sample_accepted x ≡ true → writable x ≡ true
accepted-writable x e =
    let r = sample-right x e in
    rw (eq-eqb (length x) 7 r.seven) (subst (λ (l : List ℕ). all (map six_digits l) ≡ true) (tabulated-same 0 7 x r.seven) (digits x r))
