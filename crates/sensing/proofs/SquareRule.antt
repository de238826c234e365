-- Spec 2.3: a table whose entries pass the square rule, one computed test, has the voltage of each code.
-- Assumes nothing.
use mathlib.Core.Path.{◌≡◌}
use mathlib.Core.Bool.{Bool, ◌&&◌}
use mathlib.Core.List.{List}
use Prim.Native.Nat.{ℕ, ◌+◌, ◌*◌, ◌<◌}
use lib.Dec.{T, leb, ltb, leb→le, ltb→lt}
use lib.ListN.{length, get_or}
use Rattle.rules.specs.Sensing.{voltage}
use Rattle.roots.specs.Root.{IsRoot}
use Rattle.roots.proofs.Roots.{root-one}
use Rattle.roots.proofs.Voltages.{voltage-root}
use Rattle.basics.proofs.Bools.{both_left, both_right}
use Rattle.sensing.proofs.Places.{every, at}

-- the square rule as a test of code k and entry v
abbrev pub square-rule : ℕ → ℕ → Bool
square-rule k v = leb (v * v) (k * 100000) && ltb (k * 100000) ((v + 1) * (v + 1))

passed : (k v : ℕ) → T (square-rule k v) → IsRoot (k * 100000) v
passed k v t =
    let low = leb (v * v) (k * 100000) in
    let high = ltb (k * 100000) ((v + 1) * (v + 1)) in
    record { low = leb→le _ _ (both_left low high t); high = ltb→lt _ _ (both_right low high t) }

pub entry-is-voltage : (xs : List ℕ) → T (every square-rule 0 xs) → (k : ℕ) → k < length xs → k < 4096 → get_or xs k 0 ≡ voltage k
entry-is-voltage xs t k h small = root-one (passed k (get_or xs k 0) (at square-rule xs t k h)) (voltage-root k small)
