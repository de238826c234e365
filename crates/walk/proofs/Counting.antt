-- A loop that counts a place up to n, in a walk by hand: the loop's variant, for `types.Run`'s `loops`.
--     Upto n      a place that is at most n;  start    the first;  next    one more, where it is below n
--     Nearer n    the order by what is left to count;  Nearer-wf    it is well founded;  nearer    one more is nearer
--     rest        what follows the first part of a sequence
-- Assumes nothing.
use Prim.Native.Nat.{ℕ, ◌+◌, ◌-◌, ◌≤◌, ◌<◌, zero-le}
use native.Mathlib.Numerals.{add-one-le, add-one-dec}
use mathlib.Core.WellFounded.InvImage
use mathlib.Core.WellFounded.{WellFounded}
use lib.WfN.{lt-wf_rel}
use mir.Syntax.{Body, skip, seq, assign, block, loop, cond, switch, exit, return, unreachable, call, call_v, lend_static}
use lib.Dec.{T, ltb, ltb→lt}

abbrev pub Upto : ℕ → Type 0
Upto n = (i : ℕ) × (i ≤ n)

abbrev pub Nearer : (n : ℕ) → Upto n → Upto n → Type 0
Nearer n j i = n - j.0 < n - i.0

pub Nearer-wf : (n : ℕ) → WellFounded (Nearer n)
Nearer-wf n = InvImage.wf (λ (i : Upto n). n - i.0) lt-wf_rel.wf

abbrev pub start : (n : ℕ) → Upto n
start n = (0, zero-le)

abbrev pub next : (n : ℕ) (i : Upto n) → T (ltb i.0 n) → Upto n
next n i less = (i.0 + 1, add-one-le (ltb→lt i.0 n less))

pub nearer : (n : ℕ) (i : Upto n) (less : T (ltb i.0 n)) → Nearer n (next n i less) i
nearer n i less = add-one-dec n i.0 (ltb→lt i.0 n less)

abbrev pub rest : Body → Body
rest skip = skip
rest (seq a b) = b
rest (assign p v) = skip
rest (block b) = skip
rest (loop b) = skip
rest (cond c a b) = skip
rest (switch c m) = skip
rest (exit n) = skip
rest return = skip
rest (call f xs d) = skip
rest (call_v f i xs d) = skip
rest (lend_static p s o) = skip
rest unreachable = skip
