-- How long the words and the bits are at the most.
-- Assumes nothing.
use mathlib.Core.Path.{◌≡◌, refl, ap, ◌∙◌}
use Prim.Native.Nat.{ℕ, zero, suc, ◌/◌, ◌≤◌}
use lib.Dec.{lit≤}
use lib.ListN.{length}
use mathlib.Core.List.{List}
use Rattle.rules.specs.Transcripts.{bit_digits}
use Rattle.buffers.specs.Digits.{digits_in}
use Rattle.buffers.specs.Written.{Wrote}
use Rattle.buffers.proofs.Digits.{digits-length}
use Rattle.pieces.specs.Pieces.{status_word}

pub word-length : (s : ℕ) → length (status_word s) ≤ 10
unfolding status_word
word-length zero = lit≤ tt
word-length (suc zero) = lit≤ tt
word-length (suc (suc zero)) = lit≤ tt
word-length (suc (suc (suc zero))) = lit≤ tt
word-length (suc (suc (suc (suc zero)))) = lit≤ tt
word-length (suc (suc (suc (suc (suc zero))))) = lit≤ tt
word-length (suc (suc (suc (suc (suc (suc s)))))) = lit≤ tt

-- bits are digits in base 2
pub bits-are : (k n : ℕ) → bit_digits k n ≡ digits_in 2 48 k n
unfolding bit_digits digits_in
bits-are zero n = refl
bits-are (suc k) n = rw (bits-are k (n / 2)) refl

-- nine digits of a number that is n: whether it is n is asked by itself, so that another number is refused as another number
pub bits-written : (d d' : List ℕ) (at r m n : ℕ) → Wrote d at d' r (digits_in 2 48 9 m) → m ≡ n → Wrote d at d' r (bit_digits 9 n)
bits-written d d' at r m n wrote same = rw (bits-are 9 n, ← same) wrote

pub bits-length : (k n : ℕ) → length (bit_digits k n) ≡ k
bits-length k n = ap length (bits-are k n) ∙ digits-length 2 48 k n
