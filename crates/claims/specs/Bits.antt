-- Spec 8.3, 10.4: the bits of a report, as one number and as the digits that are printed, tell each bit.
-- Assumes nothing.
use Rattle.std.specs.Prelude.{◌≡◌, Bool, false, cond, List, map, ℕ, suc, ◌-◌, ◌/◌, ◌%◌, ◌^◌, ◌≤◌, length, get_or}
use Rattle.rules.specs.Samples.{Slice, Equipment}
use Rattle.rules.specs.Reports.{packed_after}
use Rattle.rules.specs.Records.{next, shown}
use Rattle.rules.specs.History.{History, history_report}
use Rattle.rules.specs.Transcripts.{bit_digits}
use Rattle.rules.specs.declared.Settings.{Settings}
use Rattle.rules.specs.declared.Board.{Board}

-- a bit as a digit of text: byte 48 is `0`, byte 49 is `1`
abbrev pub digit_of : Bool → ℕ
digit_of b = cond b 49 48

-- the bit at a place of a number, the lowest being place 0
abbrev pub bit_at : ℕ → ℕ → ℕ
bit_at n place = n / 2 ^ place % 2

-- of any number of bits; for the nine of a report n is 9 in `digits` and 8 in `places`
pub record UnpacksBits : Type 0 where
  -- equally many bits that make the same number are the same
  pub injective : (bs cs : List Bool) → length bs ≡ length cs → packed_after 0 bs ≡ packed_after 0 cs → bs ≡ cs
  -- the digits that are printed are the bits, in their order
  pub digits : (n : ℕ) (bs : List Bool) → length bs ≡ n → bit_digits n (packed_after 0 bs) ≡ map digit_of bs
  -- the number's bit at place n - i is bit i of the list
  pub places : (n : ℕ) (bs : List Bool) → length bs ≡ suc n → (i : ℕ) → i ≤ n → bit_at (packed_after 0 bs) (n - i) ≡ cond (get_or bs i false) 1 0
  -- a history's report has nine, and so has a step's, on any record of nine counters
  pub nine : (e : Equipment) (st : Settings) (h : History) → length (history_report e st h).bits ≡ 9
  pub nine-shown : (e : Equipment) (st : Settings) (x : Slice) (b : Board) → length b.counters ≡ 9 → length (shown e st (next e st x b)).bits ≡ 9
