-- Under accepted settings a reading in the enter-service range breaks no limit: the sheet's ranges put every limit outside that range.
-- Assumes nothing.
use mathlib.Core.Path.{◌≡◌}
use mathlib.Core.Bool.{true, false}
use Prim.Native.Nat.{ℕ, zero, suc, ◌<◌}
use native.Mathlib.Omega.{arith}
use Rattle.rules.specs.Settings.{settings_accepted, limit_at}
use Rattle.rules.specs.Counters.{Kind, undervoltage, overvoltage, underfrequency, overfrequency}
use Rattle.rules.specs.declared.Settings.{Settings}
use Rattle.laws.proofs.Limits.{LimitIn, limits-in}
use Rattle.laws.proofs.InRange.{breaks, breaks-none}
use Rattle.readings.specs.declared.reading.Reading.{Reading}
use Rattle.counting.specs.Counting.{enters, hit_at}

module _ (r : Reading) (s : Settings) (ok : settings_accepted s ≡ true) (e : enters r s ≡ true) where
  none : (k : Kind) (i : ℕ) → LimitIn k (limit_at s i) → breaks k (limit_at s i).level r.low r.high r.frequency ≡ false
  unfolding enters
  none k i l = breaks-none s ok r.permit r.low r.high r.frequency e k (limit_at s i).level l.level_in

  pub unbroken : (n : ℕ) → n < 8 → hit_at r s n ≡ false
  unbroken zero _ = rw (none undervoltage 0 (limits-in s ok).0)
  unbroken (suc zero) _ = rw (none undervoltage 1 (limits-in s ok).1.0)
  unbroken (suc (suc zero)) _ = rw (none overvoltage 2 (limits-in s ok).1.1.0)
  unbroken (suc (suc (suc zero))) _ = rw (none overvoltage 3 (limits-in s ok).1.1.1.0)
  unbroken (suc (suc (suc (suc zero)))) _ = rw (none underfrequency 4 (limits-in s ok).1.1.1.1.0)
  unbroken (suc (suc (suc (suc (suc zero))))) _ = rw (none underfrequency 5 (limits-in s ok).1.1.1.1.1.0)
  unbroken (suc (suc (suc (suc (suc (suc zero)))))) _ = rw (none overfrequency 6 (limits-in s ok).1.1.1.1.1.1.0)
  unbroken (suc (suc (suc (suc (suc (suc (suc zero))))))) _ = rw (none overfrequency 7 (limits-in s ok).1.1.1.1.1.1.1.0)
  unbroken (suc (suc (suc (suc (suc (suc (suc (suc n)))))))) h = absurd (omega arith)
