-- Spec 6.1 to 6.5: what each of the nine counters counts of a reading, and its top.
-- Assumes nothing.
use Rattle.std.specs.Prelude.{Bool, cond, [], ◌∷◌, ℕ, max, ltb}
use Rattle.rules.specs.Tests.{all, within}
use Rattle.rules.specs.Settings.{limit_at}
use Rattle.rules.specs.declared.Settings.{Settings}
use Rattle.readings.specs.declared.reading.Reading.{Reading}

-- the enter-service criteria on a reading
unfoldable pub enters : Reading → Settings → Bool
enters r s =
    all (r.permit
    ∷ within s.volts.low s.volts.high r.low
    ∷ within s.volts.low s.volts.high r.high
    ∷ within s.hertz.low s.hertz.high r.frequency
    ∷ [])

-- whether limit i is broken, by its place: uv1 uv2, ov1 ov2, uf1 uf2, of1 of2
abbrev pub reading_breaks : Reading → ℕ → ℕ → Bool
reading_breaks r i level =
    cond (ltb i 2) (ltb r.low level)
    (cond (ltb i 4) (ltb level r.high) (cond (ltb i 6) (ltb r.frequency level) (ltb level r.frequency)))

-- whether counter i counts the reading: its limit is broken, or, for the ninth, the enter-service criteria hold
abbrev pub hit_at : Reading → Settings → ℕ → Bool
hit_at r s i = cond (ltb i 8) (reading_breaks r i (limit_at s i).level) (enters r s)

-- the top of counter i: its clearing time, or, for the ninth, the wait, of which 0 counts as 1
abbrev pub top_at : Settings → ℕ → ℕ
top_at s i = cond (ltb i 8) (limit_at s i).clearing (max 1 s.wait)
