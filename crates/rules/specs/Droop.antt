-- Spec 6.16, 6.17, 7.8: frequency droop (frequency-power). In an event the frequency lies on one side of the deadband, and the power from before it is held.
-- Assumes nothing.
use Rattle.std.specs.Prelude.{Bool, cond, ℕ, ◌+◌, ◌-◌, ◌*◌, ◌/◌, leb, ltb, eqb}

-- spec 6.16: the deadband's ends; between them, both included, there is no event
abbrev pub deadband_high : ℕ
deadband_high = 60036

abbrev pub deadband_low : ℕ
deadband_low = 59964

-- spec 6.16: the sides, by number
abbrev pub no_side : ℕ
no_side = 0

abbrev pub high_side : ℕ
high_side = 1

abbrev pub low_side : ℕ
low_side = 2

-- spec 6.16: the side of a frequency
unfoldable pub side_of : ℕ → ℕ
side_of f = cond (ltb deadband_high f) high_side (cond (ltb f deadband_low) low_side no_side)

-- spec 6.16: the side after the step, from: in service after it, the frequency
abbrev pub side_after : Bool → ℕ → ℕ
side_after on f = cond on (side_of f) no_side

-- spec 5.4: a side that spec 6.16 does not name is none
abbrev pub known_side : ℕ → ℕ
known_side side = cond (leb side low_side) side no_side

-- spec 6.17: the held power (pre-disturbance active power) after the step, from: the side before and after it, the held power and the watts before it. An event that goes on
-- keeps its held power; one that begins, a jump from side to side among them, takes the watts
abbrev pub held_after : ℕ → ℕ → ℕ → ℕ → ℕ
held_after was side held watts = cond (eqb side no_side) 0 (cond (eqb side was) held watts)

-- spec 7.8: the power for a distance in frequency: ten thirds of it, rounded down
abbrev pub ten_thirds : ℕ → ℕ
ten_thirds distance = distance * 10 / 3

-- spec 7.8: what becomes of a held power at a frequency outside the deadband, before the available power bounds it: less, not below 0, on the
-- high side; more on the low side
unfoldable pub drooped : ℕ → ℕ → ℕ
drooped f held = cond (ltb deadband_high f) (held - ten_thirds (f - deadband_high)) (held + ten_thirds (deadband_low - f))
