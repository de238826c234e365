-- Spec 10.2: the numbers of a sample line that stands at a place of a text.
-- Assumes nothing.
use Rattle.std.specs.Prelude.{cond, List, map, ℕ, ◌+◌, ℤ, nat_abs, length, drop, Some, None}
use Rattle.std.specs.declared.option.Option.{Option as RustOption}
use Rattle.std.proofs.Math.Option.{Option, none, some}
use Rattle.rules.specs.Text.{first_line, has_feed}
use Rattle.rules.specs.Forms.{sample_form, numbers_of}
use Rattle.samples.specs.declared.SampleAt.{SampleAt}

-- the first line's numbers by the sample form, where the line is ended
abbrev pub ended_sample : List ℕ → Option (List ℤ)
ended_sample s = cond (has_feed s) (numbers_of sample_form (first_line s)) none

-- what is read, and the place after the line feed
abbrev pub read_then : Option (List ℤ) → ℕ → RustOption SampleAt
read_then none next = None
read_then (some ns) next = Some (record { next = next; slice = map nat_abs ns })

-- the sample line at a place of a text
unfoldable pub sample_at : List ℕ → ℕ → RustOption SampleAt
sample_at s at = read_then (ended_sample (drop at s)) (at + length (first_line (drop at s)) + 1)
