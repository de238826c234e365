-- Spec 10.2, 10.3: one sample line of a block: its numbers, and what it makes of a board.
-- Assumes nothing.
use Rattle.std.specs.Prelude.{◌≡◌, Bool, cond, List, map, ℕ, ◌+◌, ℤ, nat_abs, length, Some, None, Result, Ok, Err, IfOk, IfErr}
use Rattle.std.specs.Option.{option_map_or}
use Rattle.std.specs.declared.option.Option.{Option as RustOption}
use Rattle.std.proofs.Math.Option.{Option, none, some}
use Rattle.rules.specs.Samples.{Equipment}
use Rattle.rules.specs.Text.{first_line, has_feed}
use Rattle.rules.specs.Forms.{sample_form}
use Rattle.rules.specs.Records.{turned_away, step_of}
use Rattle.rules.specs.Settings.{settings_check}
use Rattle.rules.specs.declared.Settings.{Settings}
use Rattle.rules.specs.declared.SheetRefusal.{SheetRefusal}
use Rattle.settings.specs.declared.Accepted.{Accepted}
use Rattle.rules.specs.declared.Board.{Board}
use Rattle.rules.specs.declared.Refusal.TheVariants.{Sample}
use Rattle.rules.specs.declared.Stepped.{Stepped}
use Rattle.program.specs.Saying.{line_numbers}
use Rattle.sampleline.specs.declared.LineAt.{LineAt}

-- a line that is ended, by the numbers that are read
abbrev pub line_with : ℕ → Option (List ℤ) → LineAt
line_with next none = record { next = next; slice = None }
line_with next (some ns) = record { next = next; slice = Some (map nat_abs ns) }

-- the line that a text begins with, where it is ended and has no form
abbrev pub formless_from : List ℕ → ℕ → RustOption LineAt
formless_from s at = cond (has_feed s) (Some (line_with (at + length (first_line s) + 1) none)) None

-- the line that a text begins with, where it is ended, the text standing at a place
unfoldable pub line_from : Bool → List ℕ → ℕ → RustOption LineAt
line_from overlong s at =
    cond (has_feed s) (Some (line_with (at + length (first_line s) + 1) (line_numbers overlong sample_form (first_line s)))) None

-- a step where the line has the sample form, refusal 8 where it has not
abbrev pub line_answer : Equipment → Board → Settings → LineAt → Stepped
line_answer e b st x = option_map_or (step_of e b st) x.slice (turned_away b Sample)

-- what asking whether settings are accepted gave of these
abbrev pub AcceptedFrom : Settings → Result Accepted SheetRefusal → Type 0
AcceptedFrom st r = IfOk r (λ a. (a.settings ≡ st) × (settings_check st ≡ Ok tt)) × IfErr r (λ away. settings_check st ≡ Err away)
