-- The line at a place of a block: what it reads as.
-- Assumes nothing.
use mathlib.Core.Path.{◌≡◌, refl, sym, ap, ◌∙◌}
use mathlib.Core.Bool.{Bool, true, false, cond, false≢true, true≢false}
use mathlib.Core.List.{List}
use mathlib.Core.Option.{Option, none, some}
use Prim.Native.Nat.{ℕ, ◌+◌}
use lib.IntN.{ℤ}
use lib.ListN.{length, drop}
use Rattle.std.specs.Prelude.{Some, None, is_some}
use Rattle.std.specs.Option.{option_map}
use Rattle.rules.specs.Text.{first_line, has_feed}
use Rattle.rules.specs.Forms.{sample_form, numbers_of}
use Rattle.samples.specs.Lines.{read_then, sample_at}
use Rattle.samples.specs.declared.SampleAt.{SampleAt}
use Rattle.sampleline.specs.SampleLines.{line_with, formless_from, line_from}
use Rattle.sampleline.specs.declared.LineAt.{LineAt}

pub long-line : (t : List ℕ) (at : ℕ) → formless_from t at ≡ line_from true t at
unfolding line_from
long-line t at = refl

-- a sample line as a line
abbrev as_line : SampleAt → LineAt
as_line x = record { next = x.next; slice = Some x.slice }

pub found-line : (s : List ℕ) (at : ℕ) (x : SampleAt) → Some x ≡ sample_at s at → Some (as_line x) ≡ line_from false (drop at s) at
unfolding line_from sample_at
found-line s at x e =
    let t = drop at s in
    ap (option_map as_line) e ∙ by (has_feed t) (numbers_of sample_form (first_line t)) (at + length (first_line t) + 1) (sym (ap is_some e))
  where
    by : (b : Bool) (o : Option (List ℤ)) (n : ℕ) → is_some (read_then (cond b o none) n) ≡ true
        → option_map as_line (read_then (cond b o none) n) ≡ cond b (Some (line_with n o)) None
    by true none n f = absurd (false≢true f)
    by true (some ns) n f = refl
    by false o n f = absurd (false≢true f)

pub missed-line : (s : List ℕ) (at : ℕ) → None ≡ sample_at s at → formless_from (drop at s) at ≡ line_from false (drop at s) at
unfolding line_from sample_at
missed-line s at e =
    let t = drop at s in
    by (has_feed t) (numbers_of sample_form (first_line t)) (at + length (first_line t) + 1) (sym (ap is_some e))
  where
    by : (b : Bool) (o : Option (List ℤ)) (n : ℕ) → is_some (read_then (cond b o none) n) ≡ false
        → cond b (Some (line_with n none)) None ≡ cond b (Some (line_with n o)) None
    by true none n f = refl
    by true (some ns) n f = absurd (true≢false f)
    by false o n f = refl
