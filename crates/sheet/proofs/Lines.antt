-- Reading one line: with and without its form.
-- Assumes nothing.
use Rattle.std.specs.Prelude.{Ok, Err, Some, None}
use mathlib.Core.Path.{◌≡◌, sym, ap, ◌∙◌}
use mathlib.Core.List.{List}
use mathlib.Core.Option.{Option, none, some}
use Prim.Native.Nat.{ℕ, ◌+◌}
use native.Mathlib.Omega.{arith}
use lib.IntN.{ℤ}
use Rattle.rules.specs.declared.Settings.{Settings}
use Rattle.rules.specs.declared.SheetRefusal.{SheetRefusal}
use Rattle.rules.specs.declared.Refusal.TheVariants.{Form}
use Rattle.rules.specs.Answers.{SettingsCheck}
use Rattle.ranges.specs.Rows.{row_at}
use Rattle.pairs.specs.Pairs.{settings_line}
use Rattle.settings.specs.Lines.{line_found}
use Rattle.text.specs.Lines.{numbers_read}
use Rattle.storing.specs.Stores.{with_numbers}
use Rattle.sheet.specs.LineReads.{refused_as, accepted_as, on_line}

module _ (i : ℕ) (st : Settings) where
  -- a line without its form
  pub line-none : (o : Option (List ℤ)) → numbers_read o ≡ None → (away : SheetRefusal) → away ≡ record { cause = Form; line = i + 1 }
      → refused_as st away ≡ on_line i st o
  line-none none e away p = ap (refused_as st) p
  line-none (some ns) e away p = let z : ◌≡◌ {A = ℕ} 0 1 = cc in absurd (omega arith)

  -- a line with it
  pub line-some : (o : Option (List ℤ)) (n : List ℤ) → numbers_read o ≡ Some n → (next : Settings) → next ≡ with_numbers st i n
      → (check : SettingsCheck) → check ≡ line_found (row_at i) (settings_line next i) i → accepted_as next check ≡ on_line i st o
  line-some none n e next p check q = let z : ◌≡◌ {A = ℕ} 0 1 = cc in absurd (omega arith)
  line-some (some ns) n e next p check q =
      let same : next ≡ with_numbers st i _ = p ∙ ap (λ (k : List ℤ). with_numbers st i k) (some-injective (sym e)) in
      rw (q, same)
    where
      some-injective : {a b : List ℤ} → Some a ≡ Some b → a ≡ b
      some-injective r = cc
