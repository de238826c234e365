-- The part that is handed back, by its place and its length.
-- Assumes nothing.
use Rattle.std.specs.Prelude.{Ok, Err}
use mathlib.Core.Path.{◌≡◌, refl, sym, ap, ap₂, ◌∙◌}
use mathlib.Core.List.{List, []}
use Prim.Native.Nat.{ℕ, ◌+◌, ◌-◌, ◌≤◌}
use native.Mathlib.Omega.{arith}
use native.Mathlib.Nat.{sub_self}
use lib.ListN.{length, take, drop, length-drop, drop_of_length-le}
use lib.Seq.{take_all}
use denote.Ref.{Bor}
use Rattle.rules.specs.Text.{first_line}
use Rattle.rules.specs.Sheets.{read_sheet, part_of, handed_back}
use Rattle.rules.specs.declared.Refusal.{Refusal}
use Rattle.rules.specs.Answers.{SettingsCheck, settings_refused}
use Rattle.text.proofs.Lines.{line-take, line-length}
use Rattle.sheet.specs.Parts.{IsPart, IsPartFrom}

no_part : (check : SettingsCheck) → part_of check [] ≡ []
unfolding first_line
no_part (Ok ok) = refl
no_part (Err away) = refl

module _ (s : List ℕ) (check : SettingsCheck) (start : ℕ) where
  -- a start past the end
  pub past-part : length s ≤ start → take (length s - length s) (drop (length s) s) ≡ part_of check (drop start s)
  past-part h =
      rw (sub_self (length s), drop_of_length-le s h, no_part check) refl

  -- what follows an accepted sheet
  pub rest_part : check ≡ Ok tt → take (length s - start) (drop start s) ≡ part_of check (drop start s)
  rest_part e = take_all (length s - start) (drop start s) (omega (arith, length-drop start s)) ∙ sym (ap (λ (k : SettingsCheck). part_of k (drop start s)) e)

  -- the refused line
  pub line-part : (cause : Refusal) (n end : ℕ) → check ≡ settings_refused cause n → end ≡ start + length (first_line (drop start s))
      → take (end - start) (drop start s) ≡ part_of check (drop start s)
  line-part cause n end e p =
      let long : end - start ≡ length (first_line (drop start s)) = omega arith in
      ap (λ (k : ℕ). take k (drop start s)) long ∙ line-take (drop start s) ∙ sym (ap (λ (k : SettingsCheck). part_of k (drop start s)) e)

pub line-inside : (s : List ℕ) (start end : ℕ) → start ≤ length s → end ≡ start + length (first_line (drop start s)) → end ≤ length s
line-inside s start end h p = omega (arith, line-length (drop start s), length-drop start s)

-- the part from the start that the rules find, by the check that they find, is the one handed back
pub handed-back : (s r : Bor (List ℕ)) (check : SettingsCheck) (start : ℕ) → check ≡ (read_sheet s.now).check → start ≡ (read_sheet s.now).start
    → start ≤ length s.now
    → IsPartFrom check start s r → IsPart s r
unfolding handed_back
handed-back s r check start checked begun inside p =
    record {
      bytes = p.bytes ∙ ap₂ (λ (k : SettingsCheck) (n : ℕ). part_of k (drop n s.now)) checked begun;
      block = p.block;
      place = omega (arith, p.place);
    }
