-- Spec 13.10: sham ways of carrying images over, which what is claimed of it must stop.
-- Assumes nothing.
use Rattle.std.specs.Prelude.{cond, not, List, [], ◌∷◌, ◌++◌, ℕ, zero, suc, eqb, leb, length, take, drop}
use Rattle.rules.specs.Images.{image_length}
use Rattle.causes.specs.FirstCause.{cause, first}
use Rattle.oldimages.specs.OldImages.{old_length, has_added}
use Rattle.carryover.specs.CarryOver.{carried_forward, carried_back, forward_causes}
use Rattle.carryover.specs.Carries.{CarryOutcome, CarryOperation, our_forward, our_back}

-- by its number: the image written, or the target as it was
abbrev outcome_by : ℕ → List ℕ → List ℕ → CarryOutcome
outcome_by zero image target = record { number = 0; target = image ++ drop (length image) target }
outcome_by (suc n) image target = record { number = suc n; target = target }

-- ---- back

-- looks at the last bytes before the length: 11 before 10
unfoldable pub added_first : CarryOperation
added_first source target =
    outcome_by (first (cause 11 (not (has_added source)) ∷ cause 10 (not (eqb (length source) image_length)) ∷ cause 9 (not (leb old_length (length target))) ∷ []))
    (carried_back source) target

-- looks at the target before the last bytes: 9 before 11
unfoldable pub room_first : CarryOperation
room_first source target =
    outcome_by (first (cause 10 (not (eqb (length source) image_length)) ∷ cause 9 (not (leb old_length (length target))) ∷ cause 11 (not (has_added source)) ∷ []))
    (carried_back source) target

-- leaves out the last bytes, whatever they are
unfoldable pub drops_any : CarryOperation
drops_any source target =
    outcome_by (first (cause 10 (not (eqb (length source) image_length)) ∷ cause 9 (not (leb old_length (length target))) ∷ [])) (carried_back source) target

-- ---- forward

-- refuses a short target, and writes of the image what fits
unfoldable pub carries_what_fits : CarryOperation
carries_what_fits source target =
    record {
      number = first (forward_causes source target);
      target = cond (eqb (length source) old_length) (take (length target) (carried_forward source ++ drop image_length target)) target;
    }

-- appends a recovery count of 39
unfoldable pub appends_less : CarryOperation
appends_less source target = outcome_by (first (forward_causes source target)) (source ++ (39 ∷ 0 ∷ 0 ∷ 0 ∷ [])) target

-- ---- both

-- the first two bytes in each other's place
abbrev pub swapped : List ℕ → List ℕ
swapped [] = []
swapped (a ∷ []) = a ∷ []
swapped (a ∷ b ∷ rest) = b ∷ a ∷ rest

-- carry as they should, what they carry with two bytes swapped
unfoldable pub swaps_forward : CarryOperation
swaps_forward source target = our_forward (swapped source) target

unfoldable pub swaps_back : CarryOperation
swaps_back source target = our_back (swapped source) target
