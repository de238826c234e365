-- Spec 9.5 to 9.8: images carried over from the old firmware, from before the recovery count and frequency droop, and back to it.
-- Assumes nothing.
use Rattle.std.specs.Prelude.{Result, Ok, Err, Bool, true, false, not, List, [], ◌∷◌, ◌++◌, ℕ, eqb, leb, length, take, drop}
use Rattle.rules.specs.Images.{image_length}
use Rattle.causes.specs.FirstCause.{Cause, cause}
use Rattle.oldimages.specs.OldImages.{old_length, added_bytes, has_added}
use Rattle.carryover.specs.declared.CarryRefusal.{CarryRefusal}

-- ---- the two images

-- spec 9.6: what carrying forward makes of an old image
abbrev pub carried_forward : List ℕ → List ℕ
carried_forward source = source ++ added_bytes

-- spec 9.7: carrying back leaves them out again
abbrev pub carried_back : List ℕ → List ℕ
carried_back source = take old_length source

-- ---- the answer

-- nothing, or why the image is refused
abbrev pub CarryAnswer : Type 0
CarryAnswer = Result Unit CarryRefusal

-- the number that an answer gives, 0 where nothing is refused
abbrev pub carry_number : CarryAnswer → ℕ
carry_number (Ok done) = 0
carry_number (Err CarryRefusal.SourceLength) = 10
carry_number (Err CarryRefusal.AddedBytes) = 11
carry_number (Err CarryRefusal.TargetLength) = 9

-- spec 9.8: from three tests: the source has its length; behind the old bytes stands what carrying forward appends; the target has room
abbrev pub carry_answer : Bool → Bool → Bool → CarryAnswer
carry_answer false added room = Err CarryRefusal.SourceLength
carry_answer true false room = Err CarryRefusal.AddedBytes
carry_answer true true false = Err CarryRefusal.TargetLength
carry_answer true true true = Ok tt

-- nothing stands behind the bytes of an old image, so there is no second test
unfoldable pub forward_answer : List ℕ → List ℕ → CarryAnswer
forward_answer source target = carry_answer (eqb (length source) old_length) true (leb image_length (length target))

unfoldable pub back_answer : List ℕ → List ℕ → CarryAnswer
back_answer source target = carry_answer (eqb (length source) image_length) (has_added source) (leb old_length (length target))

-- ---- the target after it

-- the image at its front, and the bytes behind it as they were; spec 11.4: a refused call leaves all of it
abbrev pub carried_into : CarryAnswer → List ℕ → List ℕ → List ℕ
carried_into (Ok done) image target = image ++ drop (length image) target
carried_into (Err CarryRefusal.SourceLength) image target = target
carried_into (Err CarryRefusal.AddedBytes) image target = target
carried_into (Err CarryRefusal.TargetLength) image target = target

unfoldable pub forward_into : List ℕ → List ℕ → List ℕ
forward_into source target = carried_into (forward_answer source target) (carried_forward source) target

unfoldable pub back_into : List ℕ → List ℕ → List ℕ
back_into source target = carried_into (back_answer source target) (carried_back source) target

-- ---- the causes in their order, as demand 1 has them

abbrev pub forward_causes : List ℕ → List ℕ → List Cause
forward_causes source target = cause 10 (not (eqb (length source) old_length)) ∷ cause 9 (not (leb image_length (length target))) ∷ []

abbrev pub back_causes : List ℕ → List ℕ → List Cause
back_causes source target =
    cause 10 (not (eqb (length source) image_length))
    ∷ cause 11 (not (has_added source))
    ∷ cause 9 (not (leb old_length (length target)))
    ∷ []
