-- Spec 9.5 to 9.8, 13.10: what is claimed of any two operations that could be called carrying forward and carrying back.
-- Assumes nothing.
use Rattle.std.specs.Prelude.{◌≡◌, ◌↔◌, List, [], ◌∷◌, ◌++◌, map, ℕ, ◌≤◌, ◌<◌, length, take, drop}
use Rattle.rules.specs.Droop.{no_side}
use Rattle.rules.specs.Service.{recovery_top}
use Rattle.rules.specs.Images.{Field, field, field_bytes, twos_complement, image, image_length}
use Rattle.rules.specs.declared.Settings.{Settings}
use Rattle.rules.specs.declared.Board.{Board}
use Rattle.causes.specs.Calls.{Call, Program, run_of, Under}
use Rattle.causes.specs.FirstCause.{first}
use Rattle.oldimages.specs.OldImages.{old_length, added_bytes}
use Rattle.carryover.specs.CarryOver.{carry_number, forward_answer, back_answer, forward_into, back_into, forward_causes, back_causes}

-- what comes of a call: the number that it answers, and the target as it leaves it
pub record CarryOutcome : Type 0 where
  pub number : ℕ
  pub target : List ℕ

-- an operation on lent bytes, from its source and its target
abbrev pub CarryOperation : Type 0
CarryOperation = List ℕ → List ℕ → CarryOutcome

-- ours, in the words of their contracts
unfoldable pub our_forward : CarryOperation
our_forward source target = record { number = carry_number (forward_answer source target); target = forward_into source target }

unfoldable pub our_back : CarryOperation
our_back source target = record { number = carry_number (back_answer source target); target = back_into source target }

-- lent bytes are numbers of 8 bits
abbrev pub AllBytes : List ℕ → Type 0
AllBytes [] = Unit {0}
AllBytes (b ∷ l) = (b < 256) × AllBytes l

-- ---- demand 1

-- each is refused by the number of its first cause, and only then; a refused call leaves the target as it was, and every call the bytes behind the image
pub record CarryRefusedRightly (forward back : CarryOperation) : Type 0 where
  pub forward-number : (source target : List ℕ) → (forward source target).number ≡ first (forward_causes source target)
  pub back-number : (source target : List ℕ) → (back source target).number ≡ first (back_causes source target)
  pub forward-keeps : (source target : List ℕ) → 0 < (forward source target).number → (forward source target).target ≡ target
  pub back-keeps : (source target : List ℕ) → 0 < (back source target).number → (back source target).target ≡ target
  pub forward-rest : (source target : List ℕ) → drop image_length (forward source target).target ≡ drop image_length target
  pub back-rest : (source target : List ℕ) → drop old_length (back source target).target ≡ drop old_length target

-- the same numbers, each by what it is given for (spec 9.8)
pub record CarryNumbered (forward back : CarryOperation) : Type 0 where
  pub forward-10 : (source target : List ℕ) → ((forward source target).number ≡ 10) ↔ (¬ (length source ≡ 45))
  pub forward-9 : (source target : List ℕ) → ((forward source target).number ≡ 9) ↔ ((length source ≡ 45) × (length target < 49))
  pub forward-0 : (source target : List ℕ) → ((forward source target).number ≡ 0) ↔ ((length source ≡ 45) × (49 ≤ length target))
  pub back-10 : (source target : List ℕ) → ((back source target).number ≡ 10) ↔ (¬ (length source ≡ 49))
  pub back-11 : (source target : List ℕ)
      → ((back source target).number ≡ 11) ↔ ((length source ≡ 49) × (¬ (drop 45 source ≡ 40 ∷ 0 ∷ 0 ∷ 0 ∷ [])))
  pub back-9 : (source target : List ℕ)
      → ((back source target).number ≡ 9) ↔ ((length source ≡ 49) × (drop 45 source ≡ 40 ∷ 0 ∷ 0 ∷ 0 ∷ []) × (length target < 45))
  pub back-0 : (source target : List ℕ)
      → ((back source target).number ≡ 0) ↔ ((length source ≡ 49) × (drop 45 source ≡ 40 ∷ 0 ∷ 0 ∷ 0 ∷ []) × (45 ≤ length target))

-- ---- there and back

-- the image that stands in a target after it
abbrev pub new_in : CarryOutcome → List ℕ
new_in outcome = take image_length outcome.target

abbrev pub old_in : CarryOutcome → List ℕ
old_in outcome = take old_length outcome.target

-- whatever bytes an image has, and whatever stands in targets with room for it
pub record RoundTrips (forward back : CarryOperation) : Type 0 where
  -- an old image can be carried forward, and back again, and is what it was
  pub old-new-old : (old t u : List ℕ) → length old ≡ old_length → image_length ≤ length t → old_length ≤ length u
      → ((forward old t).number ≡ 0) × ((back (new_in (forward old t)) u).number ≡ 0) × (old_in (back (new_in (forward old t)) u) ≡ old)
  -- a new image that can be carried back can be carried forward again, and is what it was
  pub new-old-new : (new t u : List ℕ) → (back new t).number ≡ 0 → image_length ≤ length u
      → ((forward (old_in (back new t)) u).number ≡ 0) × (new_in (forward (old_in (back new t)) u) ≡ new)
  -- a new image can be carried back exactly where its last bytes are those that carrying forward appends: 40, 0, 0, 0
  pub allowed : (new t : List ℕ) → length new ≡ image_length → old_length ≤ length t → ((back new t).number ≡ 0) ↔ (drop old_length new ≡ added_bytes)

-- ---- the images of records

-- spec 9.5: an old image has the fields of spec 9.1 before the recovery count
unfoldable pub old_fields : Board → List Field
old_fields b =
    field 1 b.status
    ∷ (map (field 4) b.counters ++ (field 4 b.ramp ∷ field 2 b.watts ∷ field 2 (twos_complement b.vars) ∷ []))

unfoldable pub old_image : Board → List ℕ
old_image b = field_bytes (old_fields b)

-- a record with its recovery count full, on no side, and with no held power
abbrev pub recovered : Board → Board
recovered b =
    record {
      status = b.status;
      counters = b.counters;
      ramp = b.ramp;
      watts = b.watts;
      vars = b.vars;
      recovery = recovery_top;
      side = no_side;
      held = 0;
    }

-- of a record with nine counters, a recovery count and a side of 8 bits, and a held power of 16
pub record CarriesRecords (forward back : CarryOperation) : Type 0 where
  -- its old image becomes the image of the record with a full recovery count, no side and no held power
  pub forward-image : (b : Board) (t : List ℕ) → length b.counters ≡ 9 → image_length ≤ length t
      → ((forward (old_image b) t).number ≡ 0) × (new_in (forward (old_image b) t) ≡ image (recovered b))
  -- its image can be carried back exactly where it has these itself, and becomes its old image
  pub back-allowed : (b : Board) (t : List ℕ) → length b.counters ≡ 9 → b.recovery < 256 → b.side < 256 → b.held < 65536 → old_length ≤ length t
      → ((back (image b) t).number ≡ 0) ↔ ((b.recovery ≡ recovery_top) × (b.side ≡ no_side) × (b.held ≡ 0))
  pub back-image : (b : Board) (t : List ℕ) → length b.counters ≡ 9 → (back (image b) t).number ≡ 0 → old_in (back (image b) t) ≡ old_image b

-- ---- the images of histories

-- of a board program, after any list of calls on one record from its beginning (spec 12.1), under one sheet
pub record CarriesHistoriesBack (back : CarryOperation) (p : Program) (st : Settings) : Type 0 where
  -- its image can be carried back exactly where the last report shows a full recovery count, no side and no held power
  pub shown : (cs : List Call) → Under st cs → (t : List ℕ) → old_length ≤ length t
      → ((back (image (run_of p cs).board) t).number ≡ 0)
      ↔ (((run_of p cs).report.recovery ≡ recovery_top) × ((run_of p cs).report.side ≡ no_side) × ((run_of p cs).report.held ≡ 0))
  -- and so where it says tripped
  pub tripped : (cs : List Call) → Under st cs → (t : List ℕ) → old_length ≤ length t → (run_of p cs).report.status ≡ 0
      → (back (image (run_of p cs).board) t).number ≡ 0
