-- No other way of carrying over does what is claimed of it: every 45 bytes are the old image of a record, so the claims say what becomes of them.
-- Assumes nothing.
use mathlib.Core.Path.{◌≡◌, refl, sym, ap, ap₂, ◌∙◌}
use mathlib.Core.List.{List, [], ◌∷◌, ◌++◌}
use Prim.Native.Nat.{ℕ, zero, suc, ◌+◌, ◌*◌, ◌/◌, ◌%◌, ◌≤◌, ◌<◌}
use native.Mathlib.Omega.{arith}
use lib.Dec.{lit<}
use lib.IntN.{pos}
use lib.ListN.{length, take, drop, get_or, take-append-drop, length-drop}
use lib.Seq.{length-take-le, take-suc}
use Rattle.rules.specs.Images.{number_bytes, Field, field, field_bytes, image, image_length}
use Rattle.rules.specs.declared.Board.{Board}
use Rattle.causes.specs.FirstCause.{first}
use Rattle.oldimages.specs.OldImages.{old_length, added_bytes}
use Rattle.carryover.specs.CarryOver.{carried_forward, forward_causes, back_causes}
use Rattle.carryover.specs.Carries.{CarryOutcome, CarryOperation, our_forward, our_back, AllBytes, CarryRefusedRightly, new_in, old_in, old_fields, old_image, recovered, CarriesRecords}
use Rattle.carryover.proofs.Carrying.{whole, refused-rightly}
use Rattle.carryover.proofs.Numbered.{numbered}
use Rattle.demands.proofs.CarryOver.{recovered-image, same_old, carries-records}

-- ---- numbers from bytes

-- the number that the first bytes make, high byte first
value : ℕ → List ℕ → ℕ
value zero l = 0
value (suc k) l = value k l * 256 + get_or l k 0

byte_at : (l : List ℕ) → AllBytes l → (i : ℕ) → get_or l i 0 < 256
byte_at [] a i = lit< tt
byte_at (b ∷ l) a zero = a.0
byte_at (b ∷ l) a (suc i) = byte_at l a.1 i

bytes_after : (n : ℕ) (l : List ℕ) → AllBytes l → AllBytes (drop n l)
bytes_after zero l a = a
bytes_after (suc n) [] a = a
bytes_after (suc n) (b ∷ l) a = bytes_after n l a.1

bytes-before : (n : ℕ) (l : List ℕ) → AllBytes l → AllBytes (take n l)
bytes-before zero l a = tt
bytes-before (suc n) [] a = a
bytes-before (suc n) (b ∷ l) a = (a.0, bytes-before n l a.1)

made_of : (k : ℕ) (l : List ℕ) → AllBytes l → k ≤ length l → number_bytes k (value k l) ≡ take k l
unfolding number_bytes value
made_of zero l a h = refl
made_of (suc k) l a h =
    let low = byte_at l a k in
    let high : (value k l * 256 + get_or l k 0) / 256 ≡ value k l = omega (arith, low) in
    let last : (value k l * 256 + get_or l k 0) % 256 ≡ get_or l k 0 = omega (arith, low) in
    rw (high, last, made_of k l a (omega arith)) (sym (take-suc l k 0 (omega arith)))

-- ---- fields from bytes

read_fields : List ℕ → List ℕ → List Field
read_fields [] l = []
read_fields (w ∷ ws) l = field w (value w l) ∷ read_fields ws (drop w l)

total : List ℕ → ℕ
total [] = 0
total (w ∷ ws) = w + total ws

read_back : (ws l : List ℕ) → AllBytes l → total ws ≡ length l → field_bytes (read_fields ws l) ≡ l
unfolding field_bytes read_fields total
read_back [] [] a e = refl
read_back [] (b ∷ l) a e = absurd (omega arith)
read_back (w ∷ ws) l a e =
    let rest = read_back ws (drop w l) (bytes_after w l a) (omega (arith, e, length-drop w l)) in
    ap₂ ◌++◌ (made_of w l a (omega arith)) rest ∙ take-append-drop w l

-- ---- the record of an old image

numbers_in : ℕ → List ℕ → List ℕ
numbers_in zero l = []
numbers_in (suc n) l = value 4 l ∷ numbers_in n (drop 4 l)

after_numbers : ℕ → List ℕ → List ℕ
after_numbers zero l = l
after_numbers (suc n) l = after_numbers n (drop 4 l)

read_old : List ℕ → Board
read_old l =
    let rest = after_numbers 9 (drop 1 l) in
    record {
      status = value 1 l;
      counters = numbers_in 9 (drop 1 l);
      ramp = value 4 rest;
      watts = value 2 (drop 4 rest);
      vars = pos (value 2 (drop 2 (drop 4 rest)));
      recovery = 0;
      side = 0;
      held = 0;
    }

old_widths : List ℕ
old_widths = 1 ∷ 4 ∷ 4 ∷ 4 ∷ 4 ∷ 4 ∷ 4 ∷ 4 ∷ 4 ∷ 4 ∷ 4 ∷ 2 ∷ 2 ∷ []

read-old : (l : List ℕ) → AllBytes l → length l ≡ old_length → old_image (read_old l) ≡ l
unfolding old_image old_fields read_old numbers_in after_numbers old_widths read_fields total
read-old l a e = read_back old_widths l a (sym e)

nine-read : (l : List ℕ) → length (read_old l).counters ≡ 9
unfolding read_old numbers_in
nine-read l = refl

-- ---- no choice

same-bytes : (k : ℕ) (x y : List ℕ) → take k x ≡ take k y → drop k x ≡ drop k y → x ≡ y
same-bytes k x y front rest = sym (take-append-drop k x) ∙ ap₂ ◌++◌ front rest ∙ take-append-drop k y

same_outcome : {o p : CarryOutcome} → o.number ≡ p.number → o.target ≡ p.target → o ≡ p
same_outcome e₁ e₂ = made e₁ e₂
  where
    made : {m n : ℕ} {x y : List ℕ} → m ≡ n → x ≡ y
        → ◌≡◌ {A = CarryOutcome} (record { number = m; target = x }) (record { number = n; target = y })
    made e₁ e₂ = rw (e₁, e₂)

-- an image that can be carried back is that of a record with a full recovery count, no side and no held power
record-of : (source : List ℕ) → AllBytes source → (length source ≡ image_length) × (drop old_length source ≡ added_bytes)
    → image (recovered (read_old (take old_length source))) ≡ source
record-of source bytes told =
    let front = take old_length source in
    let old = read-old front (bytes-before old_length source bytes) (length-take-le old_length source (omega (arith, told.0))) in
    recovered-image (read_old front) ∙ ap carried_forward old ∙ whole source told.1

-- what operations that carry records make of any bytes: the source is some record's image
module _ (forward back : CarryOperation) (records : CarriesRecords forward back) (source target : List ℕ) (bytes : AllBytes source) where
  new-image : length source ≡ old_length → image_length ≤ length target → new_in (forward source target) ≡ image (recovered (read_old source))
  new-image measured room = rw (read-old source bytes measured) at (records.forward-image (read_old source) target (nine-read source) room).1

  of-record : (b : Board) (x : List ℕ) → length b.counters ≡ 9 → image b ≡ x → (back x target).number ≡ 0 → old_in (back x target) ≡ old_image b
  of-record b x nine e none = rw (← e) (records.back-image b target nine (rw e none))

  old-image : (length source ≡ image_length) × (drop old_length source ≡ added_bytes) → (back source target).number ≡ 0
      → old_in (back source target) ≡ old_image (read_old (take old_length source))
  old-image told none =
      let b = read_old (take old_length source) in
      of-record (recovered b) source (nine-read (take old_length source)) (record-of source bytes told) none ∙ same_old b

module _ (forward back : CarryOperation) (refuses : CarryRefusedRightly forward back) (records : CarriesRecords forward back)
    (source target : List ℕ) (bytes : AllBytes source) where
  -- by the number of the first cause
  forward-target : (n : ℕ) → first (forward_causes source target) ≡ n → (forward source target).target ≡ (our_forward source target).target
  forward-target zero e =
      let told = (numbered.forward-0 source target).0 (refused-rightly.forward-number source target ∙ e) in
      let theirs = new-image forward back records source target bytes told.0 told.1 in
      let ours = new-image our_forward our_back carries-records source target bytes told.0 told.1 in
      same-bytes image_length _ _ (theirs ∙ sym ours) (refuses.forward-rest source target ∙ sym (refused-rightly.forward-rest source target))
  forward-target (suc n) e =
      refuses.forward-keeps source target (omega (arith, refuses.forward-number source target, e))
      ∙ sym (refused-rightly.forward-keeps source target (omega (arith, refused-rightly.forward-number source target, e)))

  back_target : (n : ℕ) → first (back_causes source target) ≡ n → (back source target).target ≡ (our_back source target).target
  back_target zero e =
      let none = refused-rightly.back-number source target ∙ e in
      let told = (numbered.back-0 source target).0 none in
      let theirs = old-image forward back records source target bytes (told.0, told.1) (refuses.back-number source target ∙ e) in
      let ours = old-image our_forward our_back carries-records source target bytes (told.0, told.1) none in
      same-bytes old_length _ _ (theirs ∙ sym ours) (refuses.back-rest source target ∙ sym (refused-rightly.back-rest source target))
  back_target (suc n) e =
      refuses.back-keeps source target (omega (arith, refuses.back-number source target, e))
      ∙ sym (refused-rightly.back-keeps source target (omega (arith, refused-rightly.back-number source target, e)))

  pub one-carry-over : (forward source target ≡ our_forward source target) × (back source target ≡ our_back source target)
  one-carry-over = (
    same_outcome (refuses.forward-number source target ∙ sym (refused-rightly.forward-number source target)) (forward-target _ refl),
    same_outcome (refuses.back-number source target ∙ sym (refused-rightly.back-number source target)) (back_target _ refl),
  )
