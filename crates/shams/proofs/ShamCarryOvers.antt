-- Each sham way of carrying over is caught, by one or two calls.
-- Assumes nothing.
use mathlib.Core.Path.{◌≡◌, refl, sym, ap, ap₂, ◌∙◌}
use mathlib.Core.Bool.{not}
use mathlib.Core.List.{List, [], ◌∷◌, ◌++◌}
use Prim.Native.Nat.{ℕ, ◌≤◌}
use native.Mathlib.Omega.{arith}
use lib.Dec.{eqb, leb, lit<, lit≤}
use lib.IntN.{pos}
use lib.ListN.{length, take, drop, get_or, replicate}
use Rattle.rules.specs.Images.{number_bytes, field_bytes, image_fields, image, image_length}
use Rattle.rules.specs.declared.Board.{Board}
use Rattle.causes.specs.FirstCause.{cause, first}
use Rattle.oldimages.specs.OldImages.{old_length, added_bytes, same_bytes}
use Rattle.carryover.specs.CarryOver.{forward_answer, back_answer, forward_into}
use Rattle.carryover.specs.CarryOver.{forward_causes, back_causes}
use Rattle.carryover.proofs.Carrying.{refused-rightly, round-trips, new_is, old-is}
use Rattle.carryover.specs.Carries.{our_forward, our_back, CarryRefusedRightly, new_in, old_in, RoundTrips, old_fields}
use Rattle.carryover.specs.Carries.{old_image, CarriesRecords}
use Rattle.shams.specs.ShamCarryOvers.{added_first, room_first, drops_any, carries_what_fits, appends_less, swapped}
use Rattle.shams.specs.ShamCarryOvers.{swaps_forward, swaps_back}

abbrev zeros : ℕ → List ℕ
zeros n = replicate n 0

-- no bytes at all
pub added-first : ¬ CarryRefusedRightly our_forward added_first
unfolding added_first
added-first d =
    let e : ◌≡◌ {A = ℕ} 11 10 = d.back-number [] [] in
    omega arith

-- an image of zeros, and a target without room
pub room-first : ¬ CarryRefusedRightly our_forward room_first
unfolding room_first
room-first d =
    let e : ◌≡◌ {A = ℕ} 9 11 = d.back-number (zeros 49) [] in
    omega arith

-- an old image of ones, and a target of one byte
pub what-fits : ¬ CarryRefusedRightly carries_what_fits our_back
unfolding carries_what_fits
what-fits d =
    let e : ◌≡◌ {A = ℕ} 1 0 = ap (λ (bytes : List ℕ). get_or bytes 0 0) (d.forward-keeps (replicate 45 1) (0 ∷ []) (lit< tt)) in
    omega arith

-- what was carried forward so cannot be carried back
pub appends-less : ¬ RoundTrips appends_less our_back
unfolding appends_less our_back back_answer
appends-less d =
    let e : ◌≡◌ {A = ℕ} 11 0 = (d.old-new-old (zeros 45) (zeros 49) (zeros 45) refl (lit≤ tt) (lit≤ tt)).1 in
    omega arith

-- an image with a recovery count of 0 would come back with 40
pub drops-any : ¬ RoundTrips our_forward drops_any
unfolding drops_any our_forward forward_answer forward_into
drops-any d =
    let e : ◌≡◌ {A = ℕ} 40 0 = ap (λ (bytes : List ℕ). get_or bytes 45 0) (d.new-old-new (zeros 49) (zeros 45) (zeros 49) refl (lit≤ tt)).1 in
    omega arith

-- ---- two bytes swapped: right refusals and round trips, and another image

swapped-length : (l : List ℕ) → length (swapped l) ≡ length l
swapped-length [] = refl
swapped-length (a ∷ []) = refl
swapped-length (a ∷ b ∷ l) = refl

swapped-twice : (l : List ℕ) → swapped (swapped l) ≡ l
swapped-twice [] = refl
swapped-twice (a ∷ []) = refl
swapped-twice (a ∷ b ∷ l) = refl

swapped-then : (l r : List ℕ) → 2 ≤ length l → swapped (l ++ r) ≡ swapped l ++ r
swapped-then [] r h = absurd (omega arith)
swapped-then (a ∷ []) r h = absurd (omega arith)
swapped-then (a ∷ b ∷ l) r h = refl

swapped-front : (l : List ℕ) → swapped (take old_length l) ≡ take old_length (swapped l)
swapped-front [] = refl
swapped-front (a ∷ []) = refl
swapped-front (a ∷ b ∷ l) = refl

swapped-rest : (l : List ℕ) → drop old_length (swapped l) ≡ drop old_length l
swapped-rest [] = refl
swapped-rest (a ∷ []) = refl
swapped-rest (a ∷ b ∷ l) = refl

forward-alike : (s t : List ℕ) → (swaps_forward s t).number ≡ first (forward_causes s t)
unfolding swaps_forward
forward-alike s t =
    refused-rightly.forward-number (swapped s) t
    ∙ ap (λ (n : ℕ). first (cause 10 (not (eqb n old_length)) ∷ cause 9 (not (leb image_length (length t))) ∷ [])) (swapped-length s)

back-alike : (s t : List ℕ) → (swaps_back s t).number ≡ first (back_causes s t)
unfolding swaps_back
back-alike s t =
    refused-rightly.back-number (swapped s) t
    ∙ ap₂ (λ (n : ℕ) (r : List ℕ). first (cause 10 (not (eqb n image_length)) ∷ cause 11 (not (same_bytes r added_bytes)) ∷ cause 9 (not (leb old_length (length t))) ∷ []))
    (swapped-length s) (swapped-rest s)

-- as ours
back-same : (s t : List ℕ) → (swaps_back s t).number ≡ 0 → (our_back s t).number ≡ 0
back-same s t none = refused-rightly.back-number s t ∙ sym (back-alike s t) ∙ none

swaps-refuse : CarryRefusedRightly swaps_forward swaps_back
unfolding swaps_forward swaps_back
swaps-refuse =
    record {
      forward-number = forward-alike;
      back-number = back-alike;
      forward-keeps = λ s t h. refused-rightly.forward-keeps (swapped s) t h;
      back-keeps = λ s t h. refused-rightly.back-keeps (swapped s) t h;
      forward-rest = λ s t. refused-rightly.forward-rest (swapped s) t;
      back-rest = λ s t. refused-rightly.back-rest (swapped s) t;
    }

-- swapped once on the way there and once more on the way back
swapped-new : (old t : List ℕ) → length old ≡ old_length → image_length ≤ length t → swapped (new_in (our_forward (swapped old) t)) ≡ new_in (our_forward old t)
swapped-new old t measured room =
    ap swapped (new_is (swapped old) t (swapped-length old ∙ measured) room)
    ∙ swapped-then (swapped old) added_bytes (omega (arith, swapped-length old, measured))
    ∙ ap (λ (l : List ℕ). l ++ added_bytes) (swapped-twice old)
    ∙ sym (new_is old t measured room)

swapped-old : (new t : List ℕ) → (swaps_back new t).number ≡ 0 → swapped (old_in (swaps_back new t)) ≡ old_in (our_back new t)
unfolding swaps_back
swapped-old new t none =
    ap swapped (old-is (swapped new) t none)
    ∙ swapped-front (swapped new)
    ∙ ap (take old_length) (swapped-twice new)
    ∙ sym (old-is new t (back-same new t none))

swaps-trip : RoundTrips swaps_forward swaps_back
unfolding swaps_forward swaps_back
swaps-trip =
    record {
      old-new-old = λ old t u measured room room'.
          let trip = round-trips.old-new-old old t u measured room room' in
          let new = swapped-new old t measured room in
          ((round-trips.old-new-old (swapped old) t u (swapped-length old ∙ measured) room room').0, rw new trip.1, rw new trip.2);
      new-old-new = λ new t u none room.
          let trip = round-trips.new-old-new new t u (back-same new t none) room in
          rw (swapped-old new t none) trip;
      allowed = λ new t measured room.
          let allowed = round-trips.allowed (swapped new) t (swapped-length new ∙ measured) room in
          (λ none. sym (swapped-rest new) ∙ allowed.0 none, λ added. allowed.1 (swapped-rest new ∙ added));
    }

-- the image of a board that is entering service begins with 1
entering : Board
entering = record { status = 1; counters = replicate 9 0; ramp = 0; watts = 0; vars = pos 0; recovery = 40; side = 0; held = 0 }

no-image : ¬ CarriesRecords swaps_forward swaps_back
unfolding swaps_forward our_forward forward_answer forward_into entering old_image old_fields image image_fields field_bytes number_bytes
no-image d =
    let e : ◌≡◌ {A = ℕ} 0 1 = ap (λ (bytes : List ℕ). get_or bytes 0 0) (d.forward-image entering (zeros 49) refl (lit≤ tt)).1 in
    omega arith

pub swaps-caught : CarryRefusedRightly swaps_forward swaps_back × RoundTrips swaps_forward swaps_back × (¬ CarriesRecords swaps_forward swaps_back)
swaps-caught = (swaps-refuse, swaps-trip, no-image)
