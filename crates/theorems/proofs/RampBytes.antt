-- The ramp count's place in an image (spec 9.1): what stands before it, its own four bytes, and what stands behind it.
-- Assumes nothing.
use mathlib.Core.Path.{◌≡◌, refl, sym, ap, ◌∙◌}
use mathlib.Core.List.{List, [], ◌∷◌, ◌++◌, append_assoc, map}
use Prim.Native.Nat.{ℕ, ◌+◌, ◌*◌, ◌%◌, ◌≤◌, min}
use native.Mathlib.Omega.{arith}
use lib.ListN.{length, length-append, take, drop, get_or}
use lib.Seq.{take_at, drop_at}
use Rattle.rules.specs.Statuses.{top_status}
use Rattle.rules.specs.Samples.{Equipment}
use Rattle.rules.specs.History.{History, climbed}
use Rattle.rules.specs.Images.{number_bytes, Field, field, field_bytes, twos_complement, image_fields, image}
use Rattle.rules.specs.declared.Settings.{Settings}
use Rattle.rules.specs.declared.Board.{Board}
use Rattle.claims.specs.TripAndReturn.{record_of}
use Rattle.claims.specs.RampPairs.{RampAlone}
use Rattle.theorems.proofs.Trace.{nine-counters, ramp-is}
use Rattle.laws.proofs.Images.{widths, length_fields, fields-then, number-length}

abbrev front_fields : Board → List Field
front_fields b = field 1 b.status ∷ map (field 4) b.counters

abbrev rest_fields : Board → List Field
rest_fields b =
    field 2 b.watts ∷ field 2 (twos_complement b.vars) ∷ field 1 b.recovery ∷ field 1 b.side ∷ field 2 b.held ∷ []

counters-wide : (ns : List ℕ) → widths (map (field 4) ns) ≡ length ns * 4
counters-wide [] = refl
counters-wide (n ∷ ns) = omega (arith, counters-wide ns)

module _ (b : Board) (nine : length b.counters ≡ 9) where
  abbrev front : List ℕ
  front = field_bytes (front_fields b)

  abbrev ramp-part : List ℕ
  ramp-part = number_bytes 4 b.ramp

  image-is : image b ≡ front ++ (ramp-part ++ field_bytes (rest_fields b))
  unfolding image image_fields field_bytes
  image-is = fields-then (front_fields b) (field 4 b.ramp ∷ rest_fields b)

  front_long : length front ≡ 37
  front_long = length_fields (front_fields b) ∙ omega (arith, counters-wide b.counters, nine)

  both_long : length (front ++ ramp-part) ≡ 41
  both_long = length-append front ramp-part ∙ omega (arith, front_long, number-length 4 b.ramp)

  pub before-ramp : take 37 (image b) ≡ field_bytes (front_fields b)
  before-ramp = ap (take 37) image-is ∙ take_at front (ramp-part ++ field_bytes (rest_fields b)) 37 front_long

  split : image b ≡ (front ++ ramp-part) ++ field_bytes (rest_fields b)
  split = image-is ∙ sym (append_assoc front ramp-part (field_bytes (rest_fields b)))

  pub behind-ramp : drop 41 (image b) ≡ field_bytes (rest_fields b)
  behind-ramp = ap (drop 41) split ∙ drop_at (front ++ ramp-part) (field_bytes (rest_fields b)) 41 both_long

  pub ramp-bytes : drop 37 (take 41 (image b)) ≡ number_bytes 4 b.ramp
  ramp-bytes =
      ap (drop 37) (ap (take 41) split ∙ take_at (front ++ ramp-part) (field_bytes (rest_fields b)) 41 both_long)
      ∙ drop_at front ramp-part 37 front_long

-- images that are equal before the ramp count are of one status
pub same-status : (b c : Board) → b.status ≤ top_status → c.status ≤ top_status → take 37 (image b) ≡ take 37 (image c) → b.status ≡ c.status
unfolding image image_fields field_bytes number_bytes
same-status b c hb hc e =
    let s : b.status % 256 ≡ c.status % 256 = ap (λ (l : List ℕ). get_or l 0 0) e in
    omega arith

-- where the images differ in the ramp count's bytes, the counts do
pub counts-differ : (e : Equipment) (st : Settings) (h g : History) → RampAlone (image (record_of e st h)) (image (record_of e st g))
    → ¬ (min st.ramp (climbed e st h) ≡ min st.ramp (climbed e st g))
counts-differ e st h g r same =
    r.ramp
    (ramp-bytes (record_of e st h) (nine-counters e st h)
    ∙ ap (number_bytes 4) (ramp-is e st h ∙ same ∙ sym (ramp-is e st g))
    ∙ sym (ramp-bytes (record_of e st g) (nine-counters e st g)))
