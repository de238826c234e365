-- Carrying over, and the images of records: an old image is a record's image but for its last four bytes, which hold recovery count, side and held power.
-- Assumes nothing.
use mathlib.Core.Path.{◌≡◌, refl, sym, ap, ◌∙◌}
use mathlib.Core.Bool.{true}
use mathlib.Core.Logic.{◌↔◌}
use mathlib.Core.List.{List, [], ◌∷◌, ◌++◌, append_assoc, map}
use Prim.Native.Nat.{ℕ, ◌/◌, ◌%◌, ◌≤◌, ◌<◌}
use native.Mathlib.Omega.{arith}
use lib.ListN.{length, take, drop, get_or, length-append}
use lib.Seq.{take_at, drop_at}
use Rattle.rules.specs.Settings.{settings_accepted}
use Rattle.rules.specs.Droop.{no_side}
use Rattle.rules.specs.Service.{recovery_top}
use Rattle.rules.specs.Images.{number_bytes, Field, field, field_bytes, twos_complement, image_fields, image, image_length}
use Rattle.rules.specs.Samples.{Equipment}
use Rattle.rules.specs.Reports.{report_of}
use Rattle.rules.specs.History.{History, history_report}
use Rattle.rules.specs.declared.Settings.{Settings}
use Rattle.rules.specs.declared.Board.{Board}
use Rattle.causes.specs.Calls.{Call, ruled_by, run_of, accepted_samples, Under}
use Rattle.claims.specs.Sound.{Sound}
use Rattle.claims.specs.TripAndReturn.{record_of}
use Rattle.laws.proofs.Events.{recovery-top, side-below, tripped-side, side-none, held-top}
use Rattle.theorems.proofs.Trace.{nine-counters, recovery-is, side-is, held-is}
use Rattle.theorems.proofs.Demand2.{tripped-of, run_is}
use Rattle.theorems.proofs.Recovery.{restores-power}
use Rattle.laws.proofs.Images.{fields-then, image-length}
use Rattle.oldimages.specs.OldImages.{old_length, added_bytes}
use Rattle.carryover.specs.CarryOver.{carried_forward}
use Rattle.carryover.specs.Carries.{our_forward, our_back, new_in, old_in, old_fields, old_image, recovered, CarriesRecords, CarriesHistoriesBack}
use Rattle.carryover.proofs.Carrying.{forward-none, new_is, old-is, round-trips}

-- ---- the fields of the two images

-- those that an old image has not, and their bytes
abbrev new_fields : Board → List Field
new_fields b = field 1 b.recovery ∷ field 1 b.side ∷ field 2 b.held ∷ []

abbrev new_bytes : Board → List ℕ
new_bytes b = b.recovery % 256 ∷ b.side % 256 ∷ b.held / 256 % 256 ∷ b.held % 256 ∷ []

with-new : (b : Board) → image_fields b ≡ old_fields b ++ new_fields b
unfolding image_fields old_fields
with-new b =
    ap (λ (fs : List Field). field 1 b.status ∷ fs)
    (sym (append_assoc (map (field 4) b.counters) (field 4 b.ramp ∷ field 2 b.watts ∷ field 2 (twos_complement b.vars) ∷ []) (new_fields b)))

new-bytes : (b : Board) → field_bytes (new_fields b) ≡ new_bytes b
unfolding field_bytes number_bytes
new-bytes b = refl

image-parts : (b : Board) → image b ≡ old_image b ++ new_bytes b
unfolding image old_image
image-parts b =
    ap field_bytes (with-new b) ∙ fields-then (old_fields b) (new_fields b)
    ∙ ap (λ (x : List ℕ). field_bytes (old_fields b) ++ x) (new-bytes b)

module _ (b : Board) (nine : length b.counters ≡ 9) where
  old-length : length (old_image b) ≡ old_length
  old-length = omega (arith, image-length b nine, ap length (image-parts b), length-append (old_image b) (new_bytes b))

  last-bytes : drop old_length (image b) ≡ new_bytes b
  last-bytes = rw (image-parts b) (drop_at (old_image b) (new_bytes b) old_length old-length)

-- ---- what becomes of them

-- recovery count, side and held power are those that carrying forward appends
abbrev AsAdded : ℕ → ℕ → ℕ → Type 0
AsAdded recovery side held = (recovery ≡ recovery_top) × (side ≡ no_side) × (held ≡ 0)

-- recovery count, side and held power are not among the old fields
pub same_old : (b : Board) → old_image (recovered b) ≡ old_image b
unfolding old_image old_fields
same_old b = refl

pub recovered-image : (b : Board) → image (recovered b) ≡ carried_forward (old_image b)
recovered-image b = image-parts (recovered b) ∙ ap (λ (x : List ℕ). x ++ added_bytes) (same_old b)

module _ (b : Board) (t : List ℕ) (nine : length b.counters ≡ 9) where
  forward-image : image_length ≤ length t → ((our_forward (old_image b) t).number ≡ 0) × (new_in (our_forward (old_image b) t) ≡ image (recovered b))
  forward-image room =
      let measured = old-length b nine in
      (forward-none (old_image b) t measured room, new_is (old_image b) t measured room ∙ sym (recovered-image b))

  -- byte by byte
  as_added : new_bytes b ≡ added_bytes → b.recovery < 256 → b.side < 256 → b.held < 65536 → AsAdded b.recovery b.side b.held
  as_added same fits₁ fits₂ fits₃ =
      let byte : (i : ℕ) → get_or (new_bytes b) i 0 ≡ get_or added_bytes i 0 = λ i. ap (λ (l : List ℕ). get_or l i 0) same in
      (omega (arith, byte 0, fits₁), omega (arith, byte 1, fits₂), omega (arith, byte 2, byte 3, fits₃))

  back-allowed : b.recovery < 256 → b.side < 256 → b.held < 65536 → old_length ≤ length t
      → ((our_back (image b) t).number ≡ 0) ↔ AsAdded b.recovery b.side b.held
  back-allowed fits₁ fits₂ fits₃ room =
      let bytes = last-bytes b nine in
      let allowed = round-trips.allowed (image b) t (image-length b nine) room in
      (λ none. as_added (sym bytes ∙ allowed.0 none) fits₁ fits₂ fits₃, λ p. allowed.1 (bytes ∙ rw (p.0, p.1, p.2)))

  back-image : (our_back (image b) t).number ≡ 0 → old_in (our_back (image b) t) ≡ old_image b
  back-image none =
      old-is (image b) t none ∙ ap (take old_length) (image-parts b) ∙ take_at (old_image b) (new_bytes b) old_length (old-length b nine)

pub carries-records : CarriesRecords our_forward our_back
carries-records =
    record {
      forward-image = λ b t nine room. forward-image b t nine room;
      back-allowed = λ b t nine fits₁ fits₂ fits₃ room. back-allowed b t nine fits₁ fits₂ fits₃ room;
      back-image = λ b t nine none. back-image b t nine none;
    }

-- ---- after a list of calls

module _ (e : Equipment) (sound : Sound e) (st : Settings) (ok : settings_accepted st ≡ true) where
  record-back : (h : History) (t : List ℕ) → old_length ≤ length t
      → ((our_back (image (record_of e st h)) t).number ≡ 0)
      ↔ AsAdded (history_report e st h).recovery (history_report e st h).side (history_report e st h).held
  unfolding history_report
  record-back h t room =
      let recovery = recovery-is e st h in
      let side = side-is e st h in
      let held = held-is e st h in
      let allowed = back-allowed (record_of e st h) t (nine-counters e st h) (omega (arith, recovery, recovery-top e st h))
      (omega (arith, side, side-below e st h)) (omega (arith, held, held-top e st h)) room in (
        λ none. let p = allowed.0 none in (sym recovery ∙ p.0, sym side ∙ p.1, sym held ∙ p.2),
        λ p. allowed.1 (recovery ∙ p.0, side ∙ p.1, held ∙ p.2),
      )

  -- tripped, there is no event, and nothing is held
  tripped-shows : (h : History) → (history_report e st h).status ≡ 0
      → AsAdded (history_report e st h).recovery (history_report e st h).side (history_report e st h).held
  unfolding history_report
  tripped-shows h off =
      let none = tripped-side e st h (tripped-of e st h off) in
      ((restores-power e st sound ok).tripped h off, none, side-none e st h none)

  shown-back : (cs : List Call) → Under st cs → (t : List ℕ) → old_length ≤ length t
      → ((our_back (image (run_of (ruled_by e) cs).board) t).number ≡ 0)
      ↔ AsAdded (run_of (ruled_by e) cs).report.recovery (run_of (ruled_by e) cs).report.side (run_of (ruled_by e) cs).report.held
  unfolding report_of
  shown-back cs under t room = rw (run_is e st ok cs under) (record-back (accepted_samples cs) t room)

  tripped-back : (cs : List Call) → Under st cs → (t : List ℕ) → old_length ≤ length t → (run_of (ruled_by e) cs).report.status ≡ 0
      → (our_back (image (run_of (ruled_by e) cs).board) t).number ≡ 0
  unfolding report_of
  tripped-back cs under t room off =
      let h = accepted_samples cs in
      rw (run_is e st ok cs under) ((record-back h t room).1 (tripped-shows h (rw (run_is e st ok cs under) at off)))

  pub histories-back : CarriesHistoriesBack our_back (ruled_by e) st
  histories-back = record { shown = shown-back; tripped = tripped-back }
