-- Spec 6.8, 13.12: no power where ride-through has ended by the frequency, as a claim about any reports of histories; ours are `history_report`.
-- Assumes nothing.
use Rattle.std.specs.Prelude.{◌≡◌, true, false, ◌⊎◌, ◌↔◌, ◌∷◌, ◌≤◌, ◌<◌, pos}
use Rattle.rules.specs.Samples.{Slice, Equipment, frequency, lowest, highest}
use Rattle.rules.specs.Regions.{region_in, ceases}
use Rattle.rules.specs.Service.{in_service, exports}
use Rattle.rules.specs.Reports.{Items}
use Rattle.rules.specs.History.{History}
use Rattle.rules.specs.declared.Settings.{Settings}

-- below 57.0 Hz or above 62.0 Hz, where the standard asks for no ride-through: "far outside" in the papers
abbrev pub BeyondRideThrough : Slice → Type 0
BeyondRideThrough x = (frequency x < 57000) ⊎ (62000 < frequency x)

pub record CeasesBeyondRideThrough (e : Equipment) (st : Settings) (report : History → Items) : Type 0 where
  -- there are no watts and no vars, whatever the voltages and whatever came before
  pub nothing : (x : Slice) (h : History) → BeyondRideThrough x → ((report (x ∷ h)).watts ≡ 0) × ((report (x ∷ h)).vars ≡ pos 0)
  -- a board that is in service after the sample ceases to energize (5), and its recovery count is 0
  pub ceased : (x : Slice) (h : History) → BeyondRideThrough x → in_service (report (x ∷ h)).status ≡ true
      → ((report (x ∷ h)).status ≡ 5) × ((report (x ∷ h)).recovery ≡ 0)
  -- a tripped board does not return there
  pub waits : (x : Slice) (h : History) → BeyondRideThrough x → (report h).status ≡ 0 → (report (x ∷ h)).status ≡ 0
  -- from 57000 to 62000 the frequency is no reason to stop: in service the status is one that gives power exactly where neither voltage's
  -- region is a cessation
  pub rides : (x : Slice) (h : History) → 57000 ≤ frequency x → frequency x ≤ 62000 → in_service (report (x ∷ h)).status ≡ true
      → (exports (report (x ∷ h)).status ≡ true) ↔ ((ceases (region_in e st (lowest e x)) ≡ false) × (ceases (region_in e st (highest e x)) ≡ false))
