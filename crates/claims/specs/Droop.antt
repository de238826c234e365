-- Spec 6.16, 6.17, 7.8, 13.14: frequency droop, for those who asked for it, as a claim about any reports of histories; ours are `history_report`.
-- Assumes nothing.
use Rattle.std.specs.Prelude.{◌≡◌, true, List, [], ◌∷◌, ℕ, ◌+◌, ◌-◌, ◌*◌, ◌≤◌, ◌<◌, min}
use Rattle.rules.specs.Samples.{Slice, Equipment, code_of, frequency, permission, available, operator_limit}
use Rattle.rules.specs.Curves.{nameplate}
use Rattle.rules.specs.Service.{in_service, exports, recovery_limit, watt_curve, least}
use Rattle.rules.specs.Reports.{Items}
use Rattle.rules.specs.History.{History, followed_by}
use Rattle.rules.specs.declared.Settings.{Settings}

-- two samples that agree in all but the frequency
pub record SameButFrequency (x y : Slice) : Type 0 where
  pub codes : (i : ℕ) → i < 3 → code_of x i ≡ code_of y i
  pub permission : permission x ≡ permission y
  pub available : available x ≡ available y
  pub limit : operator_limit x ≡ operator_limit y

-- in the deadband, both ends included
abbrev pub InDeadband : Slice → Type 0
InDeadband x = (59964 ≤ frequency x) × (frequency x ≤ 60036)

-- at each sample of a run that follows the history the board is in an event on this side
abbrev pub OnSide : (History → Items) → ℕ → History → List Slice → Type 0
OnSide report side h [] = Unit {0}
OnSide report side h (x ∷ run) = ((report (x ∷ h)).side ≡ side) × OnSide report side (x ∷ h) run

-- of a power on the high side: the exact one is held - 10 × distance ÷ 3. Where that is not below 0 the power is off it by less than one (three
-- times as much, so that all is whole); where it is, the power is 0
pub record NearLess (held distance power : ℕ) : Type 0 where
  pub not-below : 10 * distance ≤ 3 * held → 3 * held ≤ 3 * power + 10 * distance
  pub near : 10 * distance ≤ 3 * held → 3 * power + 10 * distance < 3 * held + 3
  pub floor : 3 * held < 10 * distance → power ≡ 0

-- of one on the low side: the exact one is held + 10 × distance ÷ 3
pub record NearMore (held distance power : ℕ) : Type 0 where
  pub not-above : 3 * power ≤ 3 * held + 10 * distance
  pub near : 3 * held + 10 * distance < 3 * power + 3

-- the least of a power and of what binds in an event and outside it: volt-watt curve, nameplate, recovery
abbrev pub least_with : Equipment → Settings → Slice → Items → ℕ → ℕ
least_with e st x r first = min first (least (watt_curve e st x ∷ nameplate r.vars ∷ recovery_limit r.recovery ∷ []))

pub record Droops (e : Equipment) (st : Settings) (report : History → Items) : Type 0 where
  -- in service after a sample above the deadband the side is 1, and below it 2, the step of a return included
  pub high : (x : Slice) (h : History) → in_service (report (x ∷ h)).status ≡ true → 60036 < frequency x → (report (x ∷ h)).side ≡ 1
  pub low : (x : Slice) (h : History) → in_service (report (x ∷ h)).status ≡ true → frequency x < 59964 → (report (x ∷ h)).side ≡ 2
  -- in the deadband, and when tripped, before any sample too, there is no event
  pub between : (x : Slice) (h : History) → InDeadband x → ((report (x ∷ h)).side ≡ 0) × ((report (x ∷ h)).held ≡ 0)
  pub tripped : (h : History) → (report h).status ≡ 0 → ((report h).side ≡ 0) × ((report h).held ≡ 0)
  -- throughout an event, however long, the held power is the watts of the last report before it, be that one of no event or of one on the other side
  pub holds : (side : ℕ) → 0 < side → (h : History) → ¬ ((report h).side ≡ side) → (x : Slice) (run : List Slice) → OnSide report side h (x ∷ run)
      → (report (followed_by h (x ∷ run))).held ≡ (report h).watts
  -- where power is given in an event, the watts are the least of a power by the held one, the available power, and what binds everywhere; operator's limit and share
  -- are not among them
  pub less : (x : Slice) (h : History) → exports (report (x ∷ h)).status ≡ true → 60036 < frequency x
      → (power : ℕ) × NearLess (report (x ∷ h)).held (frequency x - 60036) power
      × ((report (x ∷ h)).watts ≡ least_with e st x (report (x ∷ h)) (min power (available x)))
  pub more : (x : Slice) (h : History) → exports (report (x ∷ h)).status ≡ true → frequency x < 59964
      → (power : ℕ) × NearMore (report (x ∷ h)).held (59964 - frequency x) power
      × ((report (x ∷ h)).watts ≡ least_with e st x (report (x ∷ h)) (min power (available x)))
  -- back in the deadband the old limits hold at once, whatever was before
  pub back : (x : Slice) (h : History) → exports (report (x ∷ h)).status ≡ true → InDeadband x
      → (report (x ∷ h)).watts ≡ least_with e st x (report (x ∷ h)) (least (available x ∷ operator_limit x ∷ (report (x ∷ h)).share ∷ []))
  -- no watts are above the available power, on the low side as anywhere
  pub within-available : (x : Slice) (h : History) → (report (x ∷ h)).watts ≤ available x
  -- above the deadband no watts are above the held power, and so none above those of the last report before the event
  pub within_held : (x : Slice) (h : History) → 60036 < frequency x → (report (x ∷ h)).watts ≤ (report (x ∷ h)).held
  -- there a higher frequency in a sample's place gives no more watts
  pub higher : (x y : Slice) (h : History) → SameButFrequency x y → 60036 < frequency x → frequency x ≤ frequency y
      → (report (y ∷ h)).watts ≤ (report (x ∷ h)).watts
  -- and a frequency that rises from one sample to the next gives no more either, where the recovery count does not rise
  pub rising : (x y : Slice) (h : History) → SameButFrequency x y → 60036 < frequency x → frequency x ≤ frequency y
      → (report (y ∷ x ∷ h)).recovery ≤ (report (x ∷ h)).recovery → (report (y ∷ x ∷ h)).watts ≤ (report (x ∷ h)).watts
