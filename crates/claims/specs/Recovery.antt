-- Spec 6.15, 7.7, 13.9: power back after a cessation, as a claim about any reports of histories; ours are `history_report`.
-- Assumes nothing.
use Rattle.std.specs.Prelude.{◌≡◌, true, List, [], ◌∷◌, ℕ, suc, ◌*◌, ◌≤◌, min, length}
use Rattle.rules.specs.Samples.{Slice, Equipment, sample_accepted}
use Rattle.rules.specs.Service.{in_service, exports, without_power, recovery_limit, standing_limits, left_by}
use Rattle.rules.specs.Reports.{Items}
use Rattle.rules.specs.History.{History, followed_by}
use Rattle.rules.specs.declared.Settings.{Settings}

-- at each sample of a run that follows the history the board gives power: entering, continuous or mandatory
abbrev pub GivesPower : (History → Items) → History → List Slice → Type 0
GivesPower report h [] = Unit {0}
GivesPower report h (x ∷ run) = (exports (report (x ∷ h)).status ≡ true) × GivesPower report (x ∷ h) run

-- at the newest sample the board is in momentary cessation (4) or ceases to energize (5)
abbrev pub Ceased : (History → Items) → History → Type 0
Ceased report h = without_power (report h).status ≡ true

-- the watts that the limits beside recovery leave of a sample (spec 7.5, 7.8), by what its report shows
abbrev pub left_by_others : Equipment → Settings → Slice → Items → ℕ
left_by_others e st x r = left_by (standing_limits e st x r.share r.held r.vars)

pub record RestoresPower (e : Equipment) (st : Settings) (report : History → Items) : Type 0 where
  -- the count is 0 in a cessation, and 40 when tripped, before any sample too, and at the step of a return
  pub ceased : (h : History) → Ceased report h → (report h).recovery ≡ 0
  pub tripped : (h : History) → (report h).status ≡ 0 → (report h).recovery ≡ 40
  pub returned : (x : Slice) (h : History) → (report h).status ≡ 0 → in_service (report (x ∷ h)).status ≡ true → (report (x ∷ h)).recovery ≡ 40
  -- a sample that gives power, of a board that was in service, makes it one more, up to 40
  pub goes_on : (x : Slice) (h : History) → in_service (report h).status ≡ true → exports (report (x ∷ h)).status ≡ true
      → (report (x ∷ h)).recovery ≡ min 40 (suc (report h).recovery)
  -- so after k samples in a row that give power, behind a cessation, it is k, up to 40, and lets exactly 250 × k through
  pub counts : (h : History) → Ceased report h → (run : List Slice) → GivesPower report h run → (report (followed_by h run)).recovery ≡ min 40 (length run)
  pub limit : (h : History) → Ceased report h → (run : List Slice) → GivesPower report h run → length run ≤ 40
      → recovery_limit (report (followed_by h run)).recovery ≡ 250 * length run
  -- and after forty in a row it is 40, whatever was before them
  pub restored : (h : History) (run : List Slice) → GivesPower report h run → 40 ≤ length run → (report (followed_by h run)).recovery ≡ 40
  -- where power is given, the watts are what the other limits leave, or what the count lets through where that is less
  pub lesser : (x : Slice) (h : History) → exports (report (x ∷ h)).status ≡ true
      → (report (x ∷ h)).watts ≡ min (left_by_others e st x (report (x ∷ h))) (recovery_limit (report (x ∷ h)).recovery)
  -- so at 40 the limit binds no more
  pub free : (x : Slice) (h : History) → sample_accepted x ≡ true → exports (report (x ∷ h)).status ≡ true → (report (x ∷ h)).recovery ≡ 40
      → (report (x ∷ h)).watts ≡ left_by_others e st x (report (x ∷ h))
  -- and no report's watts are above what its count lets through
  pub bound : (h : History) → (report h).watts ≤ recovery_limit (report h).recovery
