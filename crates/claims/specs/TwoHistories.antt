-- Demand 3, as a claim about any program that could be called a board: spec 12.4 to 12.7, 13.3.
-- Assumes nothing.
use Rattle.std.specs.Prelude.{◌≡◌, true, ◌↔◌, List, [], ◌∷◌, ℕ, ◌≤◌, length, take}
use Rattle.rules.specs.Settings.{settings_accepted}
use Rattle.rules.specs.Samples.{Slice, Equipment, sample_accepted}
use Rattle.rules.specs.History.{History, followed_by, history_report}
use Rattle.rules.specs.Images.{image_length, saved_into}
use Rattle.rules.specs.declared.Settings.{Settings}
use Rattle.rules.specs.declared.Board.{Board}
use Rattle.causes.specs.Calls.{Call, Program, run_of, accepted_samples, Under}

abbrev pub AllAccepted : List Slice → Type 0
AllAccepted [] = Unit {0}
AllAccepted (x ∷ xs) = (sample_accepted x ≡ true) × AllAccepted xs

-- spec 12.5: every common run, of at most so many accepted samples; `report` is what is compared. With items it is the same as with packed reports:
-- `ReportsAreItems` of the crate `demands`.
abbrev pub AgreeWithin : {R : Type 0} → ℕ → (History → R) → History → History → Type 0
AgreeWithin most report h g =
    (run : List Slice) → length run ≤ most → AllAccepted run → report (followed_by h run) ≡ report (followed_by g run)

-- spec 12.5: of up to 100,000
abbrev pub AgreeBy : {R : Type 0} → (History → R) → History → History → Type 0
AgreeBy report h g = AgreeWithin 100000 report h g

-- the reports that the accepted samples alone give
abbrev pub Agree : Equipment → Settings → History → History → Type 0
Agree e st h g = AgreeBy (history_report e st) h g

-- spec 12.6: the image that is saved after a list of calls, in a buffer
abbrev pub image_after : (Board → List ℕ → List ℕ) → Program → List Call → List ℕ → List ℕ
image_after saved p cs buffer = take image_length (saved (run_of p cs).board buffer)

-- the images saved after two lists of calls, each into a buffer that 9 lets pass, are equal byte for byte exactly when the reports are
-- equal, now and after every common run. The saving and the report are parameters, so that others can be held against it.
abbrev pub TwoHistoriesBy : {R : Type 0} → (Board → List ℕ → List ℕ) → (Settings → History → R) → Program → Settings → Type 0
TwoHistoriesBy saved report p st =
    (ps qs : List Call) → Under st ps → Under st qs
    → (a b : List ℕ) → image_length ≤ length a → image_length ≤ length b
    → (image_after saved p ps a ≡ image_after saved p qs b) ↔ AgreeBy (report st) (accepted_samples ps) (accepted_samples qs)

abbrev pub Demand3By : {R : Type 0} → (Board → List ℕ → List ℕ) → (Settings → History → R) → Program → Type 0
Demand3By saved report p = (st : Settings) → settings_accepted st ≡ true → TwoHistoriesBy saved report p st

-- demand 3, of a board program: by the saving of spec 9 and the reports that histories give, under every accepted sheet
abbrev pub Demand3 : Equipment → Program → Type 0
Demand3 e p = Demand3By saved_into (history_report e) p
