-- Spec 2.5, 2.6, 4.1, 4.2: the seven numbers of a slice, refusals 8, 4, 5, 6 and 7 in
-- their order, and the three voltages.
-- Assumes nothing.
use Rattle.std.specs.Prelude.{Bool, true, false, List, [], ◌∷◌, ℕ, ◌+◌, ◌/◌, min, max, leb, eqb, length, get_or, Ok, Err}
use Rattle.rules.specs.Tests.{all, within}
use Rattle.rules.specs.Sensing.{last_code}
use Rattle.rules.specs.declared.Region.{Region}
use Rattle.rules.specs.declared.Refusal.{Refusal}
use Rattle.rules.specs.declared.Refusal.TheVariants.{Code, Frequency, Permission, Power, Sample}
use Rattle.rules.specs.Answers.{SampleCheck}

-- spec 4.1: a sample as it is lent
abbrev pub Slice : Type 0
Slice = List ℕ

-- the code of phase i, 0 to 2
abbrev pub code_of : Slice → ℕ → ℕ
code_of x i = get_or x i 0

abbrev pub frequency : Slice → ℕ
frequency x = get_or x 3 0

abbrev pub permission : Slice → ℕ
permission x = get_or x 4 0

abbrev pub available : Slice → ℕ
available x = get_or x 5 0

abbrev pub operator_limit : Slice → ℕ
operator_limit x = get_or x 6 0

-- permit service
abbrev pub permitted : Slice → Bool
permitted x = eqb (permission x) 1

-- spec 4.2: the first cause found
abbrev pub unless : Bool → Refusal → SampleCheck → SampleCheck
unless true cause next = next
unless false cause next = Err cause

unfoldable pub sample_check : Slice → SampleCheck
sample_check x =
    unless (eqb (length x) 7) Sample
    (unless (all (leb (code_of x 0) last_code ∷ leb (code_of x 1) last_code ∷ leb (code_of x 2) last_code ∷ [])) Code
    (unless (within 40000 80000 (frequency x)) Frequency
    (unless (leb (permission x) 1) Permission
    (unless (all (leb (available x) 10000 ∷ leb (operator_limit x) 10000 ∷ [])) Power
    (Ok tt)))))

abbrev pub sample_passed : SampleCheck → Bool
sample_passed (Ok ok) = true
sample_passed (Err cause) = false

abbrev pub sample_accepted : Slice → Bool
sample_accepted x = sample_passed (sample_check x)

-- ---- what the board makes of the codes

-- what a board is made with: the voltage of a code, and the operating region of a voltage. The rules are said for any, since
-- makers deliver sensing tables and machines are certified to other categories; ours is `our_equipment`.
pub record Equipment : Type 0 where
  pub sensing : ℕ → ℕ
  pub region : ℕ → Region

-- the voltage of phase i
abbrev pub phase : Equipment → Slice → ℕ → ℕ
phase e x i = e.sensing (code_of x i)

-- spec 2.5: the lowest and the highest voltage
abbrev pub lowest : Equipment → Slice → ℕ
lowest e x = min (phase e x 0) (min (phase e x 1) (phase e x 2))

abbrev pub highest : Equipment → Slice → ℕ
highest e x = max (phase e x 0) (max (phase e x 1) (phase e x 2))

-- spec 2.6: of the voltages, not of the codes
abbrev pub mean : Equipment → Slice → ℕ
mean e x = (phase e x 0 + phase e x 1 + phase e x 2) / 3
