-- Demand 1, for the library (spec 11, 13.1), as a claim about any operations: the causes of each, as a list in their order.
-- Assumes nothing.
use Rattle.std.specs.Prelude.{◌≡◌, Bool, cond, not, ◌||◌, List, [], ◌∷◌, ◌++◌, map, ℕ, suc, ◌<◌, ltb, eqb, length, drop}
use Rattle.rules.specs.Tests.{all}
use Rattle.rules.specs.Sensing.{last_code}
use Rattle.rules.specs.Settings.{Pair, Row, rows, in_row, rising, lines_of}
use Rattle.rules.specs.Refusals.{settings_number, line_of, sensed_number, answer_number, saved_number}
use Rattle.rules.specs.Samples.{Slice, code_of, frequency, permission, available, operator_limit}
use Rattle.rules.specs.Images.{image_length}
use Rattle.rules.specs.declared.Settings.{Settings}
use Rattle.rules.specs.declared.Board.{Board}
use Rattle.causes.specs.Calls.{Operations}

-- a row of the table of turned-away input: its number, and whether it is so of the input
pub record Cause : Type 0 where
  pub number : ℕ
  pub holds : Bool

abbrev pub cause : ℕ → Bool → Cause
cause n b = record { number = n; holds = b }

-- spec 11.2: the number of the first cause that holds, 0 where none does
abbrev pub first : List Cause → ℕ
first [] = 0
first (c ∷ cs) = cond c.holds c.number (first cs)

-- a line's causes: a number outside its row, voltages that do not rise strictly
abbrev pub line_causes : List Row → List (List Pair) → List Cause
line_causes [] lines = []
line_causes (r ∷ rs) [] = []
line_causes (r ∷ rs) (ps ∷ lines) = cause 2 (not (all (map (in_row r) ps))) ∷ cause 3 (not (rising ps)) ∷ line_causes rs lines

-- spec 4.3: line by line, 2 before 3
abbrev pub settings_causes : Settings → List Cause
settings_causes st = line_causes rows (lines_of st)

-- spec 4.2: a sample's causes in their order
abbrev pub sample_causes : Slice → List Cause
sample_causes x =
    cause 8 (not (eqb (length x) 7))
    ∷ cause 4 (ltb last_code (code_of x 0) || (ltb last_code (code_of x 1) || ltb last_code (code_of x 2)))
    ∷ cause 5 (ltb (frequency x) 40000 || ltb 80000 (frequency x))
    ∷ cause 6 (ltb 1 (permission x))
    ∷ cause 7 (ltb 10000 (available x) || ltb 10000 (operator_limit x))
    ∷ []

-- the sheet line of the first cause, from line n on, two causes a line; 0 where none holds
abbrev pub cause_line : ℕ → List Cause → ℕ
cause_line n [] = 0
cause_line n (c ∷ []) = 0
cause_line n (c ∷ d ∷ cs) = cond (c.holds || d.holds) n (cause_line (suc n) cs)

-- what is claimed of any operations: an answer's number is that of the first cause, so that each refuses with n exactly when n is the first
-- cause and accepts input with none; and a refusal changes nothing
pub record RefusesRightly (o : Operations) : Type 0 where
  pub check : (st : Settings) → settings_number (o.check st) ≡ first (settings_causes st)
  pub check-line : (st : Settings) → line_of (o.check st) ≡ cause_line 1 (settings_causes st)
  pub sense : (code : ℕ) → sensed_number (o.sense code) ≡ first (cause 4 (ltb last_code code) ∷ [])
  pub step : (b : Board) (st : Settings) (x : Slice) → answer_number (o.step b st x).answer ≡ first (settings_causes st ++ sample_causes x)
  pub step_keeps : (b : Board) (st : Settings) (x : Slice) → 0 < answer_number (o.step b st x).answer → (o.step b st x).board ≡ b
  pub save : (b : Board) (buffer : List ℕ) → saved_number (o.save b buffer) ≡ first (cause 9 (ltb (length buffer) image_length) ∷ [])
  pub save-keeps : (b : Board) (buffer : List ℕ) → 0 < saved_number (o.save b buffer) → o.buffer b buffer ≡ buffer
  -- spec 9.3: the bytes behind the image
  pub save-rest : (b : Board) (buffer : List ℕ) → length b.counters ≡ 9 → drop image_length (o.buffer b buffer) ≡ drop image_length buffer
