-- Every public operation refuses with the first cause in the order of spec 11.2, and a refusal changes nothing.
-- Assumes nothing.
use Rattle.std.specs.Prelude.{Ok, Err}
use mathlib.Core.Path.{◌≡◌, refl, sym, ap, ap₂, ◌∙◌}
use mathlib.Core.Bool.{Bool, true, false, cond, not, ◌&&◌, ◌||◌, false≢true}
use mathlib.Core.List.{List, [], ◌∷◌, ◌++◌, map, append-nil}
use Prim.Native.Nat.{ℕ, suc, ◌<◌}
use native.Mathlib.Omega.{arith}
use lib.Dec.{leb, ltb, eqb}
use lib.ListN.{length, drop}
use lib.Seq.{drop_at}
use borrow.Author.Tests.{leb-true, leb-false, lt-ltb, le-ltb}
use Rattle.rules.specs.Tests.{all, within}
use Rattle.rules.specs.Sensing.{last_code, sensed_by}
use Rattle.rules.specs.Settings.{Pair, Row, rows, in_row, rising, check_from, lines_of, settings_check, settings_passed, settings_accepted}
use Rattle.rules.specs.Refusals.{refusal_number, settings_number, line_of, sample_number, sensed_number, answer_number, saved_number}
use Rattle.rules.specs.Samples.{Slice, Equipment, code_of, frequency, permission, available, operator_limit, unless, sample_check}
use Rattle.rules.specs.Records.{on_sample, on_settings, step_of}
use Rattle.rules.specs.Images.{image, image_length, save_check, saved_into}
use Rattle.rules.specs.declared.Settings.{Settings}
use Rattle.rules.specs.declared.Board.{Board}
use Rattle.rules.specs.declared.Refusal.TheVariants.{Range, Rise, Code, Frequency, Permission, Power, Sample, Buffer}
use Rattle.rules.specs.Answers.{SettingsCheck, SampleCheck, settings_refused}
use Rattle.causes.specs.Calls.{operations_by}
use Rattle.causes.specs.FirstCause.{Cause, cause, first, line_causes, settings_causes, sample_causes, cause_line, RefusesRightly}
use Rattle.laws.proofs.Images.{image-length}

-- a number above a bound
above : (n top : ℕ) → not (leb n top) ≡ ltb top n
above n top = by (leb n top) refl
  where
    by : (b : Bool) → leb n top ≡ b → not b ≡ ltb top n
    by true e = sym (le-ltb top n (leb-true n top e))
    by false e = sym (lt-ltb top n (leb-false n top e))

-- none of two or three tests, as one of their opposites
not-and : (a b : Bool) → not (a && b) ≡ (not a || not b)
not-and true b = refl
not-and false b = refl

not-two : (a b : Bool) → not (all (a ∷ b ∷ [])) ≡ (not a || not b)
unfolding all
not-two true true = refl
not-two true false = refl
not-two false b = refl

not_three : (a b c : Bool) → not (all (a ∷ b ∷ c ∷ [])) ≡ (not a || (not b || not c))
unfolding all
not_three true true true = refl
not_three true true false = refl
not_three true false c = refl
not_three false b c = refl

not_within : (low high n : ℕ) → not (within low high n) ≡ (ltb n low || ltb high n)
unfolding within
not_within low high n = not-and (leb low n) (leb n high) ∙ ap₂ ◌||◌ (above low n) (above n high)

-- ---- settings, and whatever is checked after them

-- the number that is given where m is the number of what comes after accepted settings
abbrev then_number : SettingsCheck → ℕ → ℕ
then_number (Ok ok) m = m
then_number (Err away) m = refusal_number away.cause

line-number : (a b : Bool) (n : ℕ) (next : SettingsCheck) (m k : ℕ) → then_number next m ≡ k
    → then_number (cond a (cond b next (settings_refused Rise n)) (settings_refused Range n)) m ≡ cond (not a) 2 (cond (not b) 3 k)
line-number true true n next m k e = e
line-number true false n next m k e = refl
line-number false b n next m k e = refl

lines-number : (n : ℕ) (rs : List Row) (ls : List (List Pair)) (ds : List Cause) → then_number (check_from n rs ls) (first ds) ≡ first (line_causes rs ls ++ ds)
unfolding check_from
lines-number n [] ls ds = refl
lines-number n (r ∷ rs) [] ds = refl
lines-number n (r ∷ rs) (ps ∷ ls) ds =
    line-number (all (map (in_row r) ps)) (rising ps) n (check_from (suc n) rs ls) (first ds) (first (line_causes rs ls ++ ds)) (lines-number (suc n) rs ls ds)

settings-then : (st : Settings) (ds : List Cause) → then_number (settings_check st) (first ds) ≡ first (settings_causes st ++ ds)
unfolding settings_check
settings-then st ds = lines-number 1 rows (lines_of st) ds

-- accepted settings have none
pub accepted-none : (st : Settings) → settings_accepted st ≡ true → (ds : List Cause) → first (settings_causes st ++ ds) ≡ first ds
accepted-none st ok ds = sym (settings-then st ds) ∙ by (settings_check st) ok
  where
    by : (k : SettingsCheck) → settings_passed k ≡ true → then_number k (first ds) ≡ first ds
    by (Ok ok) a = refl
    by (Err away) a = absurd (false≢true a)

-- ---- the line of the first cause

line-line : (a b : Bool) (n : ℕ) (next : SettingsCheck) (m : ℕ) → line_of next ≡ m
    → line_of (cond a (cond b next (settings_refused Rise n)) (settings_refused Range n)) ≡ cond (not a || not b) n m
line-line true true n next m e = e
line-line true false n next m e = refl
line-line false b n next m e = refl

lines-line : (n : ℕ) (rs : List Row) (ls : List (List Pair)) → line_of (check_from n rs ls) ≡ cause_line n (line_causes rs ls)
unfolding check_from
lines-line n [] ls = refl
lines-line n (r ∷ rs) [] = refl
lines-line n (r ∷ rs) (ps ∷ ls) =
    line-line (all (map (in_row r) ps)) (rising ps) n (check_from (suc n) rs ls) (cause_line (suc n) (line_causes rs ls)) (lines-line (suc n) rs ls)

pub settings-line : (st : Settings) → line_of (settings_check st) ≡ cause_line 1 (settings_causes st)
unfolding settings_check
settings-line st = lines-line 1 rows (lines_of st)

alone : (k : SettingsCheck) → settings_number k ≡ then_number k 0
alone (Ok ok) = refl
alone (Err away) = refl

pub settings-number : (st : Settings) → settings_number (settings_check st) ≡ first (settings_causes st)
settings-number st = alone (settings_check st) ∙ settings-then st [] ∙ ap first (append-nil (settings_causes st))

-- ---- samples

ladder : (a b c d p : Bool)
    → sample_number (unless a Sample (unless b Code (unless c Frequency (unless d Permission (unless p Power (Ok tt))))))
    ≡ cond (not a) 8 (cond (not b) 4 (cond (not c) 5 (cond (not d) 6 (cond (not p) 7 0))))
ladder false b c d p = refl
ladder true false c d p = refl
ladder true true false d p = refl
ladder true true true false p = refl
ladder true true true true false = refl
ladder true true true true true = refl

pub sample-number : (x : Slice) → sample_number (sample_check x) ≡ first (sample_causes x)
unfolding sample_check
sample-number x =
    ladder (eqb (length x) 7) (all (leb (code_of x 0) 4095 ∷ leb (code_of x 1) 4095 ∷ leb (code_of x 2) 4095 ∷ [])) (within 40000 80000 (frequency x))
    (leb (permission x) 1) (all (leb (available x) 10000 ∷ leb (operator_limit x) 10000 ∷ []))
    ∙ steps
    (not_three (leb (code_of x 0) 4095) (leb (code_of x 1) 4095) (leb (code_of x 2) 4095)
    ∙ ap₂ ◌||◌ (above (code_of x 0) 4095) (ap₂ ◌||◌ (above (code_of x 1) 4095) (above (code_of x 2) 4095)))
    (not_within 40000 80000 (frequency x))
    (above (permission x) 1)
    (not-two (leb (available x) 10000) (leb (operator_limit x) 10000) ∙ ap₂ ◌||◌ (above (available x) 10000) (above (operator_limit x) 10000))
  where
    steps : {b b' c c' d d' p p' : Bool} → b ≡ b' → c ≡ c' → d ≡ d' → p ≡ p'
        → ◌≡◌ {A = ℕ} (cond (not (eqb (length x) 7)) 8 (cond b 4 (cond c 5 (cond d 6 (cond p 7 0)))))
        (cond (not (eqb (length x) 7)) 8 (cond b' 4 (cond c' 5 (cond d' 6 (cond p' 7 0)))))
    steps e₁ e₂ e₃ e₄ = rw (e₁, e₂, e₃, e₄)

-- ---- the step

module _ (e : Equipment) (b : Board) (st : Settings) (x : Slice) where
  sample-answer : (m : SampleCheck) → answer_number (on_sample e st x b m).answer ≡ sample_number m
  sample-answer (Ok ok) = refl
  sample-answer (Err c) = refl

  settings-answer : (k : SettingsCheck) → answer_number (on_settings e st x b k).answer ≡ then_number k (first (sample_causes x))
  settings-answer (Ok ok) = sample-answer (sample_check x) ∙ sample-number x
  settings-answer (Err away) = refl

  pub step-number : answer_number (step_of e b st x).answer ≡ first (settings_causes st ++ sample_causes x)
  unfolding step_of
  step-number = settings-answer (settings_check st) ∙ settings-then st (sample_causes x)

  sample-kept : (m : SampleCheck) → 0 < answer_number (on_sample e st x b m).answer → (on_sample e st x b m).board ≡ b
  sample-kept (Ok ok) h = absurd (omega arith)
  sample-kept (Err c) h = refl

  settings-kept : (k : SettingsCheck) → 0 < answer_number (on_settings e st x b k).answer → (on_settings e st x b k).board ≡ b
  settings-kept (Ok ok) h = sample-kept (sample_check x) h
  settings-kept (Err away) h = refl

  step_kept : 0 < answer_number (step_of e b st x).answer → (step_of e b st x).board ≡ b
  unfolding step_of
  step_kept h = settings-kept (settings_check st) h

-- ---- sensing and saving

pub sense-number : (volts : ℕ → ℕ) (code : ℕ) → sensed_number (sensed_by volts code) ≡ first (cause 4 (ltb last_code code) ∷ [])
unfolding sensed_by
sense-number volts code = by (leb code last_code) ∙ ap (λ (b : Bool). cond b 4 0) (above code last_code)
  where
    by : (b : Bool) → sensed_number (cond b (Ok (volts code)) (Err Code)) ≡ cond (not b) 4 0
    by true = refl
    by false = refl

pub save-number : (buffer : List ℕ) → saved_number (save_check buffer) ≡ first (cause 9 (ltb (length buffer) image_length) ∷ [])
unfolding save_check
save-number buffer = by (leb image_length (length buffer)) ∙ ap (λ (b : Bool). cond b 9 0) (above image_length (length buffer))
  where
    by : (b : Bool) → saved_number (cond b (Ok tt) (Err Buffer)) ≡ cond (not b) 9 0
    by true = refl
    by false = refl

save-kept : (b : Board) (buffer : List ℕ) → 0 < saved_number (save_check buffer) → saved_into b buffer ≡ buffer
unfolding save_check saved_into
save-kept b buffer h = by (leb image_length (length buffer)) h
  where
    by : (t : Bool) → 0 < saved_number (cond t (Ok tt) (Err Buffer)) → cond t (image b ++ drop image_length buffer) buffer ≡ buffer
    by true k = absurd (omega arith)
    by false k = refl

save-untouched : (b : Board) (buffer : List ℕ) → length b.counters ≡ 9 → drop image_length (saved_into b buffer) ≡ drop image_length buffer
unfolding saved_into
save-untouched b buffer nine = by (leb image_length (length buffer))
  where
    by : (t : Bool) → drop image_length (cond t (image b ++ drop image_length buffer) buffer) ≡ drop image_length buffer
    by true = drop_at (image b) (drop image_length buffer) image_length (image-length b nine)
    by false = refl

pub refuses-rightly : (e : Equipment) → RefusesRightly (operations_by e)
refuses-rightly e =
    record {
      check = settings-number;
      check-line = settings-line;
      sense = sense-number e.sensing;
      step = step-number e;
      step_keeps = step_kept e;
      save = λ b. save-number;
      save-keeps = save-kept;
      save-rest = save-untouched;
    }
