-- Which lines are answered as samples: those that are a sample written out and ended, and no other.
-- Assumes nothing.
use Rattle.std.specs.Prelude.{Ok, Err}
use mathlib.Core.Path.{◌≡◌, refl, sym, ap, ◌∙◌}
use mathlib.Core.Bool.{Bool, true, false, cond}
use mathlib.Core.List.{List, [], ◌∷◌, map}
use mathlib.Core.Option.{Option, none, some}
use Prim.Native.Nat.{ℕ, suc, ◌≤◌}
use native.Mathlib.Omega.{arith}
use lib.Dec.{leb, eqb}
use lib.IntN.{ℤ, pos, nat_abs}
use lib.ListN.{length}
use Rattle.rules.specs.Tests.{all, within}
use Rattle.rules.specs.Settings.{Pair, Row, rows, in_row, rising, check_from, lines_of, settings_check}
use Rattle.rules.specs.Refusals.{settings_number, sample_number, answer_number}
use Rattle.rules.specs.Samples.{Slice, Equipment, code_of, frequency, permission, available, operator_limit, unless, sample_check}
use Rattle.rules.specs.Records.{turned_away, on_sample, on_settings, step_of}
use Rattle.rules.specs.Transcripts.{Line, ended, unended, on_sample_numbers, line_step}
use Rattle.rules.specs.Forms.{sample_form, numbers_of}
use Rattle.rules.specs.declared.Settings.{Settings}
use Rattle.rules.specs.declared.Board.{Board}
use Rattle.rules.specs.declared.Refusal.TheVariants.{Range, Rise, Code, Frequency, Permission, Power, Sample}
use Rattle.rules.specs.Answers.{SettingsCheck, SampleCheck, settings_refused}
use Rattle.rules.specs.declared.Stepped.{Stepped}
use Rattle.formats.specs.Samples.{six_digits, writable, written_sample, IsSampleLine, Answering, AnswersSamples}
use Rattle.basics.proofs.Bools.{both}
use Rattle.formats.proofs.Samples.{sample-read, sample-written}

-- ---- a step with seven numbers is not refused with 8

line-below : (a b : Bool) (n : ℕ) (next : SettingsCheck) → settings_number next ≤ 3
    → settings_number (cond a (cond b next (settings_refused Rise n)) (settings_refused Range n)) ≤ 3
line-below true true n next h = h
line-below true false n next h = omega arith
line-below false b n next h = omega arith

lines-below : (n : ℕ) (rs : List Row) (lines : List (List Pair)) → settings_number (check_from n rs lines) ≤ 3
unfolding check_from
lines-below n [] lines = omega arith
lines-below n (r ∷ rs) [] = omega arith
lines-below n (r ∷ rs) (ps ∷ lines) = line-below (all (map (in_row r) ps)) (rising ps) n (check_from (suc n) rs lines) (lines-below (suc n) rs lines)

settings-below : (st : Settings) → settings_number (settings_check st) ≤ 3
unfolding settings_check
settings-below st = lines-below 1 rows (lines_of st)

sample-below : (x : Slice) → eqb (length x) 7 ≡ true → sample_number (sample_check x) ≤ 7
unfolding sample_check
sample-below x seven =
    rw seven
    (by (all (leb (code_of x 0) 4095 ∷ leb (code_of x 1) 4095 ∷ leb (code_of x 2) 4095 ∷ [])) (within 40000 80000 (frequency x)) (leb (permission x) 1)
    (all (leb (available x) 10000 ∷ leb (operator_limit x) 10000 ∷ [])))
  where
    by : (a b c d : Bool) → sample_number (unless a Code (unless b Frequency (unless c Permission (unless d Power (Ok tt))))) ≤ 7
    by false b c d = omega arith
    by true false c d = omega arith
    by true true false d = omega arith
    by true true true false = omega arith
    by true true true true = omega arith

module _ (e : Equipment) (st : Settings) (b : Board) (x : Slice) where
  checked-below : (m : SampleCheck) → sample_number m ≤ 7 → answer_number (on_sample e st x b m).answer ≤ 7
  checked-below (Ok ok) h = omega arith
  checked-below (Err cause) h = h

  step-below : eqb (length x) 7 ≡ true → answer_number (step_of e b st x).answer ≤ 7
  unfolding step_of
  step-below seven = by (settings_check st) (settings-below st)
    where
      by : (k : SettingsCheck) → settings_number k ≤ 3 → answer_number (on_settings e st x b k).answer ≤ 7
      by (Ok ok) h = checked-below (sample_check x) (sample-below x seven)
      by (Err away) h = omega (arith, h)

  not-turned-away : writable x ≡ true → ¬ (step_of e b st x ≡ turned_away b Sample)
  not-turned-away w h =
      let seven = (both (eqb (length x) 7) (all (map six_digits x)) w).0 in
      omega (arith, step-below seven, ap (λ (t : Stepped). answer_number t.answer) h)

-- ---- our answers

pub numbers-same : (x : List ℕ) → map nat_abs (map pos x) ≡ x
numbers-same [] = refl
numbers-same (n ∷ x) = ap (λ (k : List ℕ). n ∷ k) (numbers-same x)

module _ (e : Equipment) (st : Settings) (b : Board) where
  steps : (x : Slice) → writable x ≡ true → line_step e st b (ended (written_sample x)) ≡ step_of e b st x
  unfolding line_step
  steps x w = rw (sample-read x w, numbers-same x)

  refused : (l : Line) → ¬ IsSampleLine l → line_step e st b l ≡ turned_away b Sample
  unfolding line_step
  refused (unended s) no-sample = refl
  refused (ended s) no-sample = by (numbers_of sample_form s) refl
    where
      by : (o : Option (List ℤ)) → numbers_of sample_form s ≡ o → on_sample_numbers e st b o ≡ turned_away b Sample
      by none p = refl
      by (some ns) p = let w = sample-written s ns p in absurd (no-sample (record { sample = w.sample; can = w.can; text = ap ended w.text }))

  no-sample : (l : Line) → line_step e st b l ≡ turned_away b Sample → ¬ IsSampleLine l
  no-sample l h s = not-turned-away e st b s.sample s.can (sym (steps s.sample s.can) ∙ sym (ap (line_step e st b) s.text) ∙ h)

pub samples-answered : AnswersSamples line_step
samples-answered = record { steps = steps; refuses = λ e st b l. (no-sample e st b l, refused e st b l) }

-- ---- there is no choice

module _ (answer : Answering) (a : AnswersSamples answer) (e : Equipment) (st : Settings) (b : Board) where
  refused-alike : (l : Line) → line_step e st b l ≡ turned_away b Sample → answer e st b l ≡ line_step e st b l
  refused-alike l h = (a.refuses e st b l).1 (no-sample e st b l h) ∙ sym h

  sample-alike : (x : Slice) → writable x ≡ true → answer e st b (ended (written_sample x)) ≡ line_step e st b (ended (written_sample x))
  sample-alike x w = a.steps e st b x w ∙ sym (steps e st b x w)

  pub one_answer : (l : Line) → answer e st b l ≡ line_step e st b l
  unfolding line_step
  one_answer (unended s) = refused-alike (unended s) (last s)
    where
      last : (s : List ℕ) → line_step e st b (unended s) ≡ turned_away b Sample
      last s = refl
  one_answer (ended s) = by (numbers_of sample_form s) refl
    where
      by : (o : Option (List ℤ)) → numbers_of sample_form s ≡ o → answer e st b (ended s) ≡ line_step e st b (ended s)
      by none p = refused-alike (ended s) (rw p)
      by (some ns) p = let w = sample-written s ns p in rw w.text (sample-alike w.sample w.can)
