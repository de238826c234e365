-- What is printed for the lines after an accepted sheet is what the accepted samples among them give.
-- Assumes nothing.
use Rattle.std.specs.Prelude.{Ok, Err}
use mathlib.Core.Path.{◌≡◌, refl, sym, ap, ap₂, ◌∙◌}
use mathlib.Core.Bool.{Bool, true, false, cond, ◌&&◌, false≢true}
use mathlib.Core.Logic.{◌⊎◌, inl, inr, ⊎_elim, ◌↔◌}
use mathlib.Core.List.{List, [], ◌∷◌, ◌++◌}
use mathlib.Core.Option.{Option, none, some}
use Prim.Native.Nat.{ℕ, zero, suc, ◌+◌, ◌≤◌, ◌<◌}
use native.Mathlib.Omega.{arith}
use lib.Dec.{eqb}
use lib.IntN.{ℤ, pos}
use lib.ListN.{length, get_or, take}
use lib.Seq.{ext_get_or}
use Rattle.rules.specs.Text.{bytes}
use Rattle.rules.specs.Forms.{sample_form, numbers_of}
use Rattle.rules.specs.Settings.{settings_accepted}
use Rattle.rules.specs.Statuses.{top_status}
use Rattle.rules.specs.Samples.{Slice, Equipment, permitted, sample_check, sample_accepted}
use Rattle.rules.specs.Regions.{region_of}
use Rattle.rules.specs.Refusals.{refusal_number, sample_number, answer_number}
use Rattle.rules.specs.Reports.{report_of}
use Rattle.rules.specs.Records.{fresh, turned_away, step_of}
use Rattle.rules.specs.History.{History, serving, history_status, history_report}
use Rattle.rules.specs.Transcripts.{Line, ended, unended, status_words, spaced, spaced_numbers, report_line, refused_line, answer_line, on_sample_numbers, first_sample}
use Rattle.rules.specs.Transcripts.{line_step, answers_from}
use Rattle.rules.specs.declared.Settings.{Settings}
use Rattle.rules.specs.declared.Board.{Board}
use Rattle.rules.specs.declared.Report.{Report}
use Rattle.rules.specs.declared.Refusal.{Refusal}
use Rattle.rules.specs.declared.Refusal.TheVariants.{Sample}
use Rattle.rules.specs.declared.Region.TheVariants.{Continuous}
use Rattle.rules.specs.Answers.{SampleCheck, Answer}
use Rattle.rules.specs.declared.Stepped.{Stepped}
use Rattle.claims.specs.Held.{RanOut, WaitFull}
use Rattle.claims.specs.Sound.{Sound}
use Rattle.causes.specs.FirstCause.{first, sample_causes}
use Rattle.claims.specs.TripAndReturn.{record_of}
use Rattle.claims.specs.Printed.{as_slice, sample_on, causes_on, with_sample, samples_after, samples_on, line_at, AcceptedAt, CauseAt, until_space, after_space, same_text, is_report}
use Rattle.claims.specs.Printed.{printed_status, shown_after, tripped_word, last_shown, joined, Printed}
use Rattle.basics.proofs.Refusals.{number-bounds}
use Rattle.laws.proofs.FirstCause.{accepted-none, sample-number, step-number}
use Rattle.theorems.proofs.Trace.{next-is}
use Rattle.theorems.proofs.Trip.{trip-law, return-law, return-continuous}
use Rattle.theorems.proofs.Demand2.{answer-is, tripped-of, tripped-status}
use Rattle.laws.proofs.Steps.{accepted-step, refused-step}
use Rattle.theorems.proofs.Demand3.{status-top}

-- what is not false is true
or-true : (b : Bool) → (b ≡ false → ⊥) → b ≡ true
or-true true f = refl
or-true false f = absurd (f refl)

-- ---- words

-- a status word, by number
abbrev word_of : ℕ → List ℕ
word_of status = bytes (get_or status_words status "")

word-ends : (s : ℕ) → s ≤ top_status → (rest : List ℕ) → until_space (word_of s ++ (bytes " " ++ rest)) ≡ word_of s
unfolding until_space
word-ends zero h rest = refl
word-ends (suc zero) h rest = refl
word-ends (suc (suc zero)) h rest = refl
word-ends (suc (suc (suc zero))) h rest = refl
word-ends (suc (suc (suc (suc zero)))) h rest = refl
word-ends (suc (suc (suc (suc (suc zero))))) h rest = refl
word-ends (suc (suc (suc (suc (suc (suc s)))))) h rest = absurd (omega arith)

-- the status that has a word, by its first two bytes
abbrev number_of : List ℕ → ℕ
number_of word =
    cond (eqb (get_or word 0 0) 116) 0
    (cond (eqb (get_or word 0 0) 101) 1
    (cond (eqb (get_or word 1 0) 111) (cond (eqb (get_or word 0 0) 99) 2 4)
    (cond (eqb (get_or word 0 0) 109) 3 5)))

number-back : (s : ℕ) → s ≤ top_status → number_of (word_of s) ≡ s
number-back zero h = refl
number-back (suc zero) h = refl
number-back (suc (suc zero)) h = refl
number-back (suc (suc (suc zero))) h = refl
number-back (suc (suc (suc (suc zero)))) h = refl
number-back (suc (suc (suc (suc (suc zero))))) h = refl
number-back (suc (suc (suc (suc (suc (suc s)))))) h = absurd (omega arith)

-- no two statuses have one word
words-differ : (s t : ℕ) → s ≤ top_status → t ≤ top_status → word_of s ≡ word_of t → s ≡ t
words-differ s t h g e = sym (number-back s h) ∙ ap number_of e ∙ number-back t g

report-word : (r : Report) → r.status ≤ top_status → printed_status (report_line r) ≡ word_of r.status
unfolding report_line until_space after_space
report-word r h = word-ends r.status h _

pub words-tell : (r q : Report) → r.status ≤ top_status → q.status ≤ top_status → (printed_status (report_line r) ≡ printed_status (report_line q)) ↔ (r.status ≡ q.status)
words-tell r q h g = (
  (λ e. words-differ r.status q.status h g (sym (report-word r h) ∙ e ∙ report-word q g)),
  (λ e. report-word r h ∙ ap word_of e ∙ sym (report-word q g)),
)

report-report : (r : Report) → is_report (report_line r) ≡ true
unfolding report_line until_space same_text
report-report r = refl

refusal-none : (why : Refusal) (n : ℕ) → is_report (refused_line (refusal_number why) n) ≡ false
unfolding refused_line spaced_numbers spaced until_space same_text
refusal-none why n = refl

-- an answer with a refusal's number is the line of that refusal
refusal-line : (a : Answer) (why : Refusal) (n : ℕ) → refusal_number why ≡ answer_number a → answer_line n a ≡ refused_line (refusal_number why) n
unfolding refused_line
refusal-line (Ok r) why n e = absurd (omega (arith, (number-bounds why).0))
refusal-line (Err c) why n e =
    ap (λ (k : ℕ). bytes "(refused" ++ (spaced_numbers (pos k ∷ pos n ∷ []) ++ bytes ")\n")) (sym e)

-- ---- one line, on the record of a history

module _ (e : Equipment) (st : Settings) (ok : settings_accepted st ≡ true) where
  abbrev step_on : Board → Option Slice → Stepped
  step_on b none = turned_away b Sample
  step_on b (some x) = step_of e b st x

  line-step : (b : Board) (l : Line) → line_step e st b l ≡ step_on b (sample_on l)
  unfolding line_step
  line-step b (unended s) = refl
  line-step b (ended s) = by (numbers_of sample_form s)
    where
      by : (o : Option (List ℤ)) → on_sample_numbers e st b o ≡ step_on b (as_slice o)
      by none = refl
      by (some ns) = refl

  -- a sample that is refused, under the accepted sheet
  refused-sample : (x : Slice) → sample_accepted x ≡ false → (settings_accepted st && sample_accepted x) ≡ false
  refused-sample x p = ap₂ ◌&&◌ ok p

  -- what is said
  abbrev said : History → ℕ → Option Slice → List ℕ
  said h n o = answer_line n (step_on (record_of e st h) o).answer

  said-report : (h : History) (n : ℕ) (x : Slice) → sample_accepted x ≡ true → said h n (some x) ≡ report_line (report_of (history_report e st (x ∷ h)))
  said-report h n x p = ap (answer_line n) (answer-is e st ok h (record { settings = st; slice = x }) (inl refl) (ap₂ ◌&&◌ ok p))

  said-number : (h : History) (o : Option Slice) → answer_number (step_on (record_of e st h) o).answer ≡ first (causes_on o)
  said-number h none = refl
  said-number h (some x) = step-number e (record_of e st h) st x ∙ accepted-none st ok (sample_causes x)

  said-refusal : (h : History) (n : ℕ) (o : Option Slice) (why : Refusal) → refusal_number why ≡ first (causes_on o) → said h n o ≡ refused_line (refusal_number why) n
  said-refusal h n o why p = refusal-line (step_on (record_of e st h) o).answer why n (p ∙ sym (said-number h o))

  -- the record after it
  board-after : (h : History) (o : Option Slice) → (step_on (record_of e st h) o).board ≡ record_of e st (with_sample h o)
  board-after h none = refl
  board-after h (some x) = by (sample_accepted x) refl
    where
      by : (b : Bool) → sample_accepted x ≡ b → (step_of e (record_of e st h) st x).board ≡ record_of e st (cond b (x ∷ h) h)
      by true p = ap (λ (t : Stepped). t.board) (accepted-step e (record_of e st h) st x ok p) ∙ next-is e st h x
      by false p = ap (λ (t : Stepped). t.board) (refused-step e (record_of e st h) st x (refused-sample x p)).1

  -- the word that is shown after it
  shown-word : (x : Slice) (h : History) → printed_status (report_line (report_of (history_report e st (x ∷ h)))) ≡ word_of (history_status e st (x ∷ h))
  unfolding report_of history_report
  shown-word x h = report-word (report_of (history_report e st (x ∷ h))) (status-top e st (x ∷ h))

  word_after : (h : History) (n : ℕ) (o : Option Slice)
      → cond (is_report (said h n o)) (printed_status (said h n o)) (word_of (history_status e st h)) ≡ word_of (history_status e st (with_sample h o))
  word_after h n none = ap (λ (b : Bool). cond b (printed_status (refused_line (refusal_number Sample) n)) (word_of (history_status e st h))) (refusal-none Sample n)
  word_after h n (some x) = by (sample_accepted x) refl
    where
      shows : List ℕ → List ℕ
      shows t = cond (is_report t) (printed_status t) (word_of (history_status e st h))

      by : (b : Bool) → sample_accepted x ≡ b → shows (said h n (some x)) ≡ word_of (history_status e st (cond b (x ∷ h) h))
      by true p =
          let r = report_of (history_report e st (x ∷ h)) in
          ap shows (said-report h n x p)
          ∙ ap (λ (b : Bool). cond b (printed_status (report_line r)) (word_of (history_status e st h))) (report-report r)
          ∙ shown-word x h
      by false p =
          let w = refused-step e (record_of e st h) st x (refused-sample x p) in
          ap (λ (t : Stepped). shows (answer_line n t.answer)) w.1
          ∙ ap (λ (b : Bool). cond b (printed_status (refused_line (refusal_number w.0) n)) (word_of (history_status e st h))) (refusal-none w.0 n)

  -- ---- the lines one after the other

  abbrev answers_of : History → ℕ → List Line → List (List ℕ)
  answers_of h n [] = []
  answers_of h n (l ∷ ls) = said h n (sample_on l) ∷ answers_of (with_sample h (sample_on l)) (suc n) ls

  whole_is : (h : History) (n : ℕ) (ls : List Line) → answers_from e st (record_of e st h) n ls ≡ joined (answers_of h n ls)
  unfolding answers_from
  whole_is h n [] = refl
  whole_is h n (l ∷ ls) =
      let o = sample_on l in
      ap (λ (t : Stepped). answer_line n t.answer ++ answers_from e st t.board (suc n) ls) (line-step (record_of e st h) l)
      ∙ ap (λ (b : Board). said h n o ++ answers_from e st b (suc n) ls) (board-after h o)
      ∙ ap (λ (t : List ℕ). said h n o ++ t) (whole_is (with_sample h o) (suc n) ls)

  as_many : (h : History) (n : ℕ) (ls : List Line) → length (answers_of h n ls) ≡ length ls
  as_many h n [] = refl
  as_many h n (l ∷ ls) = ap suc (as_many (with_sample h (sample_on l)) (suc n) ls)

  answer_at : (h : History) (n : ℕ) (ls : List Line) (k : ℕ) → k < length ls
      → get_or (answers_of h n ls) k [] ≡ said (samples_after h (take k ls)) (n + k) (sample_on (line_at ls k))
  answer_at h n [] k l = absurd (omega arith)
  answer_at h n (x ∷ ls) zero l = ap (λ (m : ℕ). said h m (sample_on x)) (omega arith)
  answer_at h n (x ∷ ls) (suc k) l =
      let g = with_sample h (sample_on x) in
      answer_at g (suc n) ls k (omega arith)
      ∙ ap (λ (m : ℕ). said (samples_after g (take k ls)) m (sample_on (line_at ls k))) (omega arith)

  shown-are : (h : History) (n : ℕ) (ls : List Line) (k : ℕ) (word : List ℕ) → word ≡ word_of (history_status e st h)
      → shown_after word (take k (answers_of h n ls)) ≡ word_of (history_status e st (samples_after h (take k ls)))
  shown-are h n ls zero word p = p
  shown-are h n [] (suc k) word p = p
  shown-are h n (l ∷ ls) (suc k) word p =
      let o = sample_on l in
      shown-are (with_sample h o) (suc n) ls k _
      (ap (λ (w : List ℕ). cond (is_report (said h n o)) (printed_status (said h n o)) w) p ∙ word_after h n o)

  -- ---- the claims

  module _ (ls : List Line) where
    abbrev texts : List (List ℕ)
    texts = answers_of [] (first_sample st) ls

    -- the accepted samples before line k
    abbrev before : ℕ → History
    before k = samples_on (take k ls)

    last-is : (k : ℕ) → last_shown (take k texts) ≡ word_of (history_status e st (before k))
    unfolding history_status
    last-is k = shown-are [] (first_sample st) ls k tripped_word refl

    reported : (k : ℕ) (x : Slice) → AcceptedAt ls k x → get_or texts k [] ≡ report_line (report_of (history_report e st (x ∷ before k)))
    reported k x a =
        answer_at [] (first_sample st) ls k a.line ∙ ap (said (before k) (first_sample st + k)) a.sample ∙ said-report (before k) (first_sample st + k) x a.accepted

    refused : (k : ℕ) (why : Refusal) → CauseAt ls k why → get_or texts k [] ≡ refused_line (refusal_number why) (first_sample st + k)
    refused k why a = answer_at [] (first_sample st) ls k a.line ∙ said-refusal (before k) (first_sample st + k) (sample_on (line_at ls k)) why a.number

    either : (k : ℕ) → k < length ls → ((x : Slice) × AcceptedAt ls k x) ⊎ ((why : Refusal) × CauseAt ls k why)
    either k l = by (sample_on (line_at ls k)) refl
      where
        checked : (x : Slice) → sample_on (line_at ls k) ≡ some x → (c : SampleCheck) → sample_check x ≡ c
            → ((y : Slice) × AcceptedAt ls k y) ⊎ ((why : Refusal) × CauseAt ls k why)
        checked x p (Ok ok) q = inl (x, record { line = l; sample = p; accepted = rw q })
        checked x p (Err why) q =
            inr (why, record { line = l; number = ap sample_number (sym q) ∙ sample-number x ∙ ap (λ (o : Option Slice). first (causes_on o)) (sym p) })

        by : (o : Option Slice) → sample_on (line_at ls k) ≡ o → ((x : Slice) × AcceptedAt ls k x) ⊎ ((why : Refusal) × CauseAt ls k why)
        by none p = inr (Sample, record { line = l; number = ap (λ (o : Option Slice). first (causes_on o)) (sym p) })
        by (some x) p = checked x p (sample_check x) refl

    -- in service or not, by the words
    tripped-word : (h : History) → serving e st h ≡ false → word_of (history_status e st h) ≡ tripped_word
    tripped-word h p = ap word_of (tripped-status e st h p)

    word-tripped : (h : History) → word_of (history_status e st h) ≡ tripped_word → serving e st h ≡ false
    word-tripped h p = tripped-of e st h (words-differ (history_status e st h) 0 (status-top e st h) (omega arith) p)

    word-now : (k : ℕ) (x : Slice) → AcceptedAt ls k x → printed_status (get_or texts k []) ≡ word_of (history_status e st (x ∷ before k))
    word-now k x a = ap printed_status (reported k x a) ∙ shown-word x (before k)

    trips : (k : ℕ) (x : Slice) → AcceptedAt ls k x → ¬ (last_shown (take k texts) ≡ tripped_word)
        → (printed_status (get_or texts k []) ≡ tripped_word) ↔ ((permitted x ≡ false) ⊎ RanOut e st (x ∷ before k))
    trips k x a on =
        let serves = or-true (serving e st (before k)) (λ p. on (last-is k ∙ tripped-word (before k) p)) in
        let law = trip-law e st (before k) x serves in (
          (λ w. law.0 (word-tripped (x ∷ before k) (sym (word-now k x a) ∙ w))),
          (λ d. word-now k x a ∙ tripped-word (x ∷ before k) (law.1 d)),
        )

    off-before : (k : ℕ) → last_shown (take k texts) ≡ tripped_word → serving e st (before k) ≡ false
    off-before k off = word-tripped (before k) (sym (last-is k) ∙ off)

    on-now : (k : ℕ) (x : Slice) → AcceptedAt ls k x → ¬ (printed_status (get_or texts k []) ≡ tripped_word) → serving e st (x ∷ before k) ≡ true
    on-now k x a other = or-true (serving e st (x ∷ before k)) (λ p. other (word-now k x a ∙ tripped-word (x ∷ before k) p))

    returns : (k : ℕ) (x : Slice) → AcceptedAt ls k x → last_shown (take k texts) ≡ tripped_word
        → (¬ (printed_status (get_or texts k []) ≡ tripped_word)) ↔ WaitFull e st (x ∷ before k)
    returns k x a off =
        let law = return-law e st (before k) x (off-before k off) in (
          (λ other. law.0 (on-now k x a other)),
          (λ full w. false≢true (sym (word-tripped (x ∷ before k) (sym (word-now k x a) ∙ w)) ∙ law.1 full)),
        )

    pub lines-printed : Sound e → Printed e st ls (answers_from e st fresh (first_sample st) ls)
    unfolding record_of
    lines-printed sound =
        record {
          answers = texts;
          whole = whole_is [] (first_sample st) ls;
          one_each = as_many [] (first_sample st) ls;
          either = either;
          reports = reported;
          refuses = refused;
          trips = trips;
          returns = returns;
          returns-continuous = λ k x a off other. return-continuous e st sound ok (before k) x (off-before k off) (on-now k x a other);
        }

-- ---- there is no choice

module _ (e : Equipment) (st : Settings) (ls : List Line) (s t : List ℕ) (p : Printed e st ls s) (q : Printed e st ls t) where
  pub one-printed : s ≡ t
  one-printed =
      p.whole ∙ ap joined (ext_get_or [] p.answers q.answers (p.one_each ∙ sym q.one_each) (λ k l. at k (omega (arith, l, p.one_each)))) ∙ sym q.whole
    where
      at : (k : ℕ) → k < length ls → get_or p.answers k [] ≡ get_or q.answers k []
      at k l =
          ⊎_elim (λ x. p.reports k x.0 x.1 ∙ sym (q.reports k x.0 x.1)) (λ w. p.refuses k w.0 w.1 ∙ sym (q.refuses k w.0 w.1))
          (p.either k l)
