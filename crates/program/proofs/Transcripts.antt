-- From the start, what is written for the lines of an input is the input's transcript.
-- Assumes nothing.
use Rattle.std.specs.Prelude.{Ok, Err}
use mathlib.Core.Path.{◌≡◌, refl, sym, ap, ◌∙◌, subst}
use mathlib.Core.Bool.{Bool, true, false, false≢true}
use mathlib.Core.List.{List, [], ◌∷◌, ◌++◌, append-nil}
use Prim.Native.Nat.{ℕ, zero, suc, ◌+◌, ◌-◌, ◌≤◌, ◌<◌}
use native.Mathlib.Numerals.{add-one}
use native.Mathlib.Omega.{arith}
use borrow.Author.Tests.{eq-eqb, ne_eqb}
use lib.ListN.{length, length-append, drop}
use lib.Seq.{drop-drop}
use Rattle.rules.specs.Settings.{sheet_lines, Pair}
use Rattle.rules.specs.Samples.{Equipment}
use Rattle.rules.specs.Text.{first_line, has_feed, after_line}
use Rattle.rules.specs.Forms.{numbers_of, sample_form}
use Rattle.rules.specs.Records.{fresh}
use Rattle.rules.specs.Refusals.{refusal_number}
use Rattle.rules.specs.Sheets.{SheetReading, settings_of, read_sheet}
use Rattle.rules.specs.Transcripts.{lines_in, last_line, line_step, on_sample_numbers, answer_line, answers_from, refused_line, first_sample, answers_to, on_sheet_by, transcript_of_by, transcript_of}
use Rattle.rules.specs.declared.Settings.{Settings}
use Rattle.rules.specs.declared.Board.{Board}
use Rattle.rules.specs.declared.Refusal.{Refusal}
use Rattle.rules.specs.declared.Refusal.TheVariants.{Form}
use Rattle.sheet.specs.declared.LineRefusal.{LineRefusal}
use Rattle.rules.specs.Answers.{settings_refused}
use Rattle.rules.specs.declared.Stepped.{Stepped}
use Rattle.text.proofs.Lines.{line_after}
use Rattle.sheet.specs.LineReads.{LineRead, line_read}
use Rattle.sheet.proofs.Reading.{from, from-unended, from_end, on-accepted, on-refused}
use Rattle.program.specs.States.{start, stopped}
use Rattle.program.specs.Saying.{Said, on_read, stage_after, said, begun_line, closing_text, end_text, resume}
use Rattle.program.specs.declared.State.{State}
use Rattle.program.proofs.Framing.{lines-fed, lines-unfed}
use Rattle.program.proofs.Saying.{said-sheet, said-sample, end-at-sheet, end-at-samples}
use Rattle.program.proofs.Ending.{done_after, done-fed, done-done}
use Rattle.program.proofs.Resuming.{resume-fed, resume-unfed, done-resume}
use Rattle.program.proofs.Handling.{after-shorter}

-- ---- the samples

abbrev pub sampling : Settings → Board → ℕ → ℕ → State
sampling st b n t = record { stage = 1; line = n; overlong = false; taken = t; settings = st; board = b }

module _ (e : Equipment) (st : Settings) (b : Board) (n t : ℕ) (s : List ℕ) where
  abbrev pub answered : Stepped
  answered = on_sample_numbers e st b (numbers_of sample_form (first_line s))

  sampled-said : said e (sampling st b n t) (first_line s)
      ≡ record { state = sampling st answered.board (n + 1) (t + (length (first_line s) + 1)); text = answer_line n answered.answer }
  sampled-said = said-sample e (sampling st b n t) (first_line s) refl refl

  sample-fed : has_feed s ≡ true
      → resume e (sampling st answered.board (n + 1) (t + (length (first_line s) + 1))) (after_line s)
      ≡ answers_from e st answered.board (n + 1) (lines_in (after_line s))
      → resume e (sampling st b n t) s ≡ answers_from e st b n (lines_in s)
  unfolding answers_from line_step
  sample-fed f rest =
      resume-fed e (sampling st b n t) s f ∙ rw (sampled-said, lines-fed s f, rest, add-one n)

  pub end-answers : end_text (sampling st b n t) s ≡ answers_from e st b n (last_line s)
  unfolding answers_from line_step
  end-answers = end-at-samples (sampling st b n t) s refl refl ∙ by s
    where
      by : (l : List ℕ) → closing_text (sampling st b n t) (begun_line (sampling st b n t) l) ≡ answers_from e st b n (last_line l)
      by [] = refl
      by (c ∷ l) = sym (append-nil _)

  sample-unfed : has_feed s ≡ false → resume e (sampling st b n t) s ≡ answers_from e st b n (lines_in s)
  sample-unfed f = resume-unfed e (sampling st b n t) s f ∙ end-answers ∙ sym (ap (answers_from e st b n) (lines-unfed s f))

samples-within : (e : Equipment) (st : Settings) (k : ℕ) (b : Board) (n t : ℕ) (s : List ℕ) → length s ≤ k
    → resume e (sampling st b n t) s ≡ answers_from e st b n (lines_in s)
samples-within e st zero b n t s low = by (has_feed s) refl
  where
    by : (f : Bool) → has_feed s ≡ f → resume e (sampling st b n t) s ≡ answers_from e st b n (lines_in s)
    by true p = absurd (omega (arith, after-shorter s p))
    by false p = sample-unfed e st b n t s p
samples-within e st (suc k) b n t s low =
    by (has_feed s) refl (λ p. samples-within e st k (answered e st b n t s).board (n + 1) (t + (length (first_line s) + 1)) (after_line s)
    (omega (arith, after-shorter s p)))
  where
    by : (f : Bool) → has_feed s ≡ f
        → (has_feed s ≡ true → resume e (sampling st (answered e st b n t s).board (n + 1) (t + (length (first_line s) + 1))) (after_line s)
        ≡ answers_from e st (answered e st b n t s).board (n + 1) (lines_in (after_line s))) → resume e (sampling st b n t) s ≡ answers_from e st b n (lines_in s)
    by true p rest = sample-fed e st b n t s p (rest p)
    by false p rest = sample-unfed e st b n t s p

pub resume-samples : (e : Equipment) (st : Settings) (b : Board) (n t : ℕ) (s : List ℕ) → resume e (sampling st b n t) s ≡ answers_from e st b n (lines_in s)
resume-samples e st b n t s = samples-within e st (length s) b n t s (omega arith)

-- ---- the sheet

-- i lines are read, and the next begins at a place
abbrev pub reading : Settings → ℕ → ℕ → State
reading st i at = record { stage = 0; line = i + 1; overlong = false; taken = at; settings = st; board = fresh }

abbrev to_the_end : Equipment → List ℕ → SheetReading → List ℕ
to_the_end e s r = on_sheet_by (answers_to e) r r.check s

module _ (e : Equipment) (s : List ℕ) (i at : ℕ) (lines : List (List Pair)) (h : i < sheet_lines) (long : length lines ≡ i) where
  abbrev line : List ℕ
  line = first_line (drop at s)

  abbrev read : LineRead
  read = line_read i line (settings_of lines)

  abbrev past : ℕ
  past = at + length line + 1

  said_read : said e (reading (settings_of lines) i at) line ≡ on_read (reading (settings_of lines) i at) (length line + 1) read
  unfolding line_read
  said_read =
      let same : i + 1 - 1 ≡ i = omega arith in said-sheet e (reading (settings_of lines) i at) line refl refl ∙ rw same

  unended-text : has_feed (drop at s) ≡ false → resume e (reading (settings_of lines) i at) (drop at s) ≡ to_the_end e s (from s i at lines)
  unended-text f =
      let q = reading (settings_of lines) i at in
      resume-unfed e q (drop at s) f ∙ end-at-sheet q (drop at s) refl refl ∙ sym (ap (to_the_end e s) (from-unended s i at lines h f))

  module _ (f : has_feed (drop at s) ≡ true) where
    after_is : after_line (drop at s) ≡ drop past s
    after_is =
        let same : at + (length line + 1) ≡ past = omega arith in
        line_after (drop at s) f ∙ drop-drop (length line + 1) at s ∙ ap (λ (n : ℕ). drop n s) same

    -- what is said for the line, and then for the rest
    then : (r : Said) → on_read (reading (settings_of lines) i at) (length line + 1) read ≡ r
        → resume e (reading (settings_of lines) i at) (drop at s) ≡ r.text ++ resume e r.state (drop past s)
    then r p = resume-fed e (reading (settings_of lines) i at) (drop at s) f ∙ rw (said_read, p, after_is)

    refused-text : (away : LineRefusal) → read ≡ Err away
        → resume e (reading (settings_of lines) i at) (drop at s) ≡ to_the_end e s (from s i at lines)
    refused-text away c =
        let cause = away.why.cause in
        let n = away.why.line in
        let r = on-refused s i at lines h f long away c in
        let q = reading (settings_of lines) i at in
        let closes : refused_line (refusal_number cause) n ++ resume e (stopped q (length line + 1)) (drop past s) ≡ refused_line (refusal_number cause) (i + 1)
        = rw (done-resume e (stopped q (length line + 1)) (drop past s) refl) (append-nil _ ∙ ap (refused_line (refusal_number cause)) r.1) in
        then (on_read q (length line + 1) (Err away)) (ap (on_read q (length line + 1)) c)
        ∙ closes
        ∙ sym (ap (to_the_end e s) r.0)

    -- the state after an accepted line
    abbrev onward : Settings → State
    onward st = record { stage = stage_after (i + 1); line = i + 1 + 1; overlong = false; taken = past; settings = st; board = fresh }

    abbrev Rest : Type 0
    Rest = (more : List (List Pair)) → length more ≡ i + 1 → resume e (onward (settings_of more)) (drop past s) ≡ to_the_end e s (from s (i + 1) past more)

    accepted-by : (next : Settings) → read ≡ Ok next → Rest → (more : List (List Pair)) → length more ≡ i + 1 → next ≡ settings_of more
        → from s i at lines ≡ from s (i + 1) past more
        → resume e (reading (settings_of lines) i at) (drop at s) ≡ to_the_end e s (from s i at lines)
    accepted-by next c rest more l st is =
        let same : at + (length line + 1) ≡ past = omega arith in
        let q = reading (settings_of lines) i at in
        let onto : on_read q (length line + 1) read ≡ record { state = onward (settings_of more); text = [] } = rw (c, st, same) in
        then (record { state = onward (settings_of more); text = [] }) onto ∙ rest more l ∙ sym (ap (to_the_end e s) is)

    accepted-text : (next : Settings) → read ≡ Ok next → Rest → resume e (reading (settings_of lines) i at) (drop at s) ≡ to_the_end e s (from s i at lines)
    accepted-text next c rest =
        let g = on-accepted s i at lines h f long next c in
        accepted-by next c rest (lines ++ (g.read ∷ [])) (length-append lines (g.read ∷ []) ∙ ap (λ (n : ℕ). n + 1) long) g.settings g.reading

    -- the line's two outcomes
    by-read : Rest → (r : LineRead) → read ≡ r → resume e (reading (settings_of lines) i at) (drop at s) ≡ to_the_end e s (from s i at lines)
    by-read rest (Ok next) c = accepted-text next c rest
    by-read rest (Err away) c = refused-text away c

-- past the thirteenth line
sheet-done : (e : Equipment) (s : List ℕ) (at : ℕ) (lines : List (List Pair)) (i : ℕ) → i ≡ sheet_lines
    → resume e (record { stage = 1; line = i + 1; overlong = false; taken = at; settings = settings_of lines; board = fresh }) (drop at s)
    ≡ to_the_end e s (from s i at lines)
sheet-done e s at lines i is =
    resume-samples e (settings_of lines) fresh (i + 1) at (drop at s)
    ∙ rw is refl
    ∙ sym (ap (to_the_end e s) (from_end s i at lines (omega arith)))

sheet-within : (e : Equipment) (k : ℕ) (s : List ℕ) (i at : ℕ) (lines : List (List Pair)) → i + suc k ≡ sheet_lines → length lines ≡ i
    → resume e (reading (settings_of lines) i at) (drop at s) ≡ to_the_end e s (from s i at lines)
sheet-within e zero s i at lines is long = by (has_feed (drop at s)) refl
  where
    by : (b : Bool) → has_feed (drop at s) ≡ b → resume e (reading (settings_of lines) i at) (drop at s) ≡ to_the_end e s (from s i at lines)
    by false f = unended-text e s i at lines (omega arith) long f
    by true f =
        by-read e s i at lines (omega arith) long f
        (λ more l. rw (eq-eqb (i + 1) sheet_lines (omega arith)) (sheet-done e s (past e s i at lines (omega arith) long) more (i + 1) (omega arith)))
        (line_read i (first_line (drop at s)) (settings_of lines)) refl
sheet-within e (suc k) s i at lines is long =
    by (has_feed (drop at s)) refl (λ more l. sheet-within e k s (i + 1) (at + length (first_line (drop at s)) + 1) more (omega arith) l)
  where
    by : (b : Bool) → has_feed (drop at s) ≡ b
        → ((more : List (List Pair)) → length more ≡ i + 1
        → resume e (reading (settings_of more) (i + 1) (at + length (first_line (drop at s)) + 1)) (drop (at + length (first_line (drop at s)) + 1) s)
        ≡ to_the_end e s (from s (i + 1) (at + length (first_line (drop at s)) + 1) more))
        → resume e (reading (settings_of lines) i at) (drop at s) ≡ to_the_end e s (from s i at lines)
    by false f rest = unended-text e s i at lines (omega arith) long f
    by true f rest =
        by-read e s i at lines (omega arith) long f
        (λ more l. rw (ne_eqb (i + 1) sheet_lines (λ z. omega arith)) (rest more l))
        (line_read i (first_line (drop at s)) (settings_of lines)) refl

pub resume-start : (e : Equipment) (s : List ℕ) → resume e start s ≡ transcript_of e s
unfolding start transcript_of_by read_sheet
resume-start e s = sheet-within e 12 s 0 0 [] (omega arith) refl

-- ---- a refused sheet whose line is known

-- the reading from line i on is a refusal, of a line that has its line feed
record Known (s : List ℕ) (r : SheetReading) : Type 0 where
  pub cause : Refusal
  pub line : ℕ
  pub check : r.check ≡ settings_refused cause line
  pub fed : has_feed (drop r.start s) ≡ true

known_by : (e : Equipment) (s : List ℕ) (i at : ℕ) (lines : List (List Pair)) (h : i < sheet_lines) (long : length lines ≡ i) → Known s (from s i at lines)
    → (b : Bool) → has_feed (drop at s) ≡ b
    → ((more : List (List Pair)) → length more ≡ i + 1 → Known s (from s (i + 1) (at + length (first_line (drop at s)) + 1) more)
    → done_after e (record {
      stage = stage_after (i + 1);
      line = i + 1 + 1;
      overlong = false;
      taken = at + length (first_line (drop at s)) + 1;
      settings = settings_of more;
      board = fresh;
    }) (lines_in (drop (at + length (first_line (drop at s)) + 1) s)) ≡ true)
    → done_after e (reading (settings_of lines) i at) (lines_in (drop at s)) ≡ true
known_by e s i at lines h long k false f rest =
    let same = from-unended s i at lines h f in
    absurd (false≢true (sym f ∙ rw same at k.fed))
known_by e s i at lines h long k true f rest = by line-read refl
  where
    line-read : LineRead
    line-read = line_read i (first_line (drop at s)) (settings_of lines)

    q : State
    q = reading (settings_of lines) i at

    stepped : (r : Said) → on_read q (length (first_line (drop at s)) + 1) line-read ≡ r
        → done_after e q (lines_in (drop at s)) ≡ done_after e r.state (lines_in (drop (at + length (first_line (drop at s)) + 1) s))
    stepped r p = done-fed e q (drop at s) f ∙ rw (said_read e s i at lines h long, p, after_is e s i at lines h long f)

    by : (r : LineRead) → line-read ≡ r → done_after e q (lines_in (drop at s)) ≡ true
    by (Err away) c =
        stepped (on_read q (length (first_line (drop at s)) + 1) (Err away)) (ap (on_read q (length (first_line (drop at s)) + 1)) c)
        ∙ done-done e (stopped q (length (first_line (drop at s)) + 1)) (lines_in (drop (at + length (first_line (drop at s)) + 1) s)) refl
    by (Ok next) c =
        let g = on-accepted s i at lines h f long next c in
        go (lines ++ (g.read ∷ [])) (length-append lines (g.read ∷ []) ∙ ap (λ (n : ℕ). n + 1) long) g.settings g.reading
      where
        go : (more : List (List Pair)) → length more ≡ i + 1 → next ≡ settings_of more
            → from s i at lines ≡ from s (i + 1) (at + length (first_line (drop at s)) + 1) more → done_after e q (lines_in (drop at s)) ≡ true
        go more l st is =
            let same : at + (length (first_line (drop at s)) + 1) ≡ at + length (first_line (drop at s)) + 1 = omega arith in
            let onto : on_read q (length (first_line (drop at s)) + 1) line-read ≡ record { state = onward e s i at lines h long f (settings_of more); text = [] }
            = rw (c, st, same) in
            stepped (record { state = onward e s i at lines h long f (settings_of more); text = [] }) onto ∙ rest more l (subst (Known s) is k)

known-within : (e : Equipment) (k : ℕ) (s : List ℕ) (i at : ℕ) (lines : List (List Pair)) → i + suc k ≡ sheet_lines → length lines ≡ i → Known s (from s i at lines)
    → done_after e (reading (settings_of lines) i at) (lines_in (drop at s)) ≡ true
known-within e zero s i at lines is long known =
    known_by e s i at lines (omega arith) long known (has_feed (drop at s)) refl
    (λ more l n.
    let whole = from_end s (i + 1) (at + length (first_line (drop at s)) + 1) more (omega arith) in
    let clash : Ok tt ≡ settings_refused n.cause n.line = sym (ap (λ (r : SheetReading). r.check) whole) ∙ n.check in
    let z : ◌≡◌ {A = ℕ} 0 1 = cc in absurd (omega arith))
known-within e (suc k) s i at lines is long known =
    known_by e s i at lines (omega arith) long known (has_feed (drop at s)) refl
    (λ more l n. rw (ne_eqb (i + 1) sheet_lines (λ z. omega arith)) (known-within e k s (i + 1) (at + length (first_line (drop at s)) + 1) more (omega arith) l n))

pub known-ends : (e : Equipment) (s : List ℕ) (cause : Refusal) (n : ℕ) → (read_sheet s).check ≡ settings_refused cause n
    → has_feed (drop (read_sheet s).start s) ≡ true
    → done_after e start (lines_in s) ≡ true
unfolding start read_sheet
known-ends e s cause n c f = known-within e 12 s 0 0 [] (omega arith) refl (record { cause = cause; line = n; check = c; fed = f })
