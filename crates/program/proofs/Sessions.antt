-- The transcript law, for any equipment.
-- Assumes nothing.
use mathlib.Core.Path.{◌≡◌, refl, sym, ap, ◌∙◌, subst}
use mathlib.Core.Bool.{Bool, true, false, false≢true, ◌||◌}
use mathlib.Core.List.{List, [], ◌∷◌, ◌++◌, append_assoc, append-nil}
use Prim.Native.Nat.{ℕ, ◌+◌, ◌-◌, ◌≤◌, ◌<◌}
use native.Mathlib.Omega.{arith}
use borrow.Author.Tests.{ne_eqb, lt-leb}
use lib.Dec.{leb}
use lib.ListN.{length, take, drop, length-append, length-take, length-drop, take-append-drop}
use lib.Seq.{take_all, take_at, drop-append_seam}
use Rattle.rules.specs.Samples.{Equipment}
use Rattle.rules.specs.Text.{has_feed}
use Rattle.rules.specs.Sheets.{read_sheet}
use Rattle.rules.specs.Transcripts.{lines_in, input_end, transcript_of, transcript_by, transcript}
use Rattle.rules.specs.declared.Refusal.{Refusal}
use Rattle.rules.specs.Answers.{settings_refused}
use Rattle.program.specs.States.{Fit, start, is_done, stopped, sensible, read_state}
use Rattle.program.specs.Saying.{Said, resume}
use Rattle.program.specs.Responses.{line_room, longest, budget, respond_of}
use Rattle.program.specs.declared.State.{State}
use Rattle.program.specs.Sessions.{Session, Delivery, opened, delivered, during, ending, input_of, cut, Roomy, TranscriptLaw}
use Rattle.program.proofs.Fitting.{sensible-fit, fit-sensible}
use Rattle.program.proofs.Resuming.{done-resume, resume-none}
use Rattle.program.proofs.Ending.{done_after, done-unfed}
use Rattle.program.proofs.Framing.{plain-cut}
use Rattle.program.proofs.Transcripts.{resume-start, known-ends}
use Rattle.program.proofs.Responding.{s, ends, fit-after, says, took, finishes, answers-taken, left-unfed, left-short, taken-low, taken-high}
use Rattle.program.proofs.Handling.{handled-stops}
use Rattle.program.proofs.Responding.{begun-waits, done-stays, no_room, line_taken, tail-closed}

module _ (e : Equipment) where
  -- what is to be said of the input that is left
  abbrev still : Session → List ℕ → List ℕ
  still k more = resume e k.state (take (budget k.state) (k.left ++ more))

  -- after some calls that were given `input`
  record Good (k : Session) (input : List ℕ) : Type 0 where
    pub fit : Fit k.state 0
    pub finish : (more : List ℕ) → done_after e start (lines_in (take input_end (input ++ more))) ≡ true
        → done_after e k.state (lines_in (take (budget k.state) (k.left ++ more))) ≡ true
    pub says : (more : List ℕ) → transcript e (input ++ more) ≡ k.text ++ still k more

  good-opened : Good opened []
  unfolding start transcript_by
  good-opened =
      record {
        fit = record { from_one = omega arith; low = omega arith; high = omega arith; sheet = λ p. omega arith };
        finish = λ more p. p;
        says = λ more. sym (resume-start e (take input_end more));
      }

  module _ (k : Session) (c : Delivery) (last : Bool) where
    abbrev block : List ℕ
    block = k.left ++ c.bytes

    -- a call says what was to be said of what it took
    call-says : Fit k.state 0 → (more : List ℕ) → (last ≡ true → more ≡ [])
        → k.text ++ still k (c.bytes ++ more) ≡ (delivered e last k c).text ++ still (delivered e last k c) more
    call-says fit more none_more =
        ap (λ (l : List ℕ). k.text ++ resume e k.state (take (budget k.state) l)) (sym (append_assoc k.left c.bytes more))
        ∙ ap (λ (l : List ℕ). k.text ++ l) (says e k.state block last c.size fit more none_more)
        ∙ sym (append_assoc k.text (respond_of e k.state block last c.size).text (still (delivered e last k c) more))

  good-delivered : (k : Session) (input : List ℕ) (c : Delivery) → Good k input → Good (delivered e false k c) (input ++ c.bytes)
  good-delivered k input c g =
      record {
        fit = fit-after e k.state (k.left ++ c.bytes) false c.size g.fit;
        finish = λ more p.
            finishes e k.state (k.left ++ c.bytes) false c.size g.fit more (λ z. absurd (false≢true z))
            (rw (append_assoc k.left c.bytes more) (g.finish (c.bytes ++ more) (rw (← append_assoc input c.bytes more) p)));
        says = λ more. ap (transcript e) (append_assoc input c.bytes more) ∙ g.says (c.bytes ++ more)
            ∙ call-says k c false g.fit more (λ p. absurd (false≢true p));
      }

  good-during : (k : Session) (input : List ℕ) (cs : List Delivery) → Good k input → Good (during e k cs) (input ++ input_of cs)
  unfolding during input_of
  good-during k input [] g = subst (Good k) (sym (append-nil input)) g
  good-during k input (c ∷ cs) g =
      subst (Good (during e (delivered e false k c) cs)) (append_assoc input c.bytes (input_of cs))
      (good-during (delivered e false k c) (input ++ c.bytes) cs (good-delivered k input c g))

  -- ---- once the input has ended

  record Ended (k : Session) (input : List ℕ) : Type 0 where
    pub fit : Fit k.state 0
    pub says : transcript e input ≡ k.text ++ still k []

  good-ended : (k : Session) (input : List ℕ) → Good k input → Ended k input
  good-ended k input g = record { fit = g.fit; says = ap (transcript e) (sym (append-nil input)) ∙ g.says [] }

  abbrev closing : ℕ → Delivery
  closing size = record { bytes = []; size = size }

  ended-called : (k : Session) (input : List ℕ) (size : ℕ) → Ended k input → Ended (delivered e true k (closing size)) input
  ended-called k input size g =
      record {
        fit = fit-after e k.state (k.left ++ []) true size g.fit;
        says = g.says ∙ call-says k (closing size) true g.fit [] (λ p. refl);
      }

  ended-ending : (k : Session) (input : List ℕ) (sizes : List ℕ) → Ended k input → Ended (ending e k sizes) input
  unfolding ending
  ended-ending k input [] g = g
  ended-ending k input (size ∷ sizes) g = ended-ending (delivered e true k (closing size)) input sizes (ended-called k input size g)

  -- ---- the bytes that were taken

  record Took (k : Session) (input : List ℕ) : Type 0 where
    pub bytes : List ℕ
    pub splits : input ≡ bytes ++ k.left
    pub counts : length bytes ≡ k.state.taken
    pub fit : Fit k.state 0
    pub says : (t : List ℕ) → (is_done k.state ≡ true → t ≡ []) → transcript_of e (bytes ++ t) ≡ k.text ++ resume e k.state t

  took-opened : Took opened []
  unfolding start
  took-opened =
      record {
        bytes = [];
        splits = refl;
        counts = refl;
        fit = good-opened.fit;
        says = λ t n. sym (resume-start e t);
      }

  module _ (k : Session) (input : List ℕ) (c : Delivery) (last : Bool) (g : Took k input) where
    abbrev whole : List ℕ
    whole = k.left ++ c.bytes

    abbrev then : Session
    then = delivered e last k c

    abbrev more : List ℕ
    more = take (then.state.taken - k.state.taken) whole

    more-splits : input ++ c.bytes ≡ (g.bytes ++ more) ++ then.left
    more-splits =
        ap (λ (l : List ℕ). l ++ c.bytes) g.splits
        ∙ append_assoc g.bytes k.left c.bytes
        ∙ ap (λ (l : List ℕ). g.bytes ++ l) (sym (take-append-drop (then.state.taken - k.state.taken) whole))
        ∙ sym (append_assoc g.bytes more then.left)

    more-counts : length (g.bytes ++ more) ≡ then.state.taken
    more-counts =
        omega (
          arith,
          length-append g.bytes more,
          length-take (then.state.taken - k.state.taken) whole,
          g.counts,
          taken-low e k.state whole last c.size g.fit []
              (λ p. refl),
          taken-high e k.state whole last c.size g.fit [] (λ p. refl),
        )

    -- all done, nothing more is taken
    none_more : (t : List ℕ) → (is_done then.state ≡ true → t ≡ []) → is_done k.state ≡ true → more ++ t ≡ []
    none_more t n p =
        let same = done-stays e k.state whole last c.size g.fit p in
        let z : then.state.taken - k.state.taken ≡ 0 = omega (arith, ap (λ (h : Said). h.state.taken) same) in
        rw z (n (ap (λ (h : Said). is_done h.state) same ∙ p))

    took-delivered : Took then (input ++ c.bytes)
    took-delivered =
        record {
          bytes = g.bytes ++ more;
          splits = more-splits;
          counts = more-counts;
          fit = fit-after e k.state whole last c.size g.fit;
          says = λ t n.
              ap (transcript_of e) (append_assoc g.bytes more t)
              ∙ g.says (more ++ t) (none_more t n)
              ∙ ap (λ (l : List ℕ). k.text ++ l) (took e k.state whole last c.size g.fit t n)
              ∙ sym (append_assoc k.text (respond_of e k.state whole last c.size).text (resume e then.state t));
        }

  took-during : (k : Session) (input : List ℕ) (cs : List Delivery) → Took k input → Took (during e k cs) (input ++ input_of cs)
  unfolding during input_of
  took-during k input [] g = subst (Took k) (sym (append-nil input)) g
  took-during k input (c ∷ cs) g =
      subst (Took (during e (delivered e false k c) cs)) (append_assoc input c.bytes (input_of cs))
      (took-during (delivered e false k c) (input ++ c.bytes) cs (took-delivered k input c false g))

  took-ending : (k : Session) (input : List ℕ) (sizes : List ℕ) → Took k input → Took (ending e k sizes) input
  unfolding ending
  took-ending k input [] g = g
  took-ending k input (size ∷ sizes) g =
      took-ending (delivered e true k (closing size)) input sizes
      (subst (Took (delivered e true k (closing size))) (append-nil input) (took-delivered k input (closing size) true g))

  -- the sheet is read, and no begun line is dropped
  took-text : (k : Session) (input : List ℕ) → Took k input → 1 ≤ k.state.stage → k.state.overlong ≡ false
      → k.text ≡ transcript e (take k.state.taken input)
  unfolding transcript_by
  took-text k input g p whole =
      let cutting : take input_end (take k.state.taken input) ≡ g.bytes ++ []
      = ap (take input_end) (ap (take k.state.taken) g.splits ∙ take_at g.bytes k.left k.state.taken g.counts)
      ∙ take_all input_end g.bytes (omega (arith, g.counts, g.fit.high)) ∙ sym (append-nil g.bytes) in
      let quiet = resume-none e k.state (ne_eqb k.state.stage 0 (λ z. omega arith)) whole in
      sym (ap (transcript_of e) cutting ∙ g.says [] (λ z. refl) ∙ ap (λ (l : List ℕ). k.text ++ l) quiet ∙ append-nil k.text)

  -- ---- enough calls

  -- a call that leaves something to do leaves fewer bytes
  fewer : (k : Session) (size : ℕ) → Fit k.state 0 → line_room ≤ size → is_done (delivered e true k (closing size)).state ≡ false
      → length (delivered e true k (closing size)).left < length k.left
  fewer k size fit roomy going = by (is_done k.state) refl (has_feed (s e k.state (k.left ++ []) true size fit)) refl
    where
      by : (b : Bool) → is_done k.state ≡ b → (f : Bool) → has_feed (s e k.state (k.left ++ []) true size fit) ≡ f
          → length (delivered e true k (closing size)).left < length k.left
      by true p f r =
          absurd (false≢true (sym going ∙ ap (λ h. is_done h.state) (done-stays e k.state (k.left ++ []) true size fit p) ∙ p))
      by false p false r = absurd (false≢true (sym going ∙ tail-closed e k.state (k.left ++ []) true size fit p roomy r refl))
      by false p true r =
          omega (
            arith,
            line_taken e k.state (k.left ++ []) true size fit p roomy r,
            taken-high e k.state (k.left ++ []) true size fit [] (λ p. refl),
            length-drop
                ((delivered e true k (closing size)).state.taken - k.state.taken) (k.left ++ []),
            length-append k.left [],
          )

  stays-done : (k : Session) (sizes : List ℕ) → Fit k.state 0 → is_done k.state ≡ true → is_done (ending e k sizes).state ≡ true
  unfolding ending
  stays-done k [] fit p = p
  stays-done k (size ∷ sizes) fit p =
      stays-done (delivered e true k (closing size)) sizes (fit-after e k.state (k.left ++ []) true size fit)
      (ap (λ h. is_done h.state) (done-stays e k.state (k.left ++ []) true size fit p) ∙ p)

  all_done : (k : Session) (sizes : List ℕ) → Fit k.state 0 → Roomy sizes → length k.left < length sizes → is_done (ending e k sizes).state ≡ true
  unfolding ending Roomy
  all_done k [] fit r h = absurd (omega arith)
  all_done k (size ∷ sizes) fit r h =
      by (is_done (delivered e true k (closing size)).state) refl
      (λ p. all_done (delivered e true k (closing size)) sizes (fit-after e k.state (k.left ++ []) true size fit) r.1
      (omega (arith, fewer k size fit r.0 p)))
    where
      by : (b : Bool) → is_done (delivered e true k (closing size)).state ≡ b
          → (is_done (delivered e true k (closing size)).state ≡ false → is_done (ending e (delivered e true k (closing size)) sizes).state ≡ true)
          → is_done (ending e (delivered e true k (closing size)) sizes).state ≡ true
      by true p rest = stays-done (delivered e true k (closing size)) sizes (fit-after e k.state (k.left ++ []) true size fit) p
      by false p rest = rest p

  -- ---- the law

  abbrev after : List Delivery → Session
  after cs = during e opened cs

  good : (cs : List Delivery) → Good (after cs) (input_of cs)
  good cs = good-during opened [] cs good-opened

  at-end : (cs : List Delivery) (sizes : List ℕ) → Ended (ending e (after cs) sizes) (input_of cs)
  at-end cs sizes = ended-ending (after cs) (input_of cs) sizes (good-ended (after cs) (input_of cs) (good cs))

  -- as many bytes came as were taken and are left
  pub taken-and-left : (cs : List Delivery) (sizes : List ℕ)
      → length (input_of cs) ≡ (ending e (after cs) sizes).state.taken + length (ending e (after cs) sizes).left
  taken-and-left cs sizes =
      let t = took-ending (after cs) (input_of cs) sizes (took-during opened [] cs took-opened) in
      ap length t.splits ∙ length-append t.bytes (ending e (after cs) sizes).left ∙ ap (λ (n : ℕ). n + length (ending e (after cs) sizes).left) t.counts

  -- what was said begins the transcript of what came, once the input has ended
  pub begins-ended : (cs : List Delivery) (sizes : List ℕ)
      → transcript e (input_of cs)
      ≡ (ending e (after cs) sizes).text ++ drop (length (ending e (after cs) sizes).text) (transcript e (input_of cs))
  begins-ended cs sizes =
      let k = ending e (after cs) sizes in
      let says = (at-end cs sizes).says in
      says ∙ ap (λ (l : List ℕ). k.text ++ l) (sym (ap (drop (length k.text)) says ∙ drop-append_seam k.text (still k [])))

  nothing-more : (k : Session) (more : List ℕ) → is_done k.state ≡ true → k.text ++ still k more ≡ k.text
  nothing-more k more p = rw (done-resume e k.state (take (budget k.state) (k.left ++ more)) p) (append-nil k.text)

  ends-known : (cs : List Delivery) (cause : Refusal) (n : ℕ) → (read_sheet (cut cs)).check ≡ settings_refused cause n
      → has_feed (drop (read_sheet (cut cs)).start (cut cs)) ≡ true
      → has_feed (after cs).left ≡ false → is_done (after cs).state ≡ true
  ends-known cs cause n c f left =
      let k = after cs in
      let known = known-ends e (cut cs) cause n c f in
      let finished = (good cs).finish [] (rw append-nil known) in
      let plain : has_feed (take (budget k.state) (k.left ++ [])) ≡ false = rw (append-nil k.left) (plain-cut (budget k.state) k.left left) in
      sym (done-unfed e k.state (take (budget k.state) (k.left ++ [])) plain) ∙ finished

  senseless-is : (q : State) (block : List ℕ) (last : Bool) (size : ℕ) → sensible q ≡ false
      → respond_of e q block last size ≡ record { state = stopped q 0; text = [] }
  unfolding respond_of read_state
  senseless-is q block last size wild =
      rw wild (handled-stops e (last || leb (budget q) (length block)) size (record { state = stopped q 0; text = [] }) (lines_in (take (budget q) block)) refl)

  waits-is : (q : State) (block : List ℕ) (size : ℕ) → Fit q 0 → q.overlong ≡ false → length block < budget q → has_feed block ≡ false
      → length block ≤ longest → respond_of e q block false size ≡ record { state = q; text = [] }
  waits-is q block size fit plain before unfed short =
      let whole : take (budget q) block ≡ block = take_all (budget q) block (omega (arith, before)) in
      begun-waits e q block false size fit (lt-leb (budget q) (length block) before) (rw whole unfed) plain (rw whole short)

  pub transcript-law : TranscriptLaw e
  transcript-law =
      record {
        done = λ cs sizes p. sym ((at-end cs sizes).says ∙ nothing-more (ending e (after cs) sizes) [] p);
        ends = λ cs sizes r h. all_done (after cs) sizes (good cs).fit r h;
        reached = λ cs sizes. fit-sensible (ending e (after cs) sizes).state 0 (at-end cs sizes).fit;
        idle = λ q block last size fit small.
            let same = no_room e q block last size (sensible-fit q fit) small in
            (ap (λ (h : Said). h.text) same, ap (λ (h : Said). h.state) same);
        senseless = λ q block last size wild. senseless-is q block last size wild;
        finished = λ q block last size fit p. done-stays e q block last size (sensible-fit q fit) p;
        waits = λ q block size fit plain before unfed short. waits-is q block size (sensible-fit q fit) plain before unfed short;
        progress = λ q block last size fit going roomy fed. line_taken e q block last size (sensible-fit q fit) going roomy fed;
        handles = λ q block last size fit going room.
            (left-unfed e q block last size (sensible-fit q fit) going room, left-short e q block last size (sensible-fit q fit) going room);
        answers = λ q block last size fit samples whole left. answers-taken e q block last size (sensible-fit q fit) samples whole left;
        written = λ cs sizes p whole. took-text (ending e (after cs) sizes) (input_of cs)
            (took-ending (after cs) (input_of cs) sizes (took-during opened [] cs took-opened)) p whole;
        refused = λ cs cause n c f left. ends-known cs cause n c f left;
        begins = λ cs more. (good cs).says more
            ∙ ap (λ (l : List ℕ). (after cs).text ++ l)
            (sym (ap (drop (length (after cs).text)) ((good cs).says more) ∙ drop-append_seam (after cs).text (still (after cs) more)));
        early = λ cs more p. (good cs).says more ∙ nothing-more (after cs) more p;
      }
