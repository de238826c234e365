-- One call of `respond`: what it says, and what is to be said of the rest, are together what was to be said; it leaves a
-- sensible state; and it makes progress.
-- Assumes nothing.
use mathlib.Core.Path.{◌≡◌, refl, sym, ap, ap₂, ◌∙◌, subst}
use mathlib.Core.Bool.{Bool, true, false, cond, ◌||◌, false≢true}
use mathlib.Core.List.{List, [], ◌++◌, append-nil}
use Prim.Native.Nat.{ℕ, ◌+◌, ◌-◌, ◌≤◌, ◌<◌, min}
use native.Mathlib.Omega.{arith}
use borrow.Author.Tests.{leb-true, leb-false, lt-ltb, le-ltb}
use lib.Dec.{leb, ltb, eqb}
use lib.ListN.{length, take, drop, length-take}
use lib.Seq.{take-nil, take_all, take-take}
use Rattle.rules.specs.Samples.{Equipment}
use Rattle.rules.specs.Text.{first_line, has_feed, after_line}
use Rattle.rules.specs.Transcripts.{lines_in, answers_from, input_end}
use Rattle.basics.proofs.Bools.{neither}
use Rattle.program.specs.States.{Fit, is_done, reads_sheet}
use Rattle.program.specs.Saying.{Said, said, resume}
use Rattle.program.specs.Responses.{line_room, longest, stops, and_said, dropped, handled, budget, respond_of, closed}
use Rattle.program.specs.declared.State.{State}
use Rattle.program.proofs.Cuts.{take-both, rest-cut}
use Rattle.program.proofs.Fitting.{fit-read}
use Rattle.program.proofs.Saying.{said-taken}
use Rattle.program.proofs.Resuming.{resume-none}
use Rattle.program.proofs.Transcripts.{sampling, resume-samples}
use Rattle.program.proofs.Ending.{done_after}
use Rattle.program.proofs.Handling.{Keeps, keeps, Settled, settled, fits, handled-fed, handled-unfed, handled-stops}

module _ (e : Equipment) (q : State) (block : List ℕ) (last : Bool) (size : ℕ) (fit : Fit q 0) where
  -- the bytes of the block that are the input's, and whether it ends with them
  abbrev pub s : List ℕ
  s = take (budget q) block

  abbrev pub ends : Bool
  ends = last || leb (budget q) (length block)

  abbrev begun : Said
  begun = record { state = q; text = [] }

  abbrev answer : Said
  answer = respond_of e q block last size

  answer-is : answer ≡ handled e ends size begun (lines_in s)
  unfolding respond_of
  answer-is = rw (fit-read q 0 fit)

  s-length : length s ≡ min (budget q) (length block)
  s-length = length-take (budget q) block

  room : q.taken + length s ≤ input_end
  room = omega (arith, fit.high, s-length)

  pub fit-after : Fit answer.state 0
  fit-after =
      rw answer-is (fits e ends size begun s (record { from_one = fit.from_one; low = fit.low; high = room; sheet = fit.sheet }))

  module _ (more : List ℕ) (None-more : last ≡ true → more ≡ []) where
    rest_ended : (b : Bool) → (b ≡ true → more ≡ []) → (b || leb (budget q) (length block)) ≡ true → take (budget q - length block) more ≡ []
    rest_ended true p r = rw (p refl) (take-nil (budget q - length block))
    rest_ended false p r =
        let z : budget q - length block ≡ 0 = omega (arith, leb-true (budget q) (length block) r) in rw z

    kept : Keeps e begun s (take (budget q - length block) more) answer
    kept = rw answer-is (keeps e ends size begun s (take (budget q - length block) more) (rest_ended last None-more))

    pub taken-low : q.taken ≤ answer.state.taken
    taken-low = kept.low

    pub taken-high : answer.state.taken ≤ q.taken + length block
    taken-high = omega (arith, kept.high, s-length)

    -- what is left of the input's bytes of the block and what follows them, cut as the next call cuts it
    left_cut : drop (answer.state.taken - q.taken) s ++ take (budget q - length block) more
        ≡ take (budget answer.state) (drop (answer.state.taken - q.taken) block ++ more)
    left_cut =
        let d : answer.state.taken - q.taken ≤ budget q = omega (arith, kept.high, s-length) in
        let left : budget q - (answer.state.taken - q.taken) ≡ budget answer.state = omega (arith, kept.low, fit.high) in
        rest-cut (answer.state.taken - q.taken) (budget q) block more d (omega (arith, kept.high, s-length))
        ∙ ap (λ (n : ℕ). take n (drop (answer.state.taken - q.taken) block ++ more)) left

    pub says : resume e q (take (budget q) (block ++ more))
        ≡ answer.text ++ resume e answer.state (take (budget answer.state) (drop (answer.state.taken - q.taken) block ++ more))
    says =
        ap (resume e q) (take-both (budget q) block more)
        ∙ kept.says
        ∙ ap (λ (l : List ℕ). answer.text ++ resume e answer.state l) left_cut

    pub finishes : done_after e q (lines_in (take (budget q) (block ++ more))) ≡ true
        → done_after e answer.state (lines_in (take (budget answer.state) (drop (answer.state.taken - q.taken) block ++ more))) ≡ true
    finishes p = rw (← left_cut) (kept.finish (rw (← take-both (budget q) block more) p))

  -- the bytes that are taken, whatever comes after them where not all is done
  pub took : (t : List ℕ) → (is_done answer.state ≡ true → t ≡ [])
      → resume e q (take (answer.state.taken - q.taken) block ++ t) ≡ answer.text ++ resume e answer.state t
  took t n =
      let k = kept [] (λ p. refl) in
      let same = take-take (answer.state.taken - q.taken) (budget q) block (omega (arith, k.high, s-length)) in
      ap (λ (l : List ℕ). resume e q (l ++ t)) (sym same) ∙ k.took t n

  -- ---- all done, it stays so

  pub done-stays : is_done q ≡ true → answer ≡ begun
  done-stays p = answer-is ∙ handled-stops e ends size begun (lines_in s) (rw p)

  -- ---- before the input's end a begun line waits

  pub begun-waits : ends ≡ false → has_feed s ≡ false → q.overlong ≡ false → length s ≤ longest → answer ≡ begun
  begun-waits p f o short =
      answer-is ∙ handled-unfed e ends size begun s f
      ∙ by (stops size begun) ends q.overlong (ltb longest (length s)) p o (le-ltb longest (length s) short)
    where
      by : (b k o l : Bool) → k ≡ false → o ≡ false → l ≡ false → cond b begun (cond k (closed begun s) (cond (o || l) (dropped begun s) begun)) ≡ begun
      by true k o l p₁ p₂ p₃ = refl
      by false false false false p₁ p₂ p₃ = refl
      by false false false true p₁ p₂ p₃ = absurd (false≢true (sym p₃))
      by false false true l p₁ p₂ p₃ = absurd (false≢true (sym p₂))
      by false true o l p₁ p₂ p₃ = absurd (false≢true (sym p₁))

  -- ---- no room for a line, nothing is done

  pub no_room : size < line_room → answer ≡ begun
  no_room small = answer-is ∙ handled-stops e ends size begun (lines_in s) (by (is_done q))
    where
      by : (b : Bool) → (b || ltb size line_room) ≡ true
      by true = refl
      by false = lt-ltb size line_room small

  -- ---- progress

  module _ (going : is_done q ≡ false) (roomy : line_room ≤ size) where
    goes : stops size begun ≡ false
    goes = rw (going) (le-ltb size line_room roomy)

    -- a whole line at hand is taken
    pub line_taken : has_feed s ≡ true → q.taken + (length (first_line s) + 1) ≤ answer.state.taken
    line_taken f =
        let next = and_said begun (said e q (first_line s)) in
        let on = answer-is ∙ handled-fed e ends size begun s f ∙ ap (λ (b : Bool). cond b begun (handled e ends size next (lines_in (after_line s)))) goes in
        let k = keeps e ends size next (after_line s) [] (λ p. refl) in
        rw on (omega (arith, said-taken e q (first_line s) going, k.low))

    -- where the input ends, the last call is enough: what has no line feed more is closed
    pub tail-closed : has_feed s ≡ false → ends ≡ true → is_done answer.state ≡ true
    tail-closed f p =
        rw (answer-is ∙ handled-unfed e ends size begun s f, goes, p) refl

  -- ---- what is left

  -- where not all is done and there is room for a line more
  module _ (going : is_done answer.state ≡ false) (room-left : length answer.text + line_room ≤ size) where
    settles : Settled ends begun s answer
    settles =
        let goes : stops size answer ≡ false = rw (going) (le-ltb size (length answer.text + line_room) room-left) in
        rw answer-is (settled e ends size begun s (rw answer-is at goes))

    -- the block is the input's, whole
    block-whole : (b : Bool) → (b || leb (budget q) (length block)) ≡ false → take (budget q) block ≡ block
    block-whole true p = absurd (false≢true (sym p))
    block-whole false p = take_all (budget q) block (omega (arith, leb-false (budget q) (length block) p))

    pub left-unfed : has_feed (drop (answer.state.taken - q.taken) block) ≡ false
    left-unfed =
        subst (λ (l : List ℕ). has_feed (drop (answer.state.taken - q.taken) l) ≡ false) (block-whole last settles.going_on) settles.unfed

    pub left-short : length (drop (answer.state.taken - q.taken) block) ≤ longest
    left-short =
        subst (λ (l : List ℕ). length (drop (answer.state.taken - q.taken) l) ≤ longest) (block-whole last settles.going_on) settles.short

  -- ---- a call that takes nothing

  quiet : has_feed s ≡ false → ends ≡ false → answer.text ≡ []
  quiet f p = rw (answer-is ∙ handled-unfed e ends size begun s f, p) (by (stops size begun) (q.overlong || ltb longest (length s)))
    where
      by : (b k : Bool) → (cond b begun (cond k (dropped begun s) begun)).text ≡ []
      by true k = refl
      by false true = refl
      by false false = refl

  -- where there is room for a line and all is not done, the input does not end there, no whole line stands there, and no more than 128 bytes
  pub nothing_left : line_room ≤ size → is_done answer.state ≡ false → answer.state.taken - q.taken ≡ 0
      → (last ≡ false) × (has_feed block ≡ false) × (length block ≤ longest)
  nothing_left roomy going none = by-done (is_done q) refl (has_feed s) refl ends refl
    where
      by-done : (b : Bool) → is_done q ≡ b → (f : Bool) → has_feed s ≡ f → (k : Bool) → ends ≡ k
          → (last ≡ false) × (has_feed block ≡ false) × (length block ≤ longest)
      by-done true p f r k t = absurd (false≢true (sym going ∙ ap (λ (h : Said). is_done h.state) (done-stays p) ∙ p))
      by-done false p true r k t = absurd (omega (arith, line_taken p roomy r))
      by-done false p false r true t = absurd (false≢true (sym going ∙ tail-closed p roomy r t))
      by-done false p false r false t =
          let room : length answer.text + line_room ≤ size = omega (arith, ap length (quiet r t)) in
          let here : drop (answer.state.taken - q.taken) block ≡ block = ap (λ (n : ℕ). drop n block) none in
          ((neither last (leb (budget q) (length block)) t).0, sym (ap has_feed here) ∙ left-unfed going room, omega (arith, left-short going room, ap length here))

  pub nothing-taken : line_room ≤ size → is_done answer.state ≡ false → answer.state.taken - q.taken ≡ 0 → length block ≤ longest
  nothing-taken roomy going none = (nothing_left roomy going none).2

  -- ---- among the samples

  module _ (samples : q.stage ≡ 1) (whole : q.overlong ≡ false) (left-whole : answer.state.overlong ≡ false) where
    q-is : q ≡ sampling q.settings q.board q.line q.taken
    q-is =
        ap₂ (λ (p : ℕ) (l : Bool). record { stage = p; line = q.line; overlong = l; taken = q.taken; settings = q.settings; board = q.board }) samples whole

    pub answers-taken : answer.text ≡ answers_from e q.settings q.board q.line (lines_in (take (answer.state.taken - q.taken) block))
    answers-taken =
        let l = take (answer.state.taken - q.taken) block in
        let reads : reads_sheet q ≡ false = ap (λ (p : ℕ). eqb p 0) samples in
        sym (append-nil answer.text)
        ∙ sym (took [] (λ p. refl) ∙ ap (λ (t : List ℕ). answer.text ++ t) (resume-none e answer.state ((kept [] (λ p. refl)).on reads) left-whole))
        ∙ ap (resume e q) (append-nil l)
        ∙ ap (λ (k : State). resume e k l) q-is
        ∙ resume-samples e q.settings q.board q.line q.taken l
