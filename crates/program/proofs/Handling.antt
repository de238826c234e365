-- The lines of a block: what is said for them and what is left say together what was to be said from the state before.
-- Assumes nothing.
use mathlib.Core.Path.{◌≡◌, refl, sym, ap, ◌∙◌, subst}
use mathlib.Core.Bool.{Bool, true, false, cond, ◌||◌, false≢true}
use mathlib.Core.List.{List, [], ◌∷◌, ◌++◌, append_assoc, append-nil}
use Prim.Native.Nat.{ℕ, zero, suc, ◌+◌, ◌-◌, ◌≤◌}
use native.Mathlib.Omega.{arith}
use borrow.Author.Tests.{ltb-false}
use lib.Dec.{ltb}
use lib.ListN.{length, take, drop, length-drop}
use lib.Seq.{take-length, drop-length, drop-drop}
use Rattle.rules.specs.Samples.{Equipment}
use Rattle.rules.specs.Text.{feed, first_line, has_feed, after_line}
use Rattle.rules.specs.Transcripts.{Line, lines_in}
use Rattle.basics.proofs.Bools.{neither}
use Rattle.text.proofs.Lines.{line_after, line-ended}
use Rattle.program.specs.States.{Fit, is_done, reads_sheet, stopped}
use Rattle.program.specs.Saying.{Said, said, resume}
use Rattle.program.specs.Responses.{longest, stops, and_said, closed, dropped, at_tail, handled}
use Rattle.program.proofs.Framing.{lines-fed, lines-unfed, line_plain, take-line, feed-front, line-front, after-front}
use Rattle.program.proofs.Saying.{said-taken, said-on}
use Rattle.program.proofs.Resuming.{resume-fed, resume-unfed, resume-line, done-resume, dropped-resume}
use Rattle.program.proofs.Ending.{done_after, done-fed, done-done, done-dropped}
use Rattle.program.proofs.Fitting.{fit-less, fit-stopped, fit-said}

drop-none : (t : ℕ) (s : List ℕ) → drop (t - t) s ≡ s
drop-none t s = let z : t - t ≡ 0 = omega arith in rw z

module _ (e : Equipment) (ends : Bool) (size : ℕ) where
  pub handled-fed : (h : Said) (s : List ℕ) → has_feed s ≡ true
      → handled e ends size h (lines_in s) ≡ cond (stops size h) h (handled e ends size (and_said h (said e h.state (first_line s))) (lines_in (after_line s)))
  unfolding handled
  handled-fed h s p = ap (handled e ends size h) (lines-fed s p)

  pub handled-unfed : (h : Said) (s : List ℕ) → has_feed s ≡ false → handled e ends size h (lines_in s) ≡ cond (stops size h) h (at_tail ends h s)
  unfolding handled
  handled-unfed h [] p = ap (handled e ends size h) (lines-unfed [] p)
  handled-unfed h (b ∷ s) p = ap (handled e ends size h) (lines-unfed (b ∷ s) p)

  pub handled-stops : (h : Said) (ls : List Line) → stops size h ≡ true → handled e ends size h ls ≡ h
  unfolding handled
  handled-stops h [] p = rw p
  handled-stops h (Rattle.rules.specs.Transcripts.Line.ended l ∷ ls) p = rw p
  handled-stops h (Rattle.rules.specs.Transcripts.Line.unended l ∷ ls) p = rw p

-- from h, with the bytes s of a block before it and `more` after the block, to k; `took` is of the bytes that are taken, whatever comes
-- after them, where not all is done
pub record Keeps (e : Equipment) (h : Said) (s more : List ℕ) (k : Said) : Type 0 where
  pub low : h.state.taken ≤ k.state.taken
  pub high : k.state.taken ≤ h.state.taken + length s
  pub says : h.text ++ resume e h.state (s ++ more) ≡ k.text ++ resume e k.state (drop (k.state.taken - h.state.taken) s ++ more)
  pub finish : done_after e h.state (lines_in (s ++ more)) ≡ true → done_after e k.state (lines_in (drop (k.state.taken - h.state.taken) s ++ more)) ≡ true
  pub took : (t : List ℕ) → (is_done k.state ≡ true → t ≡ [])
      → h.text ++ resume e h.state (take (k.state.taken - h.state.taken) s ++ t) ≡ k.text ++ resume e k.state t
  pub on : reads_sheet h.state ≡ false → reads_sheet k.state ≡ false

stays : (e : Equipment) (h : Said) (s more : List ℕ) → Keeps e h s more h
stays e h s more =
    record {
      low = omega arith;
      high = omega arith;
      says = rw (drop-none h.state.taken s);
      finish = λ p. rw (drop-none h.state.taken s) p;
      took = λ t n. let z : h.state.taken - h.state.taken ≡ 0 = omega arith in rw z;
      on = λ p. p;
    }

no-feed : has_feed [] ≡ false
unfolding has_feed
no-feed = refl

-- ---- the bytes after the last line feed

module _ (e : Equipment) (h : Said) (s more : List ℕ) (plain : has_feed s ≡ false) where
  keeps-closed : more ≡ [] → Keeps e h s more (closed h s)
  keeps-closed none =
      let all : h.state.taken + length s - h.state.taken ≡ length s = omega arith in
      record {
        low = omega arith;
        high = omega arith;
        says = rw (none, append-nil s, resume-unfed e h.state s plain, done-resume e (stopped h.state (length s)) _ refl) (sym (append-nil _));
        finish = λ p. done-done e (stopped h.state (length s)) (lines_in (drop (h.state.taken + length s - h.state.taken) s ++ more)) refl;
        took = λ t n. rw (
          n refl,
          all,
          take-length s,
          append-nil s,
          resume-unfed e h.state s plain,
          done-resume e (stopped h.state (length s)) [] refl,
        ) (sym (append-nil _));
        on = λ p. refl;
      }

  keeps-dropped : (h.state.overlong || ltb longest (length s)) ≡ true → Keeps e h s more (dropped h s)
  keeps-dropped overlong =
      let all : h.state.taken + length s - h.state.taken ≡ length s = omega arith in
      record {
        low = omega arith;
        high = omega arith;
        says = rw (all, drop-length s) (ap (λ (t : List ℕ). h.text ++ t) (dropped-resume e h.state s h.state.overlong refl overlong more plain));
        finish = λ p. rw (all, drop-length s) (sym (done-dropped e h.state s more overlong plain) ∙ p);
        took = λ t n. rw (all, take-length s) (ap (λ (l : List ℕ). h.text ++ l) (dropped-resume e h.state s h.state.overlong refl overlong t plain));
        on = λ p. p;
      }

  keeps-tail : (ends : Bool) → (ends ≡ true → more ≡ []) → Keeps e h s more (at_tail ends h s)
  keeps-tail true last = keeps-closed (last refl)
  keeps-tail false last = by (h.state.overlong || ltb longest (length s)) refl
    where
      by : (b : Bool) → (h.state.overlong || ltb longest (length s)) ≡ b → Keeps e h s more (cond b (dropped h s) h)
      by true p = keeps-dropped p
      by false p = stays e h s more

-- ---- a line more

pub after-shorter : (s : List ℕ) → has_feed s ≡ true → length (after_line s) + (length (first_line s) + 1) ≡ length s
after-shorter s f = rw (line_after s f, length-drop (length (first_line s) + 1) s) (omega (arith, line-ended s f))

module _ (e : Equipment) (h : Said) (s more : List ℕ) (fed : has_feed s ≡ true) (going : is_done h.state ≡ false) where
  abbrev line : List ℕ
  line = first_line s

  abbrev next : Said
  next = and_said h (said e h.state line)

  next-taken : next.state.taken ≡ h.state.taken + (length line + 1)
  next-taken = said-taken e h.state line going

  after_is : after_line s ≡ drop (length line + 1) s
  after_is = line_after s fed

  after-length : length (after_line s) + (length line + 1) ≡ length s
  after-length = after-shorter s fed

  one-says : h.text ++ resume e h.state (s ++ more) ≡ next.text ++ resume e next.state (after_line s ++ more)
  one-says =
      rw (resume-fed e h.state (s ++ more) (feed-front s more fed), line-front s more fed, after-front s more fed)
      (sym (append_assoc h.text (said e h.state line).text (resume e next.state (after_line s ++ more))))

  -- what is left of the rest of s is what is left of s
  left_is : (k : Said) → next.state.taken ≤ k.state.taken
      → drop (k.state.taken - next.state.taken) (after_line s) ≡ drop (k.state.taken - h.state.taken) s
  left_is k low =
      let n : length line + 1 + (k.state.taken - next.state.taken) ≡ k.state.taken - h.state.taken = omega (arith, next-taken) in
      ap (drop (k.state.taken - next.state.taken)) after_is ∙ drop-drop _ (length line + 1) s ∙ ap (λ (m : ℕ). drop m s) n

  one-finish : done_after e h.state (lines_in (s ++ more)) ≡ true → done_after e next.state (lines_in (after_line s ++ more)) ≡ true
  one-finish p =
      rw (← after-front s more fed, ← line-front s more fed) (sym (done-fed e h.state (s ++ more) (feed-front s more fed)) ∙ p)

  one-took : (k : Said) (t : List ℕ) → next.state.taken ≤ k.state.taken
      → h.text ++ resume e h.state (take (k.state.taken - h.state.taken) s ++ t)
      ≡ next.text ++ resume e next.state (take (k.state.taken - next.state.taken) (after_line s) ++ t)
  one-took k t low =
      let m = k.state.taken - next.state.taken in
      let n : k.state.taken - h.state.taken ≡ length line + 1 + m = omega (arith, next-taken) in
      let x = take m (after_line s) in
      ap (λ (l : List ℕ). h.text ++ resume e h.state (l ++ t)) (ap (λ (i : ℕ). take i s) n ∙ take-line s m fed)
      ∙ ap (λ (l : List ℕ). h.text ++ resume e h.state l) (append_assoc line (feed ∷ x) t)
      ∙ ap (λ (l : List ℕ). h.text ++ l) (resume-line e h.state line (x ++ t) (line_plain s))
      ∙ sym (append_assoc h.text (said e h.state line).text (resume e next.state (x ++ t)))

  keeps_line : (k : Said) → Keeps e next (after_line s) more k → Keeps e h s more k
  keeps_line k r =
      record {
        low = omega (arith, next-taken, r.low);
        high = omega (arith, next-taken, r.high, after-length);
        says = one-says ∙ r.says ∙ ap (λ (t : List ℕ). k.text ++ resume e k.state (t ++ more)) (left_is k r.low);
        finish = λ p. rw (← left_is k r.low) (r.finish (one-finish p));
        took = λ t n. one-took k t r.low ∙ r.took t n;
        on = λ p. r.on (said-on e h.state line going p);
      }

-- ---- the whole block

module _ (e : Equipment) (ends : Bool) (size : ℕ) (h : Said) (s more : List ℕ) (last : ends ≡ true → more ≡ []) where
  keeps-end : has_feed s ≡ false → (b : Bool) → stops size h ≡ b → Keeps e h s more (cond b h (at_tail ends h s))
  keeps-end f true p = stays e h s more
  keeps-end f false p = keeps-tail e h s more f ends last

  keeps-fed : (f : has_feed s ≡ true)
      → (Keeps e (and_said h (said e h.state (first_line s))) (after_line s) more
      (handled e ends size (and_said h (said e h.state (first_line s))) (lines_in (after_line s))))
      → (b : Bool) → stops size h ≡ b → Keeps e h s more (cond b h (handled e ends size (and_said h (said e h.state (first_line s))) (lines_in (after_line s))))
  keeps-fed f rest true p = stays e h s more
  keeps-fed f rest false p = keeps_line e h s more f (neither _ _ p).0 _ rest

  -- n is at least the length of s; `rest` is the claim for what follows a line of s
  keeps-by : (b : Bool) → has_feed s ≡ b
      → (has_feed s ≡ true → Keeps e (and_said h (said e h.state (first_line s))) (after_line s) more
      (handled e ends size (and_said h (said e h.state (first_line s))) (lines_in (after_line s))))
      → Keeps e h s more (handled e ends size h (lines_in s))
  keeps-by false f rest = rw (handled-unfed e ends size h s f) (keeps-end f (stops size h) refl)
  keeps-by true f rest = rw (handled-fed e ends size h s f) (keeps-fed f (rest f) (stops size h) refl)

  fit-end : (b : Bool) → Fit h.state (length s) → Fit (at_tail b h s).state 0
  fit-end true f = fit-less 0 (fit-stopped (length s) f (omega arith)) (omega arith)
  fit-end false f = by (h.state.overlong || ltb longest (length s))
    where
      by : (b : Bool) → Fit (cond b (dropped h s) h).state 0
      by true = record { from_one = f.from_one; low = omega (arith, f.low); high = omega (arith, f.high); sheet = f.sheet }
      by false = fit-less 0 f (omega arith)

keeps-within : (e : Equipment) (ends : Bool) (size n : ℕ) (h : Said) (s more : List ℕ) → length s ≤ n → (ends ≡ true → more ≡ [])
    → Keeps e h s more (handled e ends size h (lines_in s))
keeps-within e ends size zero h s more low last =
    keeps-by e ends size h s more last (has_feed s) refl (λ f. absurd (omega (arith, after-shorter s f)))
keeps-within e ends size (suc n) h s more low last =
    keeps-by e ends size h s more last (has_feed s) refl
    (λ f. keeps-within e ends size n (and_said h (said e h.state (first_line s))) (after_line s) more (omega (arith, after-shorter s f)) last)

pub keeps : (e : Equipment) (ends : Bool) (size : ℕ) (h : Said) (s more : List ℕ) → (ends ≡ true → more ≡ []) → Keeps e h s more (handled e ends size h (lines_in s))
keeps e ends size h s more last = keeps-within e ends size (length s) h s more (omega arith) last

-- ---- and it fits

fits_by : (e : Equipment) (ends : Bool) (size : ℕ) (h : Said) (s : List ℕ) → Fit h.state (length s) → (b : Bool) → has_feed s ≡ b
    → (has_feed s ≡ true → Fit (said e h.state (first_line s)).state (length (after_line s))
    → Fit (handled e ends size (and_said h (said e h.state (first_line s))) (lines_in (after_line s))).state 0)
    → Fit (handled e ends size h (lines_in s)).state 0
fits_by e ends size h s fit false f rest = rw (handled-unfed e ends size h s f) (by (stops size h))
  where
    by : (b : Bool) → Fit (cond b h (at_tail ends h s)).state 0
    by true = fit-less 0 fit (omega arith)
    by false = fit-end e ends size h s [] (λ p. refl) ends fit
fits_by e ends size h s fit true f rest = rw (handled-fed e ends size h s f) (by (stops size h) refl)
  where
    by : (b : Bool) → stops size h ≡ b → Fit (cond b h (handled e ends size (and_said h (said e h.state (first_line s))) (lines_in (after_line s)))).state 0
    by true p = fit-less 0 fit (omega arith)
    by false p =
        let n : length s - (length (first_line s) + 1) ≡ length (after_line s) = omega (arith, after-shorter s f) in
        rest f (subst (Fit (said e h.state (first_line s)).state) n (fit-said e (first_line s) (neither _ _ p).0 fit (omega (arith, after-shorter s f))))

fits-within : (e : Equipment) (ends : Bool) (size n : ℕ) (h : Said) (s : List ℕ) → length s ≤ n → Fit h.state (length s)
    → Fit (handled e ends size h (lines_in s)).state 0
fits-within e ends size zero h s low fit = fits_by e ends size h s fit (has_feed s) refl (λ f p. absurd (omega (arith, after-shorter s f)))
fits-within e ends size (suc n) h s low fit =
    fits_by e ends size h s fit (has_feed s) refl
    (λ f p. fits-within e ends size n (and_said h (said e h.state (first_line s))) (after_line s) (omega (arith, after-shorter s f)) p)

pub fits : (e : Equipment) (ends : Bool) (size : ℕ) (h : Said) (s : List ℕ) → Fit h.state (length s) → Fit (handled e ends size h (lines_in s)).state 0
fits e ends size h s fit = fits-within e ends size (length s) h s (omega arith) fit

-- ---- what is left

-- where not all is done and there is room for a line more: the input does not end here, and no whole line is left, nor more
-- than 128 bytes
pub record Settled (ends : Bool) (h : Said) (s : List ℕ) (k : Said) : Type 0 where
  pub going_on : ends ≡ false
  pub unfed : has_feed (drop (k.state.taken - h.state.taken) s) ≡ false
  pub short : length (drop (k.state.taken - h.state.taken) s) ≤ longest

settled-tail : (ends : Bool) (size : ℕ) (h : Said) (s : List ℕ) → has_feed s ≡ false → stops size (at_tail ends h s) ≡ false → Settled ends h s (at_tail ends h s)
settled-tail true size h s f e = absurd (false≢true (sym e))
settled-tail false size h s f e = by (h.state.overlong || ltb longest (length s)) refl
  where
    by : (b : Bool) → (h.state.overlong || ltb longest (length s)) ≡ b → Settled false h s (cond b (dropped h s) h)
    by true p =
        let all : h.state.taken + length s - h.state.taken ≡ length s = omega arith in
        let none : drop (h.state.taken + length s - h.state.taken) s ≡ [] = rw all (drop-length s) in
        record { going_on = refl; unfed = ap has_feed none ∙ no-feed; short = omega (arith, ap length none) }
    by false p =
        let here = drop-none h.state.taken s in
        record {
          going_on = refl;
          unfed = ap has_feed here ∙ f;
          short = omega (arith, ap length here, ltb-false longest (length s) (neither h.state.overlong (ltb longest (length s)) p).1);
        }

settled-by : (e : Equipment) (ends : Bool) (size : ℕ) (h : Said) (s : List ℕ) → (b : Bool) → has_feed s ≡ b
    → (has_feed s ≡ true → stops size (handled e ends size (and_said h (said e h.state (first_line s))) (lines_in (after_line s))) ≡ false
    → Settled ends (and_said h (said e h.state (first_line s))) (after_line s)
    (handled e ends size (and_said h (said e h.state (first_line s))) (lines_in (after_line s))))
    → stops size (handled e ends size h (lines_in s)) ≡ false → Settled ends h s (handled e ends size h (lines_in s))
settled-by e ends size h s false f rest = rw (handled-unfed e ends size h s f) (by (stops size h) refl)
  where
    by : (b : Bool) → stops size h ≡ b → stops size (cond b h (at_tail ends h s)) ≡ false → Settled ends h s (cond b h (at_tail ends h s))
    by true p q = absurd (false≢true (sym q ∙ p))
    by false p q = settled-tail ends size h s f q
settled-by e ends size h s true f rest = rw (handled-fed e ends size h s f) (by (stops size h) refl)
  where
    next : Said
    next = and_said h (said e h.state (first_line s))

    last : Said
    last = handled e ends size next (lines_in (after_line s))

    by : (b : Bool) → stops size h ≡ b → stops size (cond b h last) ≡ false → Settled ends h s (cond b h last)
    by true p q = absurd (false≢true (sym q ∙ p))
    by false p q =
        let r = rest f q in
        let low = (keeps e ends size next (after_line s) [] (λ z. refl)).low in
        let left = left_is e h s [] f (neither _ _ p).0 last low in
        record { going_on = r.going_on; unfed = rw (← left) r.unfed; short = rw (← left) r.short }

settled-within : (e : Equipment) (ends : Bool) (size n : ℕ) (h : Said) (s : List ℕ) → length s ≤ n → stops size (handled e ends size h (lines_in s)) ≡ false
    → Settled ends h s (handled e ends size h (lines_in s))
settled-within e ends size zero h s low = settled-by e ends size h s (has_feed s) refl (λ f p. absurd (omega (arith, after-shorter s f)))
settled-within e ends size (suc n) h s low =
    settled-by e ends size h s (has_feed s) refl
    (λ f p. settled-within e ends size n (and_said h (said e h.state (first_line s))) (after_line s) (omega (arith, after-shorter s f)) p)

pub settled : (e : Equipment) (ends : Bool) (size : ℕ) (h : Said) (s : List ℕ) → stops size (handled e ends size h (lines_in s)) ≡ false
    → Settled ends h s (handled e ends size h (lines_in s))
settled e ends size h s p = settled-within e ends size (length s) h s (omega arith) p
