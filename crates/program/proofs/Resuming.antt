-- What is written from a state on, line by line; all done, nothing is; and dropping the beginning of a line longer than any form
-- changes nothing of it.
-- Assumes nothing.
use mathlib.Core.Path.{◌≡◌, refl, sym, ap, ◌∙◌}
use mathlib.Core.Bool.{Bool, true, false, ◌||◌}
use mathlib.Core.List.{List, [], ◌∷◌, ◌++◌}
use Prim.Native.Nat.{ℕ}
use lib.Dec.{ltb}
use lib.ListN.{length}
use Rattle.rules.specs.Samples.{Equipment}
use Rattle.rules.specs.Text.{feed, first_line, has_feed, after_line}
use Rattle.rules.specs.Transcripts.{Line, ended, unended, lines_in}
use Rattle.text.specs.Forms.{longest}
use Rattle.program.specs.States.{is_done, reads_sheet, dropping}
use Rattle.program.specs.Saying.{said, end_text, following, resume}
use Rattle.program.specs.declared.State.{State}
use Rattle.formats.proofs.Feeds.{plain-feed, plain-line, plain-after}
use Rattle.formats.proofs.Samples.{plain-first}
use Rattle.program.proofs.Framing.{lines-fed, lines-unfed}
use Rattle.program.proofs.Saying.{done-said, done_end, end_whole, dropped-said, dropped-end}

module _ (e : Equipment) where
  pub resume-fed : (q : State) (s : List ℕ) → has_feed s ≡ true
      → resume e q s ≡ (said e q (first_line s)).text ++ resume e (said e q (first_line s)).state (after_line s)
  unfolding following
  resume-fed q s p = ap (following e q) (lines-fed s p)

  pub resume-unfed : (q : State) (s : List ℕ) → has_feed s ≡ false → resume e q s ≡ end_text q s
  unfolding following
  resume-unfed q [] p = ap (following e q) (lines-unfed [] p)
  resume-unfed q (b ∷ s) p = ap (following e q) (lines-unfed (b ∷ s) p)

  pub resume-line : (q : State) (l s : List ℕ) → has_feed l ≡ false → resume e q (l ++ (feed ∷ s)) ≡ (said e q l).text ++ resume e (said e q l).state s
  unfolding following
  resume-line q l s p = ap (following e q) (plain-first l s p)

  -- ---- all done

  done-following : (q : State) (ls : List Line) → is_done q ≡ true → following e q ls ≡ []
  unfolding following
  done-following q [] p = done_end q [] p
  done-following q (ended l ∷ ls) p = rw (done-said e q l p) (done-following q ls p)
  done-following q (unended l ∷ ls) p = done_end q l p

  pub done-resume : (q : State) (s : List ℕ) → is_done q ≡ true → resume e q s ≡ []
  done-resume q s p = done-following q (lines_in s) p

  -- ---- nothing more comes, and no line has begun

  pub resume-none : (q : State) → reads_sheet q ≡ false → q.overlong ≡ false → resume e q [] ≡ []
  unfolding has_feed
  resume-none q p whole = resume-unfed q [] refl ∙ end_whole q p whole

-- ---- a line longer than any form

module _ (e : Equipment) (q : State) (s : List ℕ) (b : Bool) (is : q.overlong ≡ b) (h : (b || ltb longest (length s)) ≡ true) where
  pub dropped-resume : (t : List ℕ) → has_feed s ≡ false → resume e q (s ++ t) ≡ resume e (dropping q (length s)) t
  dropped-resume t plain = by-done (is_done q) refl
    where
      by-feed : is_done q ≡ false → (k : Bool) → has_feed t ≡ k → resume e q (s ++ t) ≡ resume e (dropping q (length s)) t
      by-feed p true f =
          resume-fed e q (s ++ t) (plain-feed s t plain ∙ f)
          ∙ rw (plain-line s t plain, plain-after s t plain, dropped-said e q s b is h (first_line t) p) (sym (resume-fed e (dropping q (length s)) t f))
      by-feed p false f =
          resume-unfed e q (s ++ t) (plain-feed s t plain ∙ f)
          ∙ dropped-end e q s b is h t ∙ sym (resume-unfed e (dropping q (length s)) t f)

      by-done : (k : Bool) → is_done q ≡ k → resume e q (s ++ t) ≡ resume e (dropping q (length s)) t
      by-done true p = done-resume e q (s ++ t) p ∙ sym (done-resume e (dropping q (length s)) t p)
      by-done false p = by-feed p (has_feed t) refl
