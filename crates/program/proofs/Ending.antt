-- Whether all is done after the whole lines of a text.
-- Assumes nothing.
use mathlib.Core.Path.{◌≡◌, refl, sym, ap, ◌∙◌}
use mathlib.Core.Bool.{Bool, true, false, ◌||◌}
use mathlib.Core.List.{List, [], ◌∷◌, ◌++◌}
use Prim.Native.Nat.{ℕ}
use lib.Dec.{ltb}
use lib.ListN.{length}
use Rattle.rules.specs.Samples.{Equipment}
use Rattle.rules.specs.Text.{first_line, has_feed, after_line}
use Rattle.rules.specs.Transcripts.{Line, ended, unended, lines_in}
use Rattle.text.specs.Forms.{longest}
use Rattle.program.specs.States.{is_done, dropping}
use Rattle.program.specs.Saying.{said}
use Rattle.program.specs.declared.State.{State}
use Rattle.formats.proofs.Feeds.{plain-feed, plain-line, plain-after}
use Rattle.program.proofs.Framing.{lines-fed, lines-unfed}
use Rattle.program.proofs.Saying.{done-said, dropped-said}

unfoldable pub done_after : Equipment → State → List Line → Bool
done_after e q [] = is_done q
done_after e q (ended l ∷ ls) = done_after e (said e q l).state ls
done_after e q (unended l ∷ ls) = is_done q

module _ (e : Equipment) where
  pub done-fed : (q : State) (s : List ℕ) → has_feed s ≡ true → done_after e q (lines_in s) ≡ done_after e (said e q (first_line s)).state (lines_in (after_line s))
  unfolding done_after
  done-fed q s p = ap (done_after e q) (lines-fed s p)

  pub done-unfed : (q : State) (s : List ℕ) → has_feed s ≡ false → done_after e q (lines_in s) ≡ is_done q
  unfolding done_after
  done-unfed q [] p = ap (done_after e q) (lines-unfed [] p)
  done-unfed q (b ∷ s) p = ap (done_after e q) (lines-unfed (b ∷ s) p)

  pub done-done : (q : State) (ls : List Line) → is_done q ≡ true → done_after e q ls ≡ true
  unfolding done_after
  done-done q [] p = p
  done-done q (ended l ∷ ls) p = rw (done-said e q l p) (done-done q ls p)
  done-done q (unended l ∷ ls) p = p

  pub done-dropped : (q : State) (s t : List ℕ) → (q.overlong || ltb longest (length s)) ≡ true → has_feed s ≡ false
      → done_after e q (lines_in (s ++ t)) ≡ done_after e (dropping q (length s)) (lines_in t)
  done-dropped q s t overlong plain = by-done (is_done q) refl
    where
      by-feed : is_done q ≡ false → (k : Bool) → has_feed t ≡ k → done_after e q (lines_in (s ++ t)) ≡ done_after e (dropping q (length s)) (lines_in t)
      by-feed p true f =
          done-fed q (s ++ t) (plain-feed s t plain ∙ f)
          ∙ rw (plain-line s t plain, plain-after s t plain, dropped-said e q s q.overlong refl overlong (first_line t) p)
          (sym (done-fed (dropping q (length s)) t f))
      by-feed p false f = done-unfed q (s ++ t) (plain-feed s t plain ∙ f) ∙ sym (done-unfed (dropping q (length s)) t f)

      by-done : (k : Bool) → is_done q ≡ k → done_after e q (lines_in (s ++ t)) ≡ done_after e (dropping q (length s)) (lines_in t)
      by-done true p = done-done q (lines_in (s ++ t)) p ∙ sym (done-done (dropping q (length s)) (lines_in t) p)
      by-done false p = by-feed p (has_feed t) refl
