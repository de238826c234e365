-- Equipments that step alike say alike.
-- Assumes nothing.
use mathlib.Core.Path.{◌≡◌, refl, sym, ap, ◌∙◌}
use mathlib.Core.Bool.{Bool, cond}
use mathlib.Core.List.{List, [], ◌∷◌}
use Prim.Native.Nat.{ℕ}
use Rattle.rules.specs.Samples.{Equipment}
use Rattle.rules.specs.Transcripts.{Line, ended, unended}
use Rattle.causes.specs.Alike.{Alike}
use Rattle.program.specs.Saying.{Said, said}
use Rattle.program.specs.Responses.{handled, stops, and_said}
use Rattle.program.proofs.Saying.{said-alike}
use Rattle.states.specs.Carrying.{Carried}
use Rattle.states.specs.declared.Handled.{Handled}

module _ (e f : Equipment) (a : Alike e f) where
  handled-alike : (ends : Bool) (size : ℕ) (h : Said) (ls : List Line) → handled e ends size h ls ≡ handled f ends size h ls
  unfolding handled
  handled-alike ends size h [] = refl
  handled-alike ends size h (ended l ∷ ls) =
      ap (λ (k : Said). cond (stops size h) h k)
      (ap (λ (k : Said). handled e ends size (and_said h k) ls) (said-alike e f a h.state l) ∙ handled-alike ends size (and_said h (said f h.state l)) ls)
  handled-alike ends size h (unended l ∷ ls) = refl

  pub carried-alike : (s d : List ℕ) (h : Handled) (d' : List ℕ) (r : Handled) → Carried e s d h d' r → Carried f s d h d' r
  carried-alike s d h d' r c =
      record {
        stands = c.stands;
        text = c.text;
        wrote = c.wrote;
        same = λ before l ends. sym (handled-alike ends _ _ _) ∙ c.same before l ends ∙ handled-alike ends _ _ _;
      }
