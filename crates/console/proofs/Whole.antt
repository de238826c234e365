-- What a session that is done has said is the transcript of all that the reader had.
-- Assumes nothing.
use mathlib.Core.Path.{◌≡◌, refl, sym, ap, ◌∙◌, subst}
use mathlib.Core.Bool.{Bool, true, false}
use mathlib.Core.List.{List, [], ◌++◌, append-nil}
use mathlib.Core.Logic.{◌⊎◌, inl, inr}
use Prim.Native.Nat.{ℕ}
use native.Mathlib.Omega.{arith}
use lib.ListN.{length}
use lib.Seq.{take-append-le}
use Rattle.std.specs.Prelude.{Option, Some, None, IfSome}
use Rattle.std.specs.Io.KnownBytes.{Appends, Consumes, IsAtEnd}
use Rattle.rules.specs.Samples.{Equipment}
use Rattle.rules.specs.Transcripts.{input_end, transcript_of_by, transcript_by, answers_to, transcript}
use Rattle.program.specs.States.{is_done}
use Rattle.program.specs.Sessions.{Session, opened, during, ending}
use Rattle.program.specs.Standing.{Reached}
use Rattle.program.proofs.Sessions.{transcript-law}
use Rattle.program.proofs.Standing.{reached-transcript}

module _ (e : Equipment) where
  -- what follows 10^12 bytes is not read
  cut-there : (s more : List ℕ) → length s ≡ input_end → transcript e (s ++ more) ≡ transcript e s
  unfolding transcript_by
  cut-there s more n = ap (transcript_of_by (answers_to e)) (take-append-le input_end s more (omega (arith, n)))

  -- all is done before the input's end: what follows adds nothing
  early : {input : List ℕ} {k : Session} → Reached e input false k → is_done k.state ≡ true → (more : List ℕ) → transcript e (input ++ more) ≡ k.text
  unfolding ending
  early {input} {k} r p more =
      let d = during e opened r.deliveries in
      let is : d ≡ k = sym (ap (ending e d) (r.coming refl)) ∙ r.is in
      ap (λ (l : List ℕ). transcript e (l ++ more)) (sym r.came)
      ∙ (transcript-law e).early r.deliveries more (ap (λ (k : Session). is_done k.state) is ∙ p)
      ∙ ap (λ (k : Session). k.text) is

  module _ {input : List ℕ} {ended : Bool} {k : Session} (r : Reached e input ended k) (done : is_done k.state ≡ true) where
    whole-of : (more : List ℕ) → (ended ≡ true → (more ≡ []) ⊎ (length input ≡ input_end)) → transcript e (input ++ more) ≡ k.text
    whole-of more at-end = by ended refl
      where
        told : (more ≡ []) ⊎ (length input ≡ input_end) → transcript e (input ++ more) ≡ k.text
        told (inl none) =
            ap (λ (l : List ℕ). transcript e (input ++ l)) none ∙ ap (transcript e) (append-nil input) ∙ sym (reached-transcript e r done)
        told (inr all) = cut-there input more all ∙ sym (reached-transcript e r done)

        by : (b : Bool) → ended ≡ b → transcript e (input ++ more) ≡ k.text
        by true p = told (at-end p)
        by false p = early (subst (λ (b : Bool). Reached e input b k) p r) done more

    pub from-source : (from from' to to' : Option (List ℕ)) → Consumes from from' input → (ended ≡ true → IsAtEnd from' ⊎ (length input ≡ input_end))
        → Appends to to' k.text → IfSome from (λ (s : List ℕ). Appends to to' (transcript e s))
    from-source from from' to to' came at-end put = by from from' came at-end
      where
        by : (a b : Option (List ℕ)) → Consumes a b input → (ended ≡ true → IsAtEnd b ⊎ (length input ≡ input_end))
            → IfSome a (λ (s : List ℕ). Appends to to' (transcript e s))
        by None b came at-end = tt
        by (Some s) None came at-end = absurd came
        by (Some s) (Some more) came at-end = subst (Appends to to') (sym (ap (transcript e) came ∙ whole-of more at-end)) put
