-- Texts that go to a writer, one after another.
-- Assumes nothing.
use Rattle.std.proofs.Common.{◌≡◌, refl, sym, ap, ◌∙◌, subst, Bool, true, List, [], ◌++◌, ℕ, ◌+◌, length, take}
use Rattle.std.specs.Prelude.{Option}
use Rattle.std.specs.Io.KnownBytes.{Appends}
use Rattle.std.proofs.KnownBytes.{Appends-nil, Appends-trans}
use lib.Seq.{take-append-add}
use Rattle.stdio.specs.Moves.{Put}

-- no bytes
pub put-none : {well : Bool} {old : Option (List ℕ)} → Put well old old []
put-none {well} {old} = record { count = 0; written = Appends-nil old; whole = λ w. refl }

-- a text after one that went well
pub put-on : {well well' : Bool} {old mid new : Option (List ℕ)} {s t : List ℕ} → Put well old mid s → well ≡ true → Put well' mid new t
    → Put well' old new (s ++ t)
put-on {well} {well'} {old} {mid} {new} {s} {t} a w b =
    let all : Appends old mid s = subst (Appends old mid) (a.whole w) a.written in
    let is = take-append-add s t b.count in
    record {
      count = length s + b.count;
      written = subst (Appends old new) (sym is) (Appends-trans old mid new s (take b.count t) all b.written);
      whole = λ g. is ∙ ap (λ (l : List ℕ). s ++ l) (b.whole g);
    }
