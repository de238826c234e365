-- A walk's way in and out. What it has of its parameters is a list of pairs: what a parameter owns, and the token of its lifetime.
--     pairs       the pairs as the items of a context, two for each parameter
--     comes-in    what a function is given on entry, as those items
--     goes-out    those items and a result of plain data, as what the function leaves beside the fact that it promises;
--                 `goes-out-with` where the result is of another kind, and what it owns heads the context
--     meets-by    a walk, taken to the contract
-- Assumes nothing but `Logic`, which every walk is handed.
use mathlib.Core.List.{List, [], ◌∷◌}
use seplogic.Ra.Ura.{Ura}
use mir.Syntax.{Fn}
use base.Logic.{ent, sep, emp, via, mono_r, fst∗, emp∗}
use base.Fml.{Fml, ftrue, fsep}
use prog.Wp.{Tables, WpFn}
use types.Logic.{Logic, sem}
use sound.WpLaws.{WpFn-mono}
use contract.Lifetimes.{Lfts, Shares, AllOutlive}
use types.Kit.{Item, ‵, ◌⊛◌, ⋆, push, pop, ◌$◌, ◌∵◌, !, qed, by, move, split, fsplit, fjoin, frame, done}
use denote.RattleType.{RattleType, flat}
use denote.Laws.{Are, Ises, Spells, valss, Tellss}
use denote.Signature.{types_at}
use denote.Triple.Entry.{Args, on_entry}
use denote.Triple.Spec.{Meets}
use denote.Triple.Clauses.{Clauses, Ended, closing}
use denote.Triple.Walked.{Stays, AllGo, walk_of, walked, walk_Meets}
use Rattle.walk.proofs.Whole.{Whole, Known, have}

abbrev pub owns-all : List (Fml × Fml) → Fml
owns-all [] = ftrue
owns-all (p ∷ ps) = fsep p.0 (owns-all ps)

abbrev pub tokens : List (Fml × Fml) → Fml
tokens [] = ftrue
tokens (p ∷ ps) = fsep p.1 (tokens ps)

abbrev pub pairs : {M : Type 1} {𝓤 : Ura M} → List (Fml × Fml) → List (Item 𝓤)
pairs [] = []
pairs (p ∷ ps) = ‵ p.0 ∷ ‵ p.1 ∷ pairs ps

module _ {M : Type 1} {𝓤 : Ura M} (𝓛 : Logic 𝓤) where
  open 𝓛 use {H}

  pub comes-in : (ps : List (Fml × Fml)) → ent 𝓤 (sep 𝓤 (sem 𝓛 (tokens ps)) (sem 𝓛 (owns-all ps))) (⋆ 𝓛 (pairs ps))
  comes-in [] = fst∗ 𝓤 (emp 𝓤) (emp 𝓤)
  comes-in (p ∷ ps) =
      via 𝓤 (sep 𝓤 (sem 𝓛 p.0) (sep 𝓤 (sem 𝓛 p.1) (⋆ 𝓛 (pairs ps))))
      (qed 𝓛 (‵ (fsep p.1 (tokens ps)) ∷ ‵ (fsep p.0 (owns-all ps)) ∷ []) ∵
      fsplit ! $ move ! (2 ∷ []) $ fsplit ! $ frame ! $ move ! (1 ∷ []) $ frame ! $ move ! (1 ∷ 0 ∷ []) $ by ! (comes-in ps))
      (via 𝓤 (sep 𝓤 (sem 𝓛 p.0) (⋆ 𝓛 (‵ p.1 ∷ pairs ps))) (mono_r 𝓤 (sem 𝓛 p.0) (push 𝓛 (‵ p.1) (pairs ps)))
      (push 𝓛 (‵ p.0) (‵ p.1 ∷ pairs ps)))

  apart : (ps : List (Fml × Fml)) → ent 𝓤 (⋆ 𝓛 (pairs ps)) (sep 𝓤 (sem 𝓛 (tokens ps)) (sem 𝓛 (owns-all ps)))
  apart [] = emp∗ 𝓤 (emp 𝓤)
  apart (p ∷ ps) =
      via 𝓤 (sep 𝓤 (sem 𝓛 p.0) (⋆ 𝓛 (‵ p.1 ∷ pairs ps))) (pop 𝓛 (‵ p.0) (‵ p.1 ∷ pairs ps))
      (via 𝓤 (sep 𝓤 (sem 𝓛 p.0) (sep 𝓤 (sem 𝓛 p.1) (sep 𝓤 (sem 𝓛 (tokens ps)) (sem 𝓛 (owns-all ps)))))
      (mono_r 𝓤 (sem 𝓛 p.0) (via 𝓤 (sep 𝓤 (sem 𝓛 p.1) (⋆ 𝓛 (pairs ps))) (pop 𝓛 (‵ p.1) (pairs ps)) (mono_r 𝓤 (sem 𝓛 p.1) (apart ps))))
      (qed 𝓛 (‵ p.0 ∷ ‵ p.1 ∷ (‵ (tokens ps) ⊛ ‵ (owns-all ps)) ∷ []) ∵
      move ! (2 ∷ []) $ split ! $ move ! (3 ∷ 0 ∷ []) $ fjoin ! $ move ! (0 ∷ 2 ∷ 1 ∷ []) $ frame ! $ done !))

  pub goes-out-with : (ps : List (Fml × Fml)) (result : Fml)
      → ent 𝓤 (⋆ 𝓛 (‵ result ∷ pairs ps)) (sep 𝓤 (sem 𝓛 (tokens ps)) (sep 𝓤 (sem 𝓛 (owns-all ps)) (sem 𝓛 result)))
  goes-out-with ps result =
      via 𝓤 (sep 𝓤 (sem 𝓛 result) (⋆ 𝓛 (pairs ps))) (pop 𝓛 (‵ result) (pairs ps))
      (via 𝓤 (sep 𝓤 (sem 𝓛 result) (sep 𝓤 (sem 𝓛 (tokens ps)) (sem 𝓛 (owns-all ps)))) (mono_r 𝓤 (sem 𝓛 result) (apart ps))
      (qed 𝓛 (‵ result ∷ (‵ (tokens ps) ⊛ ‵ (owns-all ps)) ∷ []) ∵ move ! (1 ∷ []) $ split ! $ frame ! $ done !))

  pub goes-out : (ps : List (Fml × Fml)) (R : Whole) (x : R.row.Denot) → Known R x
      → ent 𝓤 (⋆ 𝓛 (pairs ps)) (sep 𝓤 (sem 𝓛 (tokens ps)) (sep 𝓤 (sem 𝓛 (owns-all ps)) (sem 𝓛 (R.row.own_val x (R.val x ∷ [])))))
  goes-out ps R x g = qed 𝓛 (pairs ps) ∵ have ! R x g $ by ! (goes-out-with ps (R.row.own_val x (R.val x ∷ [])))

  module _ (T : Ended) (hs : Stays T.signature.params T.kept) (c : Clauses 𝓤 T) (f : Fn) (𝓣 : Tables 𝓤 H) where
    abbrev Types : Lfts T.signature.lifetimes → List RattleType
    Types κs = types_at T.signature.params κs

    pub meets-by : AllGo 𝓛 T.signature.lifetimes T.signature.params T.kept hs
        → (sp : (κs : Lfts T.signature.lifetimes) → Spells (Types κs))
        → ((κs : Lfts T.signature.lifetimes) → Tellss (Types κs) (Ises (Types κs)) (sp κs))
        → ((κs : Lfts T.signature.lifetimes) (qs : Shares T.signature.lifetimes) (bounds : AllOutlive T.signature.lifetimes T.signature.outlives κs)
        (a : Args T.signature κs) (g : (c κs a).ghost) → Are (Types κs) (Ises (Types κs)) a (valss (Types κs) (sp κs) a)
        → ent 𝓤 (sep 𝓤 (on_entry 𝓛 T.signature κs qs a (valss (Types κs) (sp κs) a)) ((c κs a).requires g))
        (WpFn 𝓤 H 𝓣.C 𝓣.Λ f (flat (Types κs) (valss (Types κs) (sp κs) a))
        ((walk_of 𝓛 T hs c).post ((κs, qs, bounds, a, valss (Types κs) (sp κs) a), g))))
        → Meets 𝓛 T.signature (WpFn 𝓤 H 𝓣.C 𝓣.Λ f) (closing 𝓛 T c)
    meets-by gs sp tl k =
        walk_Meets 𝓛 T hs gs c (WpFn 𝓤 H 𝓣.C 𝓣.Λ f) (WpFn-mono 𝓤 H 𝓛.laws 𝓣 f)
        (walked 𝓛 T hs c (WpFn 𝓤 H 𝓣.C 𝓣.Λ f) sp tl k)
