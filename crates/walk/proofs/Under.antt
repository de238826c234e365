-- What is read or written in a context is read or written under one more item, which stays as it is.
-- Assumes nothing but `Logic`, which every walk is handed.
use Prim.Native.Nat.{ℕ}
use mathlib.Core.List.{List, ◌∷◌}
use seplogic.Ra.Ura.{Ura}
use mir.Syntax.{Ty, Place, Opd as Operand}
use mir.Val.{Val}
use base.Logic.{SProp, ent, sep, wand, via, comm∗, mono_l, apply∗}
use prog.Wp.{Env, Spot, resolve, eval_opd, write}
use types.Logic.{Logic}
use sound.Laws.{Fm}
use sound.WpLaws.{resolve_fm, eval_opd_fm, write_fm}
use types.Kit.{Item, mean, ⋆, pop, assume⊢}
use types.Run.{Finds, Opd, Writes}

module _ {M : Type 1} {𝓤 : Ura M} (𝓛 : Logic 𝓤) where
  -- f reads or writes, from Γ to Γ', and hands on to Kt
  under : {X : Type 0} (i : Item 𝓤) (Γ Γ' : List (Item 𝓤)) (f : (X → SProp 𝓤) → SProp 𝓤) → Fm 𝓤 f → (x : X)
      → ((Kt : X → SProp 𝓤) → ent 𝓤 (⋆ 𝓛 Γ') (Kt x) → ent 𝓤 (⋆ 𝓛 Γ) (f Kt))
      → (Kt : X → SProp 𝓤) → ent 𝓤 (⋆ 𝓛 (i ∷ Γ')) (Kt x) → ent 𝓤 (⋆ 𝓛 (i ∷ Γ)) (f Kt)
  under {X} i Γ Γ' f fm x go Kt h =
      let I : SProp 𝓤 = mean 𝓛 i in
      let held : X → SProp 𝓤 = λ y. wand 𝓤 I (Kt y) in
      via 𝓤 (sep 𝓤 I (⋆ 𝓛 Γ)) (pop 𝓛 i Γ)
      (via 𝓤 (sep 𝓤 (⋆ 𝓛 Γ) I) (comm∗ 𝓤 I (⋆ 𝓛 Γ))
      (via 𝓤 (sep 𝓤 (f held) I) (mono_l 𝓤 I (go held (assume⊢ 𝓛 i Γ' (Kt x) h)))
      (fm held Kt I (λ y. via 𝓤 (sep 𝓤 I (held y)) (comm∗ 𝓤 (held y) I) (apply∗ 𝓤 I (Kt y))))))

module _ {M : Type 1} {𝓤 : Ura M} {𝓛 : Logic 𝓤} where
  open 𝓛 use {H}

  module _ {K : Type 0} {Γ : List (Item 𝓤)} {E : Env 𝓤 H} where
    pub finds-under : (i : Item 𝓤) {p : Place} {sp : Spot 𝓤 H} → Finds K 𝓛 Γ E p sp → Finds K 𝓛 (i ∷ Γ) E p sp
    finds-under i {p} {sp} found = record { go = under 𝓛 i Γ Γ (resolve 𝓤 H E p) (resolve_fm 𝓤 H 𝓛.laws E p) sp found.go }

    pub opd-under : (i : Item 𝓤) {x : Operand} {v : Val} → Opd K 𝓛 Γ E x v → Opd K 𝓛 (i ∷ Γ) E x v
    opd-under i {x} {v} read = record { go = under 𝓛 i Γ Γ (eval_opd 𝓤 H E x) (eval_opd_fm 𝓤 H 𝓛.laws E x) v read.go }

  module _ {K : Type 0} {Γ Γ' : List (Item 𝓤)} where
    pub writes-under : (i : Item 𝓤) {τ : Ty} {b o : ℕ} {v : Val} → Writes K 𝓛 Γ τ b o v Γ' → Writes K 𝓛 (i ∷ Γ) τ b o v (i ∷ Γ')
    writes-under i {τ} {b} {o} {v} written = record {
      go = λ P h. under 𝓛 i Γ Γ' (λ (Kt : Unit {0} → SProp 𝓤). write 𝓤 H τ b o v (Kt tt))
          (λ Kt Kt' R step. write_fm 𝓤 H 𝓛.laws τ b o v (Kt tt) (Kt' tt) R (step tt)) tt (λ Kt k. written.go (Kt tt) k) (λ _. P) h;
    }
