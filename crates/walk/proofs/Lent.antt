-- Plain data behind a lent reference: one step of a hand walk for `d = *x`, and one for `*x = y`. Each leaves the context as it found it,
-- but for the local that is written or the value that the reference has.
--     copies, stores          where the cell behind x heads the context, whatever was opened to reach it
--     takes-mut, takes-shr    the same for a `&mut T` and a `&T`: what the reference owns and the token of its lifetime head the context
--     puts-mut                the same for a `&mut T` that is written
--     slice-twice             what a `&[T]` owns, once for a callee and once to keep
-- x is local i, which stands at n in what follows them; d is local j, which stands at m; τ is the type that the code reads behind x.
-- Assumes nothing but `Logic`, which every walk is handed.
use mathlib.Core.Path.{◌≡◌, refl, sym, ap}
use Prim.Native.Nat.{ℕ, suc}
use mathlib.Core.List.{List, [], ◌∷◌}
use seplogic.Ra.Ura.{Ura}
use base.Fraction.{full_share}
use mir.Syntax.{Ty, erased, place, deref, Opd as Operand, copy, rv_opd, Body as Code, seq, assign}
use mir.Val.{Val, vptr}
use base.Fml.{Lft, Share, Fml, flft}
use prog.Wp.{Env, Calls, Loops}
use types.Logic.{Logic}
use types.Kit.{Goal, Post, runs, ◌$◌, Step, step, Item, nth, put, ‵, ◌⊛◌, Seq, move, use1, split, rewrite, fsplit, fjoin, fsplit3, fjoin3, feq_i, drop}
use types.Run.{Opd, look, look_raw, init, store_raw, stop, hop, from, load, of_opd, assigns}
use denote.RattleType.{RattleType, RowLaws}
use denote.Ref.{Bor, MutBor, MutRef, ShrRef, shr_vals, mut_vals, at_last}
use denote.Slice.{ShrSlice, shr_slice_vals, shr_slice_copy}
use Rattle.walk.proofs.Locals.{ty_at, full, gap}
use Rattle.walk.proofs.Under.{opd-under}
use Rattle.walk.proofs.Whole.{Whole, Known, ty, cell, cell-is, typed, opens-whole, closes-whole, looks-whole, shuts-whole}

-- what a reference p owns, at its machine value
abbrev pub mut-owns : (R : Whole) → Lft → MutBor R.row.Denot → Fml
mut-owns R κ p = (MutRef erased κ R.row).own_val p (mut_vals p)

abbrev pub shr-owns : (R : Whole) → Lft → Bor R.row.Denot → Fml
shr-owns R κ p = (ShrRef erased κ R.row).own_val p (shr_vals p)

abbrev pub slice-owns : (R : RattleType) → Lft → Bor (List R.Denot) → Fml
slice-owns R κ p = (ShrSlice erased κ R).own_val p (shr_slice_vals p)

module _ {M : Type 1} {𝓤 : Ura M} {𝓛 : Logic 𝓤} {K : Type 0} {Γ : List (Item 𝓤)} where
  open 𝓛 use {H}

  module _ {E : Env 𝓤 H} {C : Calls 𝓤 H} {Λ : Loops 𝓤 H} {post : Post 𝓤 H} {rest : Code} {i : ℕ} {τ : Ty} where
    pub copies : K → (R : Whole) (p : Share) (h : R.row.Denot) (b o : ℕ) → Known R h → {j : ℕ}
        → (n : ℕ) → nth 𝓛 n Γ ≡ full E i (vptr b o) → (m : ℕ) → nth 𝓛 m Γ ≡ gap E j → ty R ≡ τ → ty R ≡ ty_at E j
        → Step K 𝓛 (‵ (cell p R h b o) ∷ put 𝓛 m (full E j (R.val h)) Γ) (runs C Λ E rest post)
        (‵ (cell p R h b o) ∷ Γ) (runs C Λ E (seq (assign (place j []) (rv_opd (copy (place i (deref τ ∷ []))))) rest) post)
    copies t R p h b o g n at_n m at-m e e' =
        assigns t (of_opd t (load t (from t (hop t (look t (suc n) at_n) (stop t))) (look_raw t 0 (ap ‵ (cell-is p R h b o e)))))
        (from t (stop t)) (init t (suc m) at-m (typed 𝓛 R h g e'))

    pub stores : K → (R : Whole) (h h' : R.row.Denot) (b o : ℕ) → Known R h' → {x : Operand} → (n : ℕ) → nth 𝓛 n Γ ≡ full E i (vptr b o)
        → ty R ≡ τ → Opd K 𝓛 Γ E x (R.val h')
        → Step K 𝓛 (‵ (cell full_share R h' b o) ∷ Γ) (runs C Λ E rest post)
        (‵ (cell full_share R h b o) ∷ Γ) (runs C Λ E (seq (assign (place i (deref τ ∷ [])) (rv_opd x)) rest) post)
    stores t R h h' b o g n at_n e read = step (λ s.
        assigns t (of_opd t (opd-under _ read)) (from t (hop t (look t (suc n) at_n) (stop t)))
        (store_raw t 0 (ap ‵ (cell-is full_share R h b o e)) (typed 𝓛 R h' g e)) $
        rewrite t 0 (λ F. ‵ F) (sym (cell-is full_share R h' b o e)) refl $ s)

module _ {M : Type 1} {𝓤 : Ura M} {𝓛 : Logic 𝓤} {K : Type 0} {Γ : List (Item 𝓤)} where
  open 𝓛 use {H}

  pub slice-twice : K → (R : RattleType) → RowLaws R → (κ : Lft) (p : Bor (List R.Denot)) {G : Goal 𝓤 H}
      → Step K 𝓛 (‵ (slice-owns R κ p) ∷ ‵ (slice-owns R κ p) ∷ Γ) G (‵ (slice-owns R κ p) ∷ Γ) G
  slice-twice t R laws κ p = step (λ s.
      use1 𝓛 (‵ (slice-owns R κ p) ⊛ ‵ (slice-owns R κ p)) ((shr_slice_copy 𝓛 erased κ R laws).twice p (shr_slice_vals p)) $ split t $ s)

  module _ {E : Env 𝓤 H} {C : Calls 𝓤 H} {Λ : Loops 𝓤 H} {post : Post 𝓤 H} {rest : Code} {i : ℕ} {τ : Ty} where
    pub takes-mut : K → (R : Whole) {κ : Lft} {q : Share} (p : MutBor R.row.Denot) {j : ℕ}
        → (n : ℕ) → nth 𝓛 n Γ ≡ full E i (vptr p.ref_ptr.0 p.ref_ptr.1) → (m : ℕ) → nth 𝓛 m Γ ≡ gap E j → ty R ≡ τ → ty R ≡ ty_at E j
        → (Known R p.now → Seq K 𝓛 (‵ (mut-owns R κ p) ∷ ‵ (flft κ q) ∷ put 𝓛 m (full E j (R.val p.now)) Γ) (runs C Λ E rest post))
        → Seq K 𝓛 (‵ (mut-owns R κ p) ∷ ‵ (flft κ q) ∷ Γ) (runs C Λ E (seq (assign (place j []) (rv_opd (copy (place i (deref τ ∷ []))))) rest) post)
    takes-mut t R p n at_n m at-m e e' k =
        fsplit3 t $ drop t $ opens-whole t tt R {h = p.now} p.ref_ptr.0 p.ref_ptr.1 (λ g.
        copies t R full_share p.now p.ref_ptr.0 p.ref_ptr.1 g (suc (suc (suc n))) at_n (suc (suc (suc m))) at-m e e' $
        closes-whole t tt R p.now p.ref_ptr.0 p.ref_ptr.1 g $ feq_i t (List Val) (mut_vals p) (mut_vals p) refl $ fjoin3 t $ k g)

    pub takes-shr : K → (R : Whole) {κ : Lft} {q : Share} (p : Bor R.row.Denot) {j : ℕ}
        → (n : ℕ) → nth 𝓛 n Γ ≡ full E i (vptr p.ref_ptr.0 p.ref_ptr.1) → (m : ℕ) → nth 𝓛 m Γ ≡ gap E j → ty R ≡ τ → ty R ≡ ty_at E j
        → (Known R p.now → Seq K 𝓛 (‵ (shr-owns R κ p) ∷ ‵ (flft κ q) ∷ put 𝓛 m (full E j (R.val p.now)) Γ) (runs C Λ E rest post))
        → Seq K 𝓛 (‵ (shr-owns R κ p) ∷ ‵ (flft κ q) ∷ Γ) (runs C Λ E (seq (assign (place j []) (rv_opd (copy (place i (deref τ ∷ []))))) rest) post)
    takes-shr t R p n at_n m at-m e e' k =
        fsplit t $ drop t $ looks-whole t tt R p.now p.ref_ptr.0 p.ref_ptr.1 (λ share g.
        copies t R share p.now p.ref_ptr.0 p.ref_ptr.1 g (suc (suc n)) at_n (suc (suc m)) at-m e e' $
        shuts-whole t tt R share p.now p.ref_ptr.0 p.ref_ptr.1 g $
        move t (1 ∷ 0 ∷ []) $ feq_i t (List Val) (shr_vals p) (shr_vals p) refl $ fjoin t $ k g)

    pub puts-mut : K → (R : Whole) {κ : Lft} {q : Share} (p : MutBor R.row.Denot) (h : R.row.Denot) → Known R h → {x : Operand}
        → (n : ℕ) → nth 𝓛 n Γ ≡ full E i (vptr p.ref_ptr.0 p.ref_ptr.1) → ty R ≡ τ → Opd K 𝓛 Γ E x (R.val h)
        → Step K 𝓛 (‵ (mut-owns R κ (at_last p h)) ∷ ‵ (flft κ q) ∷ Γ) (runs C Λ E rest post)
        (‵ (mut-owns R κ p) ∷ ‵ (flft κ q) ∷ Γ) (runs C Λ E (seq (assign (place i (deref τ ∷ [])) (rv_opd x)) rest) post)
    puts-mut t R p h g n at_n e read = step (λ s.
        fsplit3 t $ drop t $ opens-whole t tt R {h = p.now} p.ref_ptr.0 p.ref_ptr.1 (λ _.
        stores t R p.now h p.ref_ptr.0 p.ref_ptr.1 g (suc (suc (suc n))) at_n e (opd-under _ (opd-under _ (opd-under _ read))) $
        closes-whole t tt R h p.ref_ptr.0 p.ref_ptr.1 g $ feq_i t (List Val) (mut_vals p) (mut_vals p) refl $ fjoin3 t $ s))
