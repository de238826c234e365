-- Places of a slice of plain data, for a walk by hand: element i is taken out of a `&mut [T]` or a `&[T]`, and put back; and names of the
-- logic that such walks cite, passed on.
--     opens_at, closes_at    a `&mut [T]` is opened, and element i taken out of it, and closed with another value at i
--     looks-at, shuts-at     a `&[T]` is looked into, and element i taken out of it, and shut
--     owns-slice             what a `&mut [T]` owns at its last list;  gap, full    a local in a context that is written out
-- Assumes nothing but `Logic`, which every walk is handed.
pub use mathlib.Core.Path.{sym, ap, subst}
pub use Prim.Native.Nat.{◌<◌, ◌≤◌, ◌^◌, ◌*◌}
pub use lib.ListN.{get_or, set, length-set}
pub use lib.Dec.{leb, leb→le, nleb→lt}
pub use base.Fraction.{full_share}
pub use mir.Syntax.{Ty, mut, imm, ty_int, ty_bool, ty_ref, ty_ptr, w8, w16, w32, w64}
pub use mir.Val.{vint}
pub use base.Logic.{snd∗, ex_e}
pub use base.Fml.{GName, fat, froom, fdies, fobs, fres, fbor, fshr_bor}
pub use contract.Monad.{fact}
pub use types.Kit.{later, keep, pick, rewrite, fsplit3, fjoin3, feq_i, await}
pub use types.Run.{look_raw, store, store_raw, forget, free1}
pub use types.SemTy.{Body}
pub use sound.WpLaws.{WpFn-mono}
pub use denote.RattleType.{owns}
pub use denote.Shadow.{pure_i}
pub use denote.Laws.{shows}
pub use denote.Memory.{mem, part_at, pointee}
pub use denote.Plain.{uint_Makes, uint_vals, uint_Tells}
pub use denote.Builtin.{u16, usize}
pub use denote.Ref.{MutRef, ShrRef}
pub use denote.Lend.{Held}
pub use denote.Index.{place_is}
pub use denote.Slice.{slice_ty, Room, shr_slice_at, mut_slice_at, heres, coded_holeys, shr_slice_copy}
pub use denote.Steps.{owned, peeks, facts, heard}
pub use denote.Triple.Call.{calls_at}
pub use denote.Triple.Walked.{stay_slice, stay_none, Goes-slice, Goes-none, walked, walk_Meets}
pub use denote.Triple.Clauses.{ensured}
use Rattle.walk.proofs.Whole.{Whole, Known}
use mathlib.Core.Path.{◌≡◌}
use Prim.Native.Nat.{ℕ}
use mathlib.Core.List.{List, [], ◌∷◌}
use lib.ListN.{length}
use seplogic.Ra.Ura.{Ura}
use mir.Syntax.{Lifetime}
use mir.Val.{Val}
use base.Fml.{Lft, Share, flft, fauth, fobor, fhide}
use types.Logic.{Logic}
use types.Kit.{Goal, Soaks, ◌$◌, Step, step, Item, ‵, Seq, move, fjoin, drop}
use denote.RattleType.{RattleType}
use denote.Laws.{Is}
use denote.Memory.{cell_at, shares}
use denote.Opens.{Shut}
use denote.Slice.{MutSlice, slice_val, elements_shared}
use denote.Index.{row, place, others, elem_out, elem_back, elem_put, opens_slice, closes_slice, looks_slice, shuts_slice}

abbrev pub gap : {M : Type 1} {𝓤 : Ura M} → Ty → ℕ → List (Item 𝓤) → List (Item 𝓤)
gap τ l Γ = ‵ (froom τ l 0) ∷ ‵ (fdies τ l) ∷ Γ

abbrev pub full : {M : Type 1} {𝓤 : Ura M} → Ty → ℕ → Val → List (Item 𝓤) → List (Item 𝓤)
full τ l v Γ = ‵ (fat full_share τ l 0 v) ∷ ‵ (fdies τ l) ∷ Γ

module _ {M : Type 1} {𝓤 : Ura M} {𝓛 : Logic 𝓤} {K : Type 0} {Γ : List (Item 𝓤)} {G : Goal 𝓤 𝓛.H} where
  pub opens_at : K → Soaks G → (R : Whole) {κ : Lft} {q : Share} (ys : List R.row.Denot) (i : ℕ) (d : R.row.Denot) {γ : GName} (b o : ℕ) → i < length ys
      → (Known R (get_or ys i d) → Seq K 𝓛 (‵ (cell_at full_share R.row.mir (R.val (get_or ys i d) ∷ []) b (place (mem R.row).size o i)) ∷ ‵ (others (shares R.row) full_share ys i b o)
      ∷ ‵ (fobor κ q (Held R.row (length ys) b o γ)) ∷ ‵ (fobs γ ((coded_holeys R.row).code (heres R.row ys))) ∷ ‵ (fauth γ ((coded_holeys R.row).code (heres R.row ys))) ∷ Γ) G)
      → Seq K 𝓛 (‵ (fobs γ ((coded_holeys R.row).code (heres R.row ys))) ∷ ‵ (fbor κ (Held R.row (length ys) b o γ)) ∷ ‵ (flft κ q) ∷ Γ) G
  opens_at t z R ys i d b o l k =
      opens_slice t z R.row ys b o $ elem_out t R.row (Is R.row) (shows 𝓛 R.row) (λ x. R.val x ∷ []) R.tells full_share ys i d b o l (λ g. move t (1 ∷ []) $ drop t $ k g)

  pub closes_at : K → Soaks G → (R : Whole) {κ : Lft} {q : Share} (ys : List R.row.Denot) (i : ℕ) (y : R.row.Denot) {γ : GName} (b o : ℕ) → i < length ys → Known R y
      → Step K 𝓛 (‵ (fobs γ ((coded_holeys R.row).code (heres R.row (set ys i y)))) ∷ ‵ (fbor κ (Held R.row (length (set ys i y)) b o γ)) ∷ ‵ (flft κ q) ∷ Γ) G
      (‵ (cell_at full_share R.row.mir (R.val y ∷ []) b (place (mem R.row).size o i)) ∷ ‵ (others (shares R.row) full_share ys i b o)
      ∷ ‵ (fobor κ q (Held R.row (length ys) b o γ)) ∷ ‵ (fobs γ ((coded_holeys R.row).code (heres R.row ys))) ∷ ‵ (fauth γ ((coded_holeys R.row).code (heres R.row ys))) ∷ Γ) G
  closes_at t z R ys i y b o l g = step (λ s. owned t R.row (Is R.row) (R.makes 𝓛) y _ g $ move t (1 ∷ 0 ∷ []) $ elem_put t R.row full_share ys i y (R.val y ∷ []) b o l $
      closes_slice t z R.row ys (set ys i y) (length-set ys i y) b o $ s)

  pub looks-at : K → Soaks G → (R : Whole) {κ : Lft} {q : Share} (ys : List R.row.Denot) (i : ℕ) (d : R.row.Denot) (b o : ℕ) → i < length ys
      → ((p : Share) → Known R (get_or ys i d) → Seq K 𝓛 (‵ (cell_at p R.row.mir (R.val (get_or ys i d) ∷ []) b (place (mem R.row).size o i)) ∷ ‵ (others (shares R.row) p ys i b o)
      ∷ Shut 𝓛 κ q (row R.row p ys b o) ∷ ‵ (fhide (elements_shared R.row ys b o κ)) ∷ Γ) G)
      → Seq K 𝓛 (‵ (fhide (elements_shared R.row ys b o κ)) ∷ ‵ (flft κ q) ∷ Γ) G
  looks-at t z R ys i d b o l k =
      looks_slice t z R.row (R.copied 𝓛) ys b o (λ p.
      elem_out t R.row (Is R.row) (shows 𝓛 R.row) (λ x. R.val x ∷ []) R.tells p ys i d b o l (λ g. move t (1 ∷ []) $ drop t $ k p g))

  pub shuts-at : K → Soaks G → (R : Whole) {κ : Lft} {q : Share} (p : Share) (ys : List R.row.Denot) (i : ℕ) (d : R.row.Denot) (b o : ℕ) → i < length ys → Known R (get_or ys i d)
      → Step K 𝓛 (‵ (flft κ q) ∷ Γ) G (‵ (cell_at p R.row.mir (R.val (get_or ys i d) ∷ []) b (place (mem R.row).size o i)) ∷ ‵ (others (shares R.row) p ys i b o)
      ∷ Shut 𝓛 κ q (row R.row p ys b o) ∷ Γ) G
  shuts-at t z R p ys i d b o l g = step (λ s. owned t R.row (Is R.row) (R.makes 𝓛) (get_or ys i d) _ g $ move t (1 ∷ 0 ∷ []) $ elem_back t R.row p ys i d (R.val (get_or ys i d) ∷ []) b o l $ shuts_slice t z R.row p ys b o $ s)

  pub owns-slice : K → (R : RattleType) (ℓ : Lifetime) (κ : Lft) {γ : GName} (b o : ℕ) (ys zs : List R.Denot) → length zs ≡ length ys → Room R (length ys)
      → Step K 𝓛 (‵ ((MutSlice ℓ κ R).own_val (record { ref_ptr = (b, o); ghost_name = γ; now = zs }) (slice_val (b, o) (length ys) ∷ [])) ∷ Γ) G (‵ (fobs γ ((coded_holeys R).code (heres R zs))) ∷ ‵ (fbor κ (Held R (length zs) b o γ)) ∷ Γ) G
  owns-slice t R ℓ κ {γ} b o ys zs e room = step (λ s. fjoin t $ pure_i t (mut_slice_at R (record { ref_ptr = (b, o); ghost_name = γ; now = zs }) (slice_val (b, o) (length ys) ∷ [])) (tt, (tt, tt))
      (ap (λ (m : ℕ). slice_val (b, o) m ∷ []) (sym e), subst (Room R) (sym e) room) $ fjoin t $ s)
