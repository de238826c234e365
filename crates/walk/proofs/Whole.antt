-- Plain data that is read whole and written whole, as one machine value: its laws, and the steps of a hand walk that open and close a
-- reference to it or call a function that gives it.
--     Whole, of_struct, of-enum, of-uint    a type of plain data with its laws
--     have                                  what plain data owns, where it is known
--     opens-whole, closes-whole             a `&mut T` is opened, which gives its cell, and closed at another value
--     looks-whole, shuts-whole              a `&T` is looked into, and shut
--     calls-whole, landed                   a call whose result is plain data, and the local that its result goes to; `calls-hearing`,
--                                           with `both_facts`, where the call ensures more than one fact
--     gone                                  a local with a value in it is freed
-- Assumes nothing but `Logic`, which every walk is handed.
use mathlib.Core.Path.{◌≡◌, refl, sym, ap, subst, ◌∙◌}
use Prim.Native.Nat.{ℕ}
use mathlib.Core.List.{List, [], ◌∷◌}
use seplogic.Ra.Ura.{Ura}
use base.Fraction.{full_share}
use lib.Dec.{T}
use mir.Syntax.{Ty, Width, Callee, Place, place, Opd as Operand, Body as Code, seq, call}
use mir.Raw.{raw as raw_ty}
use mir.Val.{Val, vint, has_ty, WT}
use base.Logic.{SProp, ent, sep, id⊢, fst∗, snd∗}
use base.Stored.{Gv}
use base.Fml.{Lft, GName, Share, Fml, flft, fobs, fauth, fbor, fobor, fat, froom, fdies}
use prog.Wp.{Env, Calls, Loops, spot_of}
use sound.WpLaws.{FmC}
use types.Logic.{Logic}
use contract.Monad.{fact, fact_i, fact_use}
use types.Kit.{Goal, Post, frees, runs, lands, Soaks, ◌$◌, Step, step, Item, mean, nth, put, ‵, raw, ◌⊛◌, some, later, Seq}
use types.Kit.{move, use1, split, pick, await}
use types.Run.{Opds, init, stop, from, land, forget, free1}
use types.SemTy.{Body}
use denote.RattleType.{RattleType}
use denote.Laws.{Is, Typed, Tells, Makes, Lawful, shows}
use denote.Copied.{Copied, uint_Copied}
use denote.Opens.{Shut}
use denote.Memory.{cell_at, part_at, hidden_shr, mem, lone}
use denote.Plain.{UInt, uint_Tells, uint_Makes, uint_Lawful}
use denote.Steps.{opens, closes, looks, shuts, owned, facts, heard, only}
use denote.Struct.Steps.{spelt}
use denote.Triple.Statement.{Contract, Triple}
use denote.Triple.Call.{calls_at}
use denote.Struct.Declared as SD
use denote.Struct.Struct.{Plains}
use denote.Struct.Laws as LL
use denote.Enum.Declared as ED
use denote.Enum.Enum.{Plainss, Few}
use denote.Enum.Laws as EL

-- a type of plain data in one machine value, with its laws
pub record Whole : Type 2 where
  pub row : RattleType
  pub one : row.mir ≡ lone row.mir ∷ []
  pub val : row.Denot → Val
  pub tells : Tells row (Is row) (λ x. val x ∷ [])
  pub makes : {M : Type 1} {𝓤 : Ura M} (𝓛 : Logic 𝓤) → Makes 𝓛 row (Is row)
  pub lawful : {M : Type 1} {𝓤 : Ura M} (𝓛 : Logic 𝓤) → Lawful 𝓛 row
  pub copied : {M : Type 1} {𝓤 : Ura M} (𝓛 : Logic 𝓤) → Copied 𝓛 row

abbrev pub of_struct : (T : SD.Declared) → LL.Laws T → Plains (SD.fields T) → LL.Copyables T.parts → Whole
of_struct T L P C = record {
  row = SD.row T;
  one = refl;
  val = LL.val T L;
  tells = LL.tells T L;
  makes = λ 𝓛. LL.makes T P 𝓛;
  lawful = λ 𝓛. LL.lawful T L 𝓛;
  copied = λ 𝓛. LL.copied T C 𝓛;
}

abbrev pub of-enum : (T : ED.Declared) → EL.Laws T → Plainss (ED.variants T) → EL.Copyabless T.parts → Few (ED.shape T) → Whole
of-enum T L P C few = record {
  row = ED.row T;
  one = refl;
  val = EL.val T L;
  tells = EL.tells T L;
  makes = λ 𝓛. EL.makes T P 𝓛;
  lawful = λ 𝓛. EL.lawful T L 𝓛 few;
  copied = λ 𝓛. EL.copied T C 𝓛;
}

abbrev pub of-uint : Width → Whole
of-uint w = record {
  row = UInt w;
  one = refl;
  val = vint w;
  tells = uint_Tells w;
  makes = λ 𝓛. uint_Makes 𝓛 w;
  lawful = λ 𝓛. uint_Lawful 𝓛 w;
  copied = λ 𝓛. uint_Copied 𝓛 w;
}

-- what is known of x where it is whole
abbrev pub Known : (R : Whole) → R.row.Denot → Type 0
Known R x = Is R.row x (R.val x ∷ [])

-- its type in the machine, and its cell
abbrev pub ty : Whole → Ty
ty R = lone R.row.mir

abbrev pub cell : Share → (R : Whole) → R.row.Denot → ℕ → ℕ → Fml
cell p R x b o = cell_at p R.row.mir (R.val x ∷ []) b o

pub cell-is : (p : Share) (R : Whole) (x : R.row.Denot) (b o : ℕ) {τ : Ty} → ty R ≡ τ → cell p R x b o ≡ fat p (raw_ty τ) b o (R.val x)
cell-is p R x b o e =
    ap (λ (τs : List Ty). cell_at p τs (R.val x ∷ []) b o) R.one ∙ ap (λ (σ : Ty). fat p (raw_ty σ) b o (R.val x)) e

-- a value that is known has its type
pub typed : {M : Type 1} {𝓤 : Ura M} → (𝓛 : Logic 𝓤) → (R : Whole) (x : R.row.Denot) → Known R x
    → {τ : Ty} → ty R ≡ τ → T (has_ty τ (R.val x)) × WT (R.val x)
typed {M} {𝓤} 𝓛 R x g e =
    subst (λ (σ : Ty). T (has_ty σ (R.val x)) × WT (R.val x)) e
    (subst (λ (τs : List Ty). Typed τs (R.val x ∷ [])) R.one ((R.lawful 𝓛).typed x _ g)).0

-- what a `&mut T` holds: the value as it is seen, and the borrow, shut or open
abbrev seen : (R : Whole) → GName → R.row.Denot → Fml
seen R γ h = fobs γ (R.row.coded.code h)

abbrev lent : (R : Whole) → Lft → ℕ → ℕ → GName → Fml
lent R κ b o γ = fbor κ (Body (mem R.row) b o γ)

abbrev opened : (R : Whole) → Lft → Share → ℕ → ℕ → GName → Fml
opened R κ q b o γ = fobor κ q (Body (mem R.row) b o γ)

-- what a `&T` holds; and the way back to its lifetime's token while a share p of it is out
abbrev shared : (R : Whole) → Lft → R.row.Denot → ℕ → ℕ → Fml
shared R κ h b o = hidden_shr R.row κ h b o

abbrev looked : {M : Type 1} {𝓤 : Ura M} (𝓛 : Logic 𝓤) (R : Whole) → Lft → Share → Share → R.row.Denot → ℕ → ℕ → Item 𝓤
looked 𝓛 R κ q p h b o = Shut 𝓛 κ q (part_at R.row p h b o)

pub both_facts : {M : Type 1} (𝓤 : Ura M) (φ ψ : Type 0) → ent 𝓤 (sep 𝓤 (fact 𝓤 φ) (fact 𝓤 ψ)) (fact 𝓤 (φ × ψ))
both_facts 𝓤 φ ψ =
    fact_use 𝓤 φ (fst∗ 𝓤 (fact 𝓤 φ) (fact 𝓤 ψ)) (λ a. fact_use 𝓤 ψ (snd∗ 𝓤 (fact 𝓤 φ) (fact 𝓤 ψ)) (λ b. fact_i 𝓤 (φ × ψ) _ (a, b)))

-- what a call gives back: Tok is the token that goes in and comes back, L what is said of the last values ws of its `&mut`s (`lasts`),
-- Said what it ensures of its result r and of ws
abbrev Back : {M : Type 1} {𝓤 : Ura M} (Tok : Item 𝓤) (R : Whole) {Ws : Type 0} (L : Ws → Fml) (Said : R.row.Denot → Ws → SProp 𝓤) → Val → Item 𝓤
Back Tok R {Ws} L Said v = later (some (λ (r : R.row.Denot). (Tok ⊛ ‵ (R.row.own_val r (v ∷ []))) ⊛ some (λ (ws : Ws). ‵ (L ws) ⊛ raw (Said r ws))))

module _ {M : Type 1} {𝓤 : Ura M} {𝓛 : Logic 𝓤} {K : Type 0} {Γ : List (Item 𝓤)} where
  open 𝓛 use {H}

  module _ {G : Goal 𝓤 H} where
    -- what plain data owns, where it is known
    pub have : K → (R : Whole) (x : R.row.Denot) → Known R x → Step K 𝓛 (‵ (R.row.own_val x (R.val x ∷ [])) ∷ Γ) G Γ G
    have t R x g = owned t R.row (Is R.row) (R.makes 𝓛) x _ g

    -- a `&mut T` is opened, which gives the cell with the value, and closed at another value

    pub opens-whole : K → Soaks G → (R : Whole) {κ : Lft} {q : Share} {h : R.row.Denot} {γ : GName} (b o : ℕ)
        → (Known R h → Seq K 𝓛 (‵ (cell full_share R h b o) ∷ ‵ (opened R κ q b o γ) ∷ ‵ (seen R γ h)
        ∷ ‵ (fauth γ (R.row.coded.code h)) ∷ Γ) G)
        → Seq K 𝓛 (‵ (seen R γ h) ∷ ‵ (lent R κ b o γ) ∷ ‵ (flft κ q) ∷ Γ) G
    opens-whole t z R {h = h} b o k =
        opens t z R.row {h = h} b o (λ vs.
        spelt t R.row (Is R.row) (shows 𝓛 R.row) (λ x. R.val x ∷ []) R.tells full_share h vs b o $
        move t (1 ∷ []) $ facts t R.row (Is R.row) (shows 𝓛 R.row) h (R.val h ∷ []) k)

    pub closes-whole : K → Soaks G → (R : Whole) {κ : Lft} {q : Share} {u v : Gv} (h : R.row.Denot) {γ : GName} (b o : ℕ) → Known R h
        → Step K 𝓛 (‵ (seen R γ h) ∷ ‵ (lent R κ b o γ) ∷ ‵ (flft κ q) ∷ Γ) G
        (‵ (cell full_share R h b o) ∷ ‵ (opened R κ q b o γ) ∷ ‵ (fobs γ u) ∷ ‵ (fauth γ v) ∷ Γ) G
    closes-whole t z R h b o g = step (λ s.
        owned t R.row (Is R.row) (R.makes 𝓛) h _ g $ move t (1 ∷ 0 ∷ []) $ closes t z R.row h (R.val h ∷ []) b o $ s)

    -- a `&T` is looked into, and shut

    pub looks-whole : K → Soaks G → (R : Whole) {κ : Lft} {q : Share} (h : R.row.Denot) (b o : ℕ)
        → ((p : Share) → Known R h → Seq K 𝓛 (‵ (cell p R h b o) ∷ looked 𝓛 R κ q p h b o ∷ ‵ (shared R κ h b o) ∷ Γ) G)
        → Seq K 𝓛 (‵ (shared R κ h b o) ∷ ‵ (flft κ q) ∷ Γ) G
    looks-whole t z R h b o k =
        looks t z R.row (R.copied 𝓛).opens h b o (λ p vs.
        spelt t R.row (Is R.row) (shows 𝓛 R.row) (λ x. R.val x ∷ []) R.tells p h vs b o $
        move t (1 ∷ []) $ facts t R.row (Is R.row) (shows 𝓛 R.row) h (R.val h ∷ []) (k p))

    pub shuts-whole : K → Soaks G → (R : Whole) {κ : Lft} {q : Share} (p : Share) (h : R.row.Denot) (b o : ℕ) → Known R h
        → Step K 𝓛 (‵ (flft κ q) ∷ Γ) G (‵ (cell p R h b o) ∷ looked 𝓛 R κ q p h b o ∷ Γ) G
    shuts-whole t z R p h b o g = step (λ s.
        owned t R.row (Is R.row) (R.makes 𝓛) h _ g $ move t (1 ∷ 0 ∷ []) $ shuts t z R.row p h (R.val h ∷ []) b o $ s)

  -- a call; Says is the fact that is heard of what it ensures
  pub calls-hearing : K → {E : Env 𝓤 H} {C : Calls 𝓤 H} {Λ : Loops 𝓤 H} {q : Post 𝓤 H} {d : Place} {f : Callee} {xs : List Operand} {rest : Code}
      → FmC 𝓤 H 𝓛.laws C → (c : Contract 𝓤) → Triple 𝓤 (C f) c → (x : c.Ghost) → Opds K 𝓛 (raw (c.pre x) ∷ Γ) E xs (c.args x)
      → (Tok : Item 𝓤) (R : Whole) {Ws : Type 0} (L : Ws → Fml) (Said : R.row.Denot → Ws → SProp 𝓤) (Says : R.row.Denot → Ws → Type 0)
      → ((r : R.row.Denot) (ws : Ws) → ent 𝓤 (Said r ws) (fact 𝓤 (Says r ws))) → ((v : Val) → ent 𝓤 (c.post x v) (mean 𝓛 (Back Tok R L Said v)))
      → ((r : R.row.Denot) (ws : Ws) → Says r ws → Known R r → Seq K 𝓛 (‵ (L ws) ∷ Tok ∷ Γ) (lands C Λ E d (R.val r) rest q))
      → Seq K 𝓛 (raw (c.pre x) ∷ Γ) (runs C Λ E (seq (call f xs d) rest) q)
  calls-hearing t {E} {C} {Λ} {q} {d} {f} {xs} {rest} fm c met x os Tok R {Ws} L Said Says hears p k =
      calls_at t fm c met x os (λ v. use1 𝓛 (Back Tok R L Said v) (p v) $ await t tt $
      pick t (λ r. split t $ move t (1 ∷ []) $ pick t (λ ws. split t $ move t (1 ∷ []) $
      use1 𝓛 (raw (fact 𝓤 (Says r ws))) (hears r ws) $ heard t (Says r ws) (λ e.
      move t (1 ∷ []) $ split t $ move t (1 ∷ []) $ facts t R.row (Is R.row) (shows 𝓛 R.row) r (v ∷ []) (λ g.
      move t (1 ∷ 0 ∷ []) $ spelt-out r ws v e g)))))
    where
      spelt-out : (r : R.row.Denot) (ws : Ws) (v : Val) → Says r ws → Is R.row r (v ∷ []) → Seq K 𝓛 (‵ (L ws) ∷ Tok ∷ Γ) (lands C Λ E d v rest q)
      spelt-out r ws v e g =
          subst (λ (u : Val). Seq K 𝓛 (‵ (L ws) ∷ Tok ∷ Γ) (lands C Λ E d u rest q)) (sym (ap only (R.tells r (v ∷ []) g)))
          (k r ws e (subst (Is R.row r) (R.tells r (v ∷ []) g) g))

  -- the same where it ensures just one fact
  pub calls-whole : K → {E : Env 𝓤 H} {C : Calls 𝓤 H} {Λ : Loops 𝓤 H} {q : Post 𝓤 H} {d : Place} {f : Callee} {xs : List Operand} {rest : Code}
      → FmC 𝓤 H 𝓛.laws C → (c : Contract 𝓤) → Triple 𝓤 (C f) c → (x : c.Ghost) → Opds K 𝓛 (raw (c.pre x) ∷ Γ) E xs (c.args x)
      → (Tok : Item 𝓤) (R : Whole) {Ws : Type 0} (L : Ws → Fml) (Says : R.row.Denot → Ws → Type 0)
      → ((v : Val) → ent 𝓤 (c.post x v) (mean 𝓛 (Back Tok R L (λ r ws. fact 𝓤 (Says r ws)) v)))
      → ((r : R.row.Denot) (ws : Ws) → Says r ws → Known R r → Seq K 𝓛 (‵ (L ws) ∷ Tok ∷ Γ) (lands C Λ E d (R.val r) rest q))
      → Seq K 𝓛 (raw (c.pre x) ∷ Γ) (runs C Λ E (seq (call f xs d) rest) q)
  calls-whole t fm c met x os Tok R L Says p k =
      calls-hearing t fm c met x os Tok R L (λ r ws. fact 𝓤 (Says r ws)) Says (λ r ws. id⊢ 𝓤 (fact 𝓤 (Says r ws))) p k

  -- its result goes to the local j, which stands at m
  pub landed : K → (R : Whole) (x : R.row.Denot) → Known R x → {E : Env 𝓤 H} {C : Calls 𝓤 H} {Λ : Loops 𝓤 H} {q : Post 𝓤 H} {j : ℕ} {rest : Code} (m : ℕ)
      → nth 𝓛 m Γ ≡ ‵ (froom (spot_of 𝓤 H E j).0 (spot_of 𝓤 H E j).1 0) → ty R ≡ (spot_of 𝓤 H E j).0
      → Step K 𝓛 (put 𝓛 m (‵ (fat full_share (spot_of 𝓤 H E j).0 (spot_of 𝓤 H E j).1 0 (R.val x))) Γ) (runs C Λ E rest q)
      Γ (lands C Λ E (place j []) (R.val x) rest q)
  landed t R x g m at-m e = land t (from t (stop t)) (init t m at-m (typed 𝓛 R x g e))

  -- the first local, with a value in it, is freed
  pub gone : K → {τ : Ty} {b : ℕ} {v : Val} {E : Env 𝓤 H} {g : Goal 𝓤 H}
      → Step K 𝓛 Γ (frees E g) (‵ (fat full_share τ b 0 v) ∷ ‵ (fdies τ b) ∷ Γ) (frees ((τ, b) ∷ E) g)
  gone t = step (λ s. forget t 0 refl $ free1 t $ s)
