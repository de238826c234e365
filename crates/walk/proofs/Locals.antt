-- Where a hand walk finds a function's locals. It keeps its context in one order: first what the parameters own and their lifetimes'
-- tokens, g items in all; then the locals, two items each, what lies in it and the right to free it. So local i stands at g + 2 · i.
--     env_of           the environment of locals at given blocks
--     full, gap       local i with a value in it, and with none
--     cells           all locals, each with its value where it has one
--     laid, up_to      for `move`: into that order, from the one in which locals are made; and n places from a on
-- Assumes nothing.
use Prim.Native.Nat.{ℕ, zero, suc, ◌*◌}
use mathlib.Core.Option.{Option, some, none}
use mathlib.Core.List.{List, [], ◌∷◌}
use lib.ListN.{get_or}
use seplogic.Ra.Ura.{Ura}
use base.Fraction.{full_share}
use mir.Syntax.{Ty, ty_enum, ttnil, Local, local}
use mir.Val.{Val}
use base.Fml.{fat, froom, fdies}
use types.Kit.{Item, ‵}

abbrev pub env_of : List Local → List ℕ → List (Ty × ℕ)
env_of [] bs = []
env_of (l ∷ ls) [] = []
env_of (local τ h ∷ ls) (b ∷ bs) = (τ, b) ∷ env_of ls bs

abbrev pub ty_at : List (Ty × ℕ) → ℕ → Ty
ty_at E i = (get_or E i (ty_enum [] ttnil, zero)).0

abbrev pub block_at : List (Ty × ℕ) → ℕ → ℕ
block_at E i = (get_or E i (ty_enum [] ttnil, zero)).1

abbrev pub full : {M : Type 1} {𝓤 : Ura M} → List (Ty × ℕ) → ℕ → Val → Item 𝓤
full E i v = ‵ (fat full_share (ty_at E i) (block_at E i) 0 v)

abbrev pub gap : {M : Type 1} {𝓤 : Ura M} → List (Ty × ℕ) → ℕ → Item 𝓤
gap E i = ‵ (froom (ty_at E i) (block_at E i) 0)

abbrev pub cells : {M : Type 1} {𝓤 : Ura M} → List (Ty × ℕ) → List (Option Val) → List (Item 𝓤)
cells [] vs = []
cells (e ∷ E) [] = []
cells (e ∷ E) (some v ∷ vs) = ‵ (fat full_share e.0 e.1 0 v) ∷ ‵ (fdies e.0 e.1) ∷ cells E vs
cells (e ∷ E) (none ∷ vs) = ‵ (froom e.0 e.1 0) ∷ ‵ (fdies e.0 e.1) ∷ cells E vs

abbrev down_from : ℕ → List ℕ
down_from zero = []
down_from (suc n) = 2 * n ∷ suc (2 * n) ∷ down_from n

abbrev up_to-then : ℕ → ℕ → List ℕ → List ℕ
up_to-then a zero ns = ns
up_to-then a (suc n) ns = a ∷ up_to-then (suc a) n ns

abbrev pub up_to : ℕ → ℕ → List ℕ
up_to a n = up_to-then a n []

-- of g items and n locals
abbrev pub laid : ℕ → ℕ → List ℕ
laid g n = up_to-then (2 * n) g (down_from n)
