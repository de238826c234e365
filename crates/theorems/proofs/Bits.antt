-- Packing bits into a number loses none of them: the printed digits are the bits, and so are the number's binary places.
-- Assumes nothing.
use mathlib.Core.Path.{◌≡◌, refl, sym, ap, ap₂, ◌∙◌}
use mathlib.Core.Bool.{Bool, true, false, cond}
use mathlib.Core.List.{List, [], ◌∷◌, ◌++◌, map, append-nil, append_assoc}
use mathlib.Core.Logic.{◌↔◌}
use Prim.Native.Nat.{ℕ, zero, suc, ◌+◌, ◌-◌, ◌*◌, ◌/◌, ◌%◌, ◌^◌, ◌≤◌, min}
use native.Mathlib.Nat.{zero-add, pow-suc, div-one, div-div-eq-div-mul}
use native.Mathlib.Omega.{arith}
use lib.ListN.{length, get_or, length-map}
use Rattle.rules.specs.Samples.{Slice, Equipment}
use Rattle.rules.specs.Counters.{Rule, counted, full, rules}
use Rattle.rules.specs.Reports.{packed_after, report_of}
use Rattle.rules.specs.Records.{each, capped, read_as, settled, ruled, next, shown}
use Rattle.rules.specs.History.{History, complete, history_report}
use Rattle.rules.specs.Transcripts.{bit_digits}
use Rattle.rules.specs.declared.Settings.{Settings}
use Rattle.rules.specs.declared.Board.{Board}
use Rattle.rules.specs.declared.Report.{Report}
use Rattle.causes.specs.Calls.{Program}
use Rattle.claims.specs.Bits.{digit_of, bit_at, UnpacksBits}
use Rattle.claims.specs.TwoHistories.{TwoHistoriesBy}
use Rattle.theorems.proofs.Trace.{same-items}

-- ---- one bit more

half : (b : Bool) (m : ℕ) → (2 * m + cond b 1 0) / 2 ≡ m
half true m = omega arith
half false m = omega arith

lowest : (b : Bool) (m : ℕ) → (2 * m + cond b 1 0) % 2 ≡ cond b 1 0
lowest true m = omega arith
lowest false m = omega arith

digit-is : (b : Bool) → 48 + cond b 1 0 ≡ digit_of b
digit-is true = refl
digit-is false = refl

-- ---- the digits

-- those of the bits of m, then the bits that were put after them
digits-after : (bs : List Bool) (m k : ℕ) → bit_digits (length bs + k) (packed_after m bs) ≡ bit_digits k m ++ map digit_of bs
unfolding bit_digits
digits-after [] m k = rw (zero-add, append-nil)
digits-after (b ∷ bs) m k =
    let count : suc (length bs) + k ≡ length bs + suc k = omega arith in
    let last : 48 + (2 * m + cond b 1 0) % 2 ≡ digit_of b = ap (λ (d : ℕ). 48 + d) (lowest b m) ∙ digit-is b in
    rw count (digits-after bs (2 * m + cond b 1 0) (suc k)
    ∙ ap₂ (λ (n d : ℕ). bit_digits k n ++ (d ∷ []) ++ map digit_of bs) (half b m) last
    ∙ append_assoc (bit_digits k m) (digit_of b ∷ []) (map digit_of bs))

digits : (n : ℕ) (bs : List Bool) → length bs ≡ n → bit_digits n (packed_after 0 bs) ≡ map digit_of bs
unfolding bit_digits
digits n bs l =
    let long : n ≡ length bs + 0 = omega arith in
    rw long (digits-after bs 0 0)

-- ---- equal digits, equal bits

digit-inj : (b c : Bool) → digit_of b ≡ digit_of c → b ≡ c
digit-inj true true e = refl
digit-inj true false e = absurd (omega arith)
digit-inj false true e = absurd (omega arith)
digit-inj false false e = refl

digits-inj : (bs cs : List Bool) → map digit_of bs ≡ map digit_of cs → bs ≡ cs
digits-inj [] [] e = refl
digits-inj [] (c ∷ cs) e = let z : ◌≡◌ {A = ℕ} 0 1 = cc in absurd (omega arith)
digits-inj (b ∷ bs) [] e = let z : ◌≡◌ {A = ℕ} 0 1 = cc in absurd (omega arith)
digits-inj (b ∷ bs) (c ∷ cs) e =
    let head : digit_of b ≡ digit_of c = cc in
    let tail : map digit_of bs ≡ map digit_of cs = cc in
    ap₂ ◌∷◌ (digit-inj b c head) (digits-inj bs cs tail)

packed-inj : (bs cs : List Bool) → length bs ≡ length cs → packed_after 0 bs ≡ packed_after 0 cs → bs ≡ cs
packed-inj bs cs l e =
    digits-inj bs cs (sym (digits (length cs) bs l) ∙ ap (bit_digits (length cs)) e ∙ digits (length cs) cs refl)

-- ---- the places

-- behind the bits that were put after m stands m
shifted : (bs : List Bool) (m : ℕ) → packed_after m bs / 2 ^ length bs ≡ m
shifted [] m = div-one m
shifted (b ∷ bs) m =
    let n = packed_after (2 * m + cond b 1 0) bs in
    ap (λ (d : ℕ). n / d) (pow-suc 2 (length bs))
    ∙ sym (div-div-eq-div-mul n (2 ^ length bs) 2)
    ∙ ap (λ (k : ℕ). k / 2) (shifted bs (2 * m + cond b 1 0))
    ∙ half b m

place_is : (m n : ℕ) (bs : List Bool) → length bs ≡ suc n → (i : ℕ) → i ≤ n → bit_at (packed_after m bs) (n - i) ≡ cond (get_or bs i false) 1 0
place_is m n [] l i h = absurd (omega arith)
place_is m n (b ∷ bs) l zero h =
    let k = 2 * m + cond b 1 0 in
    let long : n - 0 ≡ length bs = omega arith in
    ap (bit_at (packed_after k bs)) long ∙ ap (λ (q : ℕ). q % 2) (shifted bs k) ∙ lowest b m
place_is m zero (b ∷ bs) l (suc i) h = absurd (omega arith)
place_is m (suc n) (b ∷ bs) l (suc i) h =
    let k = 2 * m + cond b 1 0 in
    let same : suc n - suc i ≡ n - i = omega arith in
    ap (bit_at (packed_after k bs)) same ∙ place_is k n bs (omega arith) i (omega arith)

-- ---- nine bits

each-length : {A : Type 0} (f : Rule → ℕ → A) (rs : List Rule) (ns : List ℕ) → length (each f rs ns) ≡ min (length rs) (length ns)
unfolding each
each-length f [] ns = omega arith
each-length f (r ∷ rs) [] = omega arith
each-length f (r ∷ rs) (n ∷ ns) = omega (arith, each-length f rs ns)

nine : (e : Equipment) (st : Settings) (h : History) → length (history_report e st h).bits ≡ 9
unfolding history_report
nine e st h = length-map (rules e st) (complete h)

nine-shown : (e : Equipment) (st : Settings) (x : Slice) (b : Board) → length b.counters ≡ 9 → length (shown e st (next e st x b)).bits ≡ 9
unfolding shown next ruled settled read_as
nine-shown e st x b l =
    let rs = rules e st in
    let read = each-length capped rs b.counters in
    let counts = each-length (counted x) rs (each capped rs b.counters) in
    omega (arith, l, read, counts, each-length full rs (each (counted x) rs (each capped rs b.counters)))

pub bits-unpacked : UnpacksBits
bits-unpacked = record { injective = packed-inj; digits = digits; places = place_is 0; nine = nine; nine-shown = nine-shown }

-- ---- reports with their bits packed

module _ (e : Equipment) (st : Settings) (h g : History) where
  pub reports-items : (report_of (history_report e st h) ≡ report_of (history_report e st g)) ↔ (history_report e st h ≡ history_report e st g)
  unfolding report_of
  reports-items = (
    λ same.
        same-items (ap (λ (r : Report). r.status) same)
        (packed-inj _ _ (nine e st h ∙ sym (nine e st g)) (ap (λ (r : Report). r.bits) same))
        (ap (λ (r : Report). r.share) same) (ap (λ (r : Report). r.recovery) same) (ap (λ (r : Report). r.side) same) (ap (λ (r : Report). r.held) same)
        (ap (λ (r : Report). r.watts) same) (ap (λ (r : Report). r.vars) same),
    ap report_of,
  )

-- demand 3 by items is demand 3 by reports
pub two-histories-reported : (saved : Board → List ℕ → List ℕ) (e : Equipment) (p : Program) (st : Settings)
    → TwoHistoriesBy saved (history_report e) p st → TwoHistoriesBy saved (λ s h. report_of (history_report e s h)) p st
two-histories-reported saved e p st d ps qs up uq a b ra rb =
    let f = d ps qs up uq a b ra rb in
    ((λ same run l ok. ap report_of (f.0 same run l ok)), (λ agree. f.1 (λ run l ok. (reports-items e st _ _).0 (agree run l ok))))
