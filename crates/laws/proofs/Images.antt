-- The image (spec 9): it has 49 bytes, and two records whose fields fit are told apart by it.
-- Assumes nothing.
use mathlib.Core.Path.{◌≡◌, refl, sym, ap, ap₂, ◌∙◌}
use mathlib.Core.List.{List, [], ◌∷◌, ◌++◌, append_assoc, head-eq_of_cons-eq, tail-eq_of_cons-eq, map}
use Prim.Native.Nat.{ℕ, zero, suc, ◌+◌, ◌*◌, ◌/◌, ◌%◌, ◌^◌, ◌<◌}
use native.Mathlib.Nat.{suc_inj, pow-suc}
use native.Mathlib.Omega.{arith}
use lib.IntN.{ℤ, pos, negsuc}
use lib.ListN.{length, length-append}
use mir.Syntax.{w16}
use mir.Val.{SFits}
use Rattle.rules.specs.Images.{number_bytes, Field, field, field_bytes, twos_complement, image_fields, image, image_length}
use Rattle.rules.specs.declared.Board.{Board}

-- ---- what fits

-- every field's number fits its width
abbrev pub AllFit : List Field → Type 0
AllFit [] = Unit {0}
AllFit (f ∷ fs) = (f.value < 256 ^ f.width) × AllFit fs

pub each-fit : (width : ℕ) (ns : List ℕ) → AllFit (map (field width) ns) → (fs : List Field) → AllFit fs → AllFit (map (field width) ns ++ fs)
each-fit width [] a fs b = b
each-fit width (n ∷ ns) a fs b = (a.0, each-fit width ns a.1 fs b)

-- a record of nine counters and vars of 16 bits, whose fields fit
pub record FieldsFit (b : Board) : Type 0 where
  pub nine : length b.counters ≡ 9
  pub signed : SFits w16 b.vars
  pub rows : AllFit (image_fields b)

-- ---- the length

pub number-length : (k n : ℕ) → length (number_bytes k n) ≡ k
unfolding number_bytes
number-length zero n = refl
number-length (suc k) n = rw length-append (omega (arith, number-length k (n / 256)))

-- the bytes of fields
abbrev pub widths : List Field → ℕ
widths [] = 0
widths (f ∷ fs) = f.width + widths fs

pub length_fields : (fs : List Field) → length (field_bytes fs) ≡ widths fs
unfolding field_bytes
length_fields [] = refl
length_fields (f ∷ fs) = rw (length-append, number-length, length_fields fs)

-- fields after fields
pub fields-then : (fs gs : List Field) → field_bytes (fs ++ gs) ≡ field_bytes fs ++ field_bytes gs
unfolding field_bytes
fields-then [] gs = refl
fields-then (f ∷ fs) gs = rw (append_assoc, fields-then fs gs)

each-widths : (width : ℕ) (ns : List ℕ) (fs : List Field) → widths (map (field width) ns ++ fs) ≡ length ns * width + widths fs
each-widths width [] fs = omega arith
each-widths width (n ∷ ns) fs = omega (arith, each-widths width ns fs)

-- the widths of a record's fields make up the image's length
image-widths : (b : Board) → length b.counters ≡ 9 → widths (image_fields b) ≡ image_length
unfolding image_fields
image-widths b nine = rw (each-widths, nine)

pub image-length : (b : Board) → length b.counters ≡ 9 → length (image b) ≡ image_length
unfolding image
image-length b nine = length_fields (image_fields b) ∙ image-widths b nine

-- ---- fields by their bytes

number-inj : (k n m : ℕ) (xs ys : List ℕ) → n < 256 ^ k → m < 256 ^ k → number_bytes k n ++ xs ≡ number_bytes k m ++ ys → (n ≡ m) × (xs ≡ ys)
unfolding number_bytes
number-inj zero n m xs ys hn hm e = (omega arith, e)
number-inj (suc k) n m xs ys hn hm e =
    let high = number_bytes k (n / 256) in
    let bytes = sym (append_assoc high ((n % 256) ∷ []) xs) ∙ e ∙ append_assoc (number_bytes k (m / 256)) ((m % 256) ∷ []) ys in
    let t = number-inj k (n / 256) (m / 256) (n % 256 ∷ xs) (m % 256 ∷ ys) (omega (arith, pow-suc 256 k)) (omega (arith, pow-suc 256 k)) bytes in
    let last : n % 256 ≡ m % 256 = cc t.1 in
    (omega (arith, t.0), cc t.1)

-- numbers that fit so many bytes are told apart by them
pub number-told : (k n m : ℕ) → n < 256 ^ k → m < 256 ^ k → number_bytes k n ≡ number_bytes k m → n ≡ m
number-told k n m hn hm e = (number-inj k n m [] [] hn hm (ap (λ (l : List ℕ). l ++ []) e)).0

abbrev width_of : Field → ℕ
width_of f = f.width

abbrev value_of : Field → ℕ
value_of f = f.value

-- fields of the same widths whose numbers fit are told apart by their bytes
pub fields-inj : (fs gs : List Field) → map width_of fs ≡ map width_of gs → AllFit fs → AllFit gs → field_bytes fs ≡ field_bytes gs
    → map value_of fs ≡ map value_of gs
unfolding field_bytes
fields-inj [] [] w a b e = refl
fields-inj [] (g ∷ gs) w a b e = let z : ◌≡◌ {A = ℕ} 0 1 = cc in absurd (omega arith)
fields-inj (f ∷ fs) [] w a b e = let z : ◌≡◌ {A = ℕ} 0 1 = cc in absurd (omega arith)
fields-inj (f ∷ fs) (g ∷ gs) w a b e =
    let wide : f.width ≡ g.width = cc in
    let t = number-inj f.width f.value g.value (field_bytes fs) (field_bytes gs) a.0 (rw wide b.0) (e ∙ rw wide) in
    ap₂ ◌∷◌ t.0 (fields-inj fs gs (cc) a.1 b.1 t.1)

-- numbers of one width among the fields: as many on both sides have the same widths, and the same numbers where the fields have
each_same : (width : ℕ) (ns ms : List ℕ) (fs gs : List Field) → length ns ≡ length ms → map width_of fs ≡ map width_of gs
    → map width_of (map (field width) ns ++ fs) ≡ map width_of (map (field width) ms ++ gs)
each_same width [] [] fs gs l e = e
each_same width [] (m ∷ ms) fs gs l e = absurd (omega arith)
each_same width (n ∷ ns) [] fs gs l e = absurd (omega arith)
each_same width (n ∷ ns) (m ∷ ms) fs gs l e = ap (λ (ws : List ℕ). width ∷ ws) (each_same width ns ms fs gs (suc_inj l) e)

each-inj : (width : ℕ) (ns ms : List ℕ) (fs gs : List Field) → length ns ≡ length ms
    → map value_of (map (field width) ns ++ fs) ≡ map value_of (map (field width) ms ++ gs) → (ns ≡ ms) × (map value_of fs ≡ map value_of gs)
each-inj width [] [] fs gs l e = (refl, e)
each-inj width [] (m ∷ ms) fs gs l e = absurd (omega arith)
each-inj width (n ∷ ns) [] fs gs l e = absurd (omega arith)
each-inj width (n ∷ ns) (m ∷ ms) fs gs l e =
    let first : n ≡ m = cc in
    let t = each-inj width ns ms fs gs (suc_inj l) (cc) in
    (ap₂ ◌∷◌ first t.0, t.1)

-- ---- two's complement

pub complement-below : (v : ℤ) → SFits w16 v → twos_complement v < 65536
complement-below (pos n) f = omega (arith, f.sfits)
complement-below (negsuc n) f = omega (arith, f.sfits)

complement-inj : (v w : ℤ) → SFits w16 v → SFits w16 w → twos_complement v ≡ twos_complement w → v ≡ w
complement-inj (pos n) (pos m) f g e = ap pos e
complement-inj (pos n) (negsuc m) f g e = absurd (omega (arith, f.sfits, g.sfits))
complement-inj (negsuc n) (pos m) f g e = absurd (omega (arith, f.sfits, g.sfits))
complement-inj (negsuc n) (negsuc m) f g e = ap negsuc (omega (arith, f.sfits, g.sfits))

-- ---- records by their images

-- a record is its fields
pub same-fields : {b c : Board} → b.status ≡ c.status → b.counters ≡ c.counters → b.ramp ≡ c.ramp → b.watts ≡ c.watts → b.vars ≡ c.vars
    → b.recovery ≡ c.recovery → b.side ≡ c.side → b.held ≡ c.held → b ≡ c
same-fields e₁ e₂ e₃ e₄ e₅ e₆ e₇ e₈ = made e₁ e₂ e₃ e₄ e₅ e₆ e₇ e₈
  where
    made : {s s' : ℕ} {l l' : List ℕ} {r r' w w' n n' d d' p p' : ℕ} {v v' : ℤ} → s ≡ s' → l ≡ l' → r ≡ r' → w ≡ w' → v ≡ v' → n ≡ n' → d ≡ d' → p ≡ p'
        → ◌≡◌ {A = Board} (record { status = s; counters = l; ramp = r; watts = w; vars = v; recovery = n; side = d; held = p })
        (record { status = s'; counters = l'; ramp = r'; watts = w'; vars = v'; recovery = n'; side = d'; held = p' })
    made e₁ e₂ e₃ e₄ e₅ e₆ e₇ e₈ = rw (e₁, e₂, e₃, e₄, e₅, e₆, e₇, e₈)

-- two images are equal only if the records are
pub image_inj : (b c : Board) → FieldsFit b → FieldsFit c → image b ≡ image c → b ≡ c
unfolding image image_fields
image_inj b c f g e =
    let nine = f.nine ∙ sym g.nine in
    let widths = ap (λ (ws : List ℕ). 1 ∷ ws) (each_same 4 b.counters c.counters _ _ nine refl) in
    let same = fields-inj (image_fields b) (image_fields c) widths f.rows g.rows e in
    let counters = each-inj 4 b.counters c.counters _ _ nine (tail-eq_of_cons-eq same) in
    let rest = counters.1 in
    let vars : twos_complement b.vars ≡ twos_complement c.vars = cc in
    same-fields (head-eq_of_cons-eq same) counters.0 (cc) (cc) (complement-inj _ _ f.signed g.signed vars) (cc) (cc) (cc)
