-- The numbers of a line by the marks of its form: two of no sign, or those of a curve.
-- Assumes nothing.
use mathlib.Core.Path.{◌≡◌, refl, sym, ap, ◌∙◌}
use mathlib.Core.Bool.{true, false, false≢true}
use mathlib.Core.List.{List, [], ◌∷◌, ◌++◌, map}
use Prim.Native.Nat.{ℕ, ◌<◌}
use lib.Dec.{leb}
use lib.IntN.{ℤ, pos, negsuc}
use lib.ListN.{get_or, replicate, get_or-append, get_or-map, get_or-replicate}
use Rattle.rules.specs.Forms.{sheet_forms, sample_form}
use Rattle.basics.proofs.Bools.{both}
use Rattle.formats.specs.Marks.{fits, suits, forms, form_at}
use Rattle.formats.proofs.Rows.{marks_of, suits-marks}

abbrev var_marks : List ℕ
var_marks = 35 ∷ 126 ∷ 35 ∷ 126 ∷ 35 ∷ 126 ∷ 35 ∷ 126 ∷ []

abbrev watt_marks : List ℕ
watt_marks = 35 ∷ 35 ∷ 35 ∷ 35 ∷ []

-- the var line, the watt line and the sample line
abbrev long_marks : List (List ℕ)
long_marks = var_marks ∷ watt_marks ∷ (35 ∷ 35 ∷ 35 ∷ 35 ∷ 35 ∷ 35 ∷ 35 ∷ []) ∷ []

marks-table : map marks_of forms ≡ replicate 11 (35 ∷ 35 ∷ []) ++ long_marks
unfolding forms sheet_forms sample_form
marks-table = refl

marks-at : (i : ℕ) → marks_of (form_at i) ≡ get_or (map marks_of forms) i []
marks-at i = sym (get_or-map marks_of forms i [])

-- the first eleven lines have two numbers
two-marks : (i : ℕ) → i < 11 → marks_of (form_at i) ≡ 35 ∷ 35 ∷ []
two-marks i h = marks-at i ∙ ap (λ (l : List (List ℕ)). get_or l i []) marks-table ∙ get_or-append (replicate 11 (35 ∷ 35 ∷ [])) long_marks [] i h
    ∙ get_or-replicate 11 i (35 ∷ 35 ∷ []) [] h

-- ---- numbers, one mark at a time

pub record Plain (marks : List ℕ) (ns : List ℤ) : Type 0 where
  pub number : ℕ
  pub rest : List ℤ
  pub is : ns ≡ pos number ∷ rest
  pub suit : suits marks rest ≡ true

pub record Signed (marks : List ℕ) (ns : List ℤ) : Type 0 where
  pub number : ℤ
  pub rest : List ℤ
  pub is : ns ≡ number ∷ rest
  pub suit : suits marks rest ≡ true

pub plain-first : (marks : List ℕ) (ns : List ℤ) → suits (35 ∷ marks) ns ≡ true → Plain marks ns
unfolding suits
plain-first marks [] e = absurd (false≢true e)
plain-first marks (pos n ∷ ns) e = record { number = n; rest = ns; is = refl; suit = (both (leb n 999999) (suits marks ns) e).1 }
plain-first marks (negsuc n ∷ ns) e = absurd (false≢true e)

pub signed-first : (marks : List ℕ) (ns : List ℤ) → suits (126 ∷ marks) ns ≡ true → Signed marks ns
unfolding suits
signed-first marks [] e = absurd (false≢true e)
signed-first marks (n ∷ ns) e = record { number = n; rest = ns; is = refl; suit = (both (fits 126 n) (suits marks ns) e).1 }

pub none_left : (ns : List ℤ) → suits [] ns ≡ true → ns ≡ []
unfolding suits
none_left [] e = refl
none_left (n ∷ ns) e = absurd (false≢true e)

-- ---- the lines

pub record Two (ns : List ℤ) : Type 0 where
  pub first : ℕ
  pub second : ℕ
  pub is : ns ≡ pos first ∷ pos second ∷ []

pub two-numbers : (i : ℕ) → i < 11 → (ns : List ℤ) → suits (form_at i) ns ≡ true → Two ns
two-numbers i h ns e =
    let s : suits (35 ∷ 35 ∷ []) ns ≡ true = ap (λ (m : List ℕ). suits m ns) (sym (two-marks i h)) ∙ sym (suits-marks (form_at i) ns) ∙ e in
    let a = plain-first (35 ∷ []) ns s in
    let b = plain-first [] a.rest a.suit in
    record {
      first = a.number;
      second = b.number;
      is = a.is ∙ ap (λ (l : List ℤ). pos a.number ∷ l) (b.is ∙ ap (λ (l : List ℤ). pos b.number ∷ l) (none_left b.rest b.suit));
    }

pub record Four (ns : List ℤ) : Type 0 where
  pub a : ℕ
  pub b : ℕ
  pub c : ℕ
  pub d : ℕ
  pub is : ns ≡ pos a ∷ pos b ∷ pos c ∷ pos d ∷ []

pub watt-numbers : (ns : List ℤ) → suits (form_at 12) ns ≡ true → Four ns
watt-numbers ns e =
    let s : suits watt_marks ns ≡ true
    = ap (λ (m : List ℕ). suits m ns) (sym (marks-at 12 ∙ ap (λ (l : List (List ℕ)). get_or l 12 []) marks-table)) ∙ sym (suits-marks (form_at 12) ns) ∙ e in
    let p = plain-first (35 ∷ 35 ∷ 35 ∷ []) ns s in
    let q = plain-first (35 ∷ 35 ∷ []) p.rest p.suit in
    let r = plain-first (35 ∷ []) q.rest q.suit in
    let t = plain-first [] r.rest r.suit in
    record {
      a = p.number;
      b = q.number;
      c = r.number;
      d = t.number;
      is = p.is ∙ ap (λ (l : List ℤ). pos p.number ∷ l)
          (q.is ∙ ap (λ (l : List ℤ). pos q.number ∷ l)
          (r.is ∙ ap (λ (l : List ℤ). pos r.number ∷ l) (t.is ∙ ap (λ (l : List ℤ). pos t.number ∷ l) (none_left t.rest t.suit))));
    }

-- a voltage and a power
pub record Pointed (marks : List ℕ) (ns : List ℤ) : Type 0 where
  pub volts : ℕ
  pub power : ℤ
  pub rest : List ℤ
  pub is : ns ≡ pos volts ∷ power ∷ rest
  pub suit : suits marks rest ≡ true

pointed : (marks : List ℕ) (ns : List ℤ) → suits (35 ∷ 126 ∷ marks) ns ≡ true → Pointed marks ns
pointed marks ns e =
    let p = plain-first (126 ∷ marks) ns e in
    let q = signed-first marks p.rest p.suit in
    record { volts = p.number; power = q.number; rest = q.rest; is = p.is ∙ ap (λ (l : List ℤ). pos p.number ∷ l) q.is; suit = q.suit }

pub record Eight (ns : List ℤ) : Type 0 where
  pub a : ℕ
  pub b : ℕ
  pub c : ℕ
  pub d : ℕ
  pub p : ℤ
  pub q : ℤ
  pub r : ℤ
  pub s : ℤ
  pub is : ns ≡ pos a ∷ p ∷ pos b ∷ q ∷ pos c ∷ r ∷ pos d ∷ s ∷ []

pub var-numbers : (ns : List ℤ) → suits (form_at 11) ns ≡ true → Eight ns
var-numbers ns e =
    let t : suits var_marks ns ≡ true
    = ap (λ (m : List ℕ). suits m ns) (sym (marks-at 11 ∙ ap (λ (l : List (List ℕ)). get_or l 11 []) marks-table)) ∙ sym (suits-marks (form_at 11) ns) ∙ e in
    let k = pointed (35 ∷ 126 ∷ 35 ∷ 126 ∷ 35 ∷ 126 ∷ []) ns t in
    let l = pointed (35 ∷ 126 ∷ 35 ∷ 126 ∷ []) k.rest k.suit in
    let m = pointed (35 ∷ 126 ∷ []) l.rest l.suit in
    let n = pointed [] m.rest m.suit in
    record {
      a = k.volts;
      b = l.volts;
      c = m.volts;
      d = n.volts;
      p = k.power;
      q = l.power;
      r = m.power;
      s = n.power;
      is =
          k.is
          ∙ ap (λ (y : List ℤ). pos k.volts ∷ k.power ∷ y) (l.is
          ∙ ap (λ (y : List ℤ). pos l.volts ∷ l.power ∷ y) (m.is
          ∙ ap (λ (y : List ℤ). pos m.volts ∷ m.power ∷ y) (n.is
          ∙ ap (λ (y : List ℤ). pos n.volts ∷ n.power ∷ y) (none_left n.rest n.suit))));
    }
