-- Numbers of line i, stored into settings: they stand in its line, and the settings are those of one line more.
-- Assumes nothing.
use mathlib.Core.Path.{◌≡◌, refl, sym, ap, ◌∙◌, subst}
use mathlib.Core.Bool.{Bool, true, cond}
use mathlib.Core.List.{List, [], ◌∷◌, ◌++◌}
use Prim.Native.Nat.{ℕ, ◌<◌}
use native.Mathlib.Decide.{dec_lt}
use native.Mathlib.Omega.{arith}
use lib.IntN.{ℤ, pos}
use lib.ListN.{length, get_or, set}
use lib.Seq.{get_or-set_same}
use borrow.Author.Tests.{lt-ltb}
use Rattle.rules.specs.Settings.{sheet_lines, Pair, pair, no_limit, lines_of}
use Rattle.rules.specs.Sheets.{pairs, settings_of}
use Rattle.rules.specs.declared.Limit.{Limit}
use Rattle.rules.specs.declared.Settings.{Settings}
use Rattle.formats.specs.Marks.{suits, form_at}
use Rattle.pairs.specs.Pairs.{settings_line}
use Rattle.pairs.proofs.Sheet.{trip-at}
use Rattle.matching.specs.Places.{padded}
use Rattle.storing.specs.Stores.{limit_in, with_numbers}
use Rattle.sheet.proofs.Shapes.{two-numbers, watt-numbers, var-numbers}

-- ---- in its line

module _ (st : Settings) (eight : length st.trip ≡ 8) (x y : ℕ) where
  abbrev two : List ℤ
  two = pos x ∷ pos y ∷ []

  in-trip : (i : ℕ) → i < 8 → settings_line (with_numbers st i (padded two)) i ≡ pair (pos x) (pos y) ∷ []
  unfolding with_numbers
  in-trip i h =
      trip-at (with_numbers st i (padded two)) i h
      ∙ ap (λ (l : Limit). pair (pos l.level) (pos l.clearing) ∷ [])
      (ap (λ (b : Bool). get_or (cond b (set st.trip i (limit_in (padded two))) st.trip) i no_limit) (lt-ltb i 8 h)
      ∙ get_or-set_same st.trip i (limit_in (padded two)) no_limit (omega arith))

  in-volts : settings_line (with_numbers st 8 (padded two)) 8 ≡ pair (pos x) (pos y) ∷ []
  unfolding with_numbers lines_of
  in-volts = refl

  in-hertz : settings_line (with_numbers st 9 (padded two)) 9 ≡ pair (pos x) (pos y) ∷ []
  unfolding with_numbers lines_of
  in-hertz = refl

  in-wait : settings_line (with_numbers st 10 (padded two)) 10 ≡ pair (pos x) (pos y) ∷ []
  unfolding with_numbers lines_of
  in-wait = refl

  in_two : (i : ℕ) → i < 11 → settings_line (with_numbers st i (padded two)) i ≡ pair (pos x) (pos y) ∷ []
  in_two i h = by (dec_lt i 8) (dec_lt i 9) (dec_lt i 10)
    where
      at : (k : ℕ) → i ≡ k → settings_line (with_numbers st k (padded two)) k ≡ pair (pos x) (pos y) ∷ []
          → settings_line (with_numbers st i (padded two)) i ≡ pair (pos x) (pos y) ∷ []
      at k e l = subst (λ (j : ℕ). settings_line (with_numbers st j (padded two)) j ≡ pair (pos x) (pos y) ∷ []) (sym e) l

      by : Dec (i < 8) → Dec (i < 9) → Dec (i < 10) → settings_line (with_numbers st i (padded two)) i ≡ pair (pos x) (pos y) ∷ []
      by (yes a) b c = in-trip i a
      by (no a) (yes b) c = at 8 (omega arith) in-volts
      by (no a) (no b) (yes c) = at 9 (omega arith) in-hertz
      by (no a) (no b) (no c) = at 10 (omega arith) in-wait

in-var : (st : Settings) (a b c d : ℕ) (p q r s : ℤ)
    → settings_line (with_numbers st 11 (padded (pos a ∷ p ∷ pos b ∷ q ∷ pos c ∷ r ∷ pos d ∷ s ∷ []))) 11 ≡ pairs (pos a ∷ p ∷ pos b ∷ q ∷ pos c ∷ r ∷ pos d ∷ s ∷ [])
unfolding with_numbers lines_of
in-var st a b c d p q r s = refl

in-watt : (st : Settings) (a b c d : ℕ) → settings_line (with_numbers st 12 (padded (pos a ∷ pos b ∷ pos c ∷ pos d ∷ []))) 12 ≡ pairs (pos a ∷ pos b ∷ pos c ∷ pos d ∷ [])
unfolding with_numbers lines_of
in-watt st a b c d = refl

pub in-line : (st : Settings) → length st.trip ≡ 8 → (i : ℕ) → i < sheet_lines → (ns : List ℤ) → suits (form_at i) ns ≡ true
    → settings_line (with_numbers st i (padded ns)) i ≡ pairs ns
in-line st eight i h ns e = by (dec_lt i 11) (dec_lt i 12)
  where
    to : (k : ℕ) → i ≡ k → suits (form_at k) ns ≡ true
    to k p = subst (λ (j : ℕ). suits (form_at j) ns ≡ true) p e

    from : (k : ℕ) → i ≡ k → settings_line (with_numbers st k (padded ns)) k ≡ pairs ns → settings_line (with_numbers st i (padded ns)) i ≡ pairs ns
    from k p l = subst (λ (j : ℕ). settings_line (with_numbers st j (padded ns)) j ≡ pairs ns) (sym p) l

    by : Dec (i < 11) → Dec (i < 12) → settings_line (with_numbers st i (padded ns)) i ≡ pairs ns
    by (yes a) b =
        let t = two-numbers i a ns e in
        subst (λ (l : List ℤ). settings_line (with_numbers st i (padded l)) i ≡ pairs l) (sym t.is) (in_two st eight t.first t.second i a)
    by (no a) (yes b) =
        let v = var-numbers ns (to 11 (omega arith)) in
        from 11 (omega arith)
        (subst (λ (l : List ℤ). settings_line (with_numbers st 11 (padded l)) 11 ≡ pairs l) (sym v.is)
        (in-var st v.a v.b v.c v.d v.p v.q v.r v.s))
    by (no a) (no b) =
        let w = watt-numbers ns (to 12 (omega arith)) in
        from 12 (omega arith) (subst (λ (l : List ℤ). settings_line (with_numbers st 12 (padded l)) 12 ≡ pairs l) (sym w.is) (in-watt st w.a w.b w.c w.d))

-- ---- the settings of one line more: at each number of lines before it both sides compute

two-more : (read : List (List Pair)) (x y : ℕ) → length read < 11
    → with_numbers (settings_of read) (length read) (padded (pos x ∷ pos y ∷ [])) ≡ settings_of (read ++ ((pair (pos x) (pos y) ∷ []) ∷ []))
unfolding with_numbers settings_of
two-more [] x y h = refl
two-more (r0 ∷ []) x y h = refl
two-more (r0 ∷ r1 ∷ []) x y h = refl
two-more (r0 ∷ r1 ∷ r2 ∷ []) x y h = refl
two-more (r0 ∷ r1 ∷ r2 ∷ r3 ∷ []) x y h = refl
two-more (r0 ∷ r1 ∷ r2 ∷ r3 ∷ r4 ∷ []) x y h = refl
two-more (r0 ∷ r1 ∷ r2 ∷ r3 ∷ r4 ∷ r5 ∷ []) x y h = refl
two-more (r0 ∷ r1 ∷ r2 ∷ r3 ∷ r4 ∷ r5 ∷ r6 ∷ []) x y h = refl
two-more (r0 ∷ r1 ∷ r2 ∷ r3 ∷ r4 ∷ r5 ∷ r6 ∷ r7 ∷ []) x y h = refl
two-more (r0 ∷ r1 ∷ r2 ∷ r3 ∷ r4 ∷ r5 ∷ r6 ∷ r7 ∷ r8 ∷ []) x y h = refl
two-more (r0 ∷ r1 ∷ r2 ∷ r3 ∷ r4 ∷ r5 ∷ r6 ∷ r7 ∷ r8 ∷ r9 ∷ []) x y h = refl
two-more (r0 ∷ r1 ∷ r2 ∷ r3 ∷ r4 ∷ r5 ∷ r6 ∷ r7 ∷ r8 ∷ r9 ∷ r10 ∷ rs) x y h = absurd (omega arith)

-- a list of so many elements, taken apart
eleven : (P : List (List Pair) → Type 0)
    → ((r0 r1 r2 r3 r4 r5 r6 r7 r8 r9 r10 : List Pair) → P (r0 ∷ r1 ∷ r2 ∷ r3 ∷ r4 ∷ r5 ∷ r6 ∷ r7 ∷ r8 ∷ r9 ∷ r10 ∷ []))
    → (l : List (List Pair)) → length l ≡ 11 → P l
eleven P f [] e = absurd (omega arith)
eleven P f (r0 ∷ []) e = absurd (omega arith)
eleven P f (r0 ∷ r1 ∷ []) e = absurd (omega arith)
eleven P f (r0 ∷ r1 ∷ r2 ∷ []) e = absurd (omega arith)
eleven P f (r0 ∷ r1 ∷ r2 ∷ r3 ∷ []) e = absurd (omega arith)
eleven P f (r0 ∷ r1 ∷ r2 ∷ r3 ∷ r4 ∷ []) e = absurd (omega arith)
eleven P f (r0 ∷ r1 ∷ r2 ∷ r3 ∷ r4 ∷ r5 ∷ []) e = absurd (omega arith)
eleven P f (r0 ∷ r1 ∷ r2 ∷ r3 ∷ r4 ∷ r5 ∷ r6 ∷ []) e = absurd (omega arith)
eleven P f (r0 ∷ r1 ∷ r2 ∷ r3 ∷ r4 ∷ r5 ∷ r6 ∷ r7 ∷ []) e = absurd (omega arith)
eleven P f (r0 ∷ r1 ∷ r2 ∷ r3 ∷ r4 ∷ r5 ∷ r6 ∷ r7 ∷ r8 ∷ []) e = absurd (omega arith)
eleven P f (r0 ∷ r1 ∷ r2 ∷ r3 ∷ r4 ∷ r5 ∷ r6 ∷ r7 ∷ r8 ∷ r9 ∷ []) e = absurd (omega arith)
eleven P f (r0 ∷ r1 ∷ r2 ∷ r3 ∷ r4 ∷ r5 ∷ r6 ∷ r7 ∷ r8 ∷ r9 ∷ r10 ∷ []) e = f r0 r1 r2 r3 r4 r5 r6 r7 r8 r9 r10
eleven P f (r0 ∷ r1 ∷ r2 ∷ r3 ∷ r4 ∷ r5 ∷ r6 ∷ r7 ∷ r8 ∷ r9 ∷ r10 ∷ r11 ∷ rs) e = absurd (omega arith)

module _ (a b c d : ℕ) (p q r s : ℤ) where
  abbrev var : List ℤ
  var = pos a ∷ p ∷ pos b ∷ q ∷ pos c ∷ r ∷ pos d ∷ s ∷ []

  var-more : (read : List (List Pair)) → length read ≡ 11 → with_numbers (settings_of read) 11 (padded var) ≡ settings_of (read ++ (pairs var ∷ []))
  unfolding with_numbers settings_of
  var-more read e =
      eleven (λ (k : List (List Pair)). with_numbers (settings_of k) 11 (padded var) ≡ settings_of (k ++ (pairs var ∷ [])))
      (λ r0 r1 r2 r3 r4 r5 r6 r7 r8 r9 r10. refl) read e

-- twelve elements are one more than eleven
watt-more : (a b c d : ℕ) (read : List (List Pair)) → length read ≡ 12
    → with_numbers (settings_of read) 12 (padded (pos a ∷ pos b ∷ pos c ∷ pos d ∷ [])) ≡ settings_of (read ++ (pairs (pos a ∷ pos b ∷ pos c ∷ pos d ∷ []) ∷ []))
unfolding with_numbers settings_of
watt-more a b c d [] e = absurd (omega arith)
watt-more a b c d (first ∷ read) e =
    eleven (λ (k : List (List Pair)). with_numbers (settings_of (first ∷ k)) 12 (padded (pos a ∷ pos b ∷ pos c ∷ pos d ∷ []))
    ≡ settings_of ((first ∷ k) ++ (pairs (pos a ∷ pos b ∷ pos c ∷ pos d ∷ []) ∷ []))) (λ r0 r1 r2 r3 r4 r5 r6 r7 r8 r9 r10. refl) read (omega arith)

pub one_more : (read : List (List Pair)) (i : ℕ) → length read ≡ i → i < sheet_lines → (ns : List ℤ) → suits (form_at i) ns ≡ true
    → with_numbers (settings_of read) i (padded ns) ≡ settings_of (read ++ (pairs ns ∷ []))
one_more read i l h ns e = by (dec_lt i 11) (dec_lt i 12)
  where
    to : (k : ℕ) → i ≡ k → suits (form_at k) ns ≡ true
    to k p = subst (λ (j : ℕ). suits (form_at j) ns ≡ true) p e

    from : (k : ℕ) → i ≡ k → with_numbers (settings_of read) k (padded ns) ≡ settings_of (read ++ (pairs ns ∷ []))
        → with_numbers (settings_of read) i (padded ns) ≡ settings_of (read ++ (pairs ns ∷ []))
    from k p m = subst (λ (j : ℕ). with_numbers (settings_of read) j (padded ns) ≡ settings_of (read ++ (pairs ns ∷ []))) (sym p) m

    by : Dec (i < 11) → Dec (i < 12) → with_numbers (settings_of read) i (padded ns) ≡ settings_of (read ++ (pairs ns ∷ []))
    by (yes a) b =
        let t = two-numbers i a ns e in
        from (length read) (sym l)
        (subst (λ (k : List ℤ). with_numbers (settings_of read) (length read) (padded k) ≡ settings_of (read ++ (pairs k ∷ []))) (sym t.is)
        (two-more read t.first t.second (omega arith)))
    by (no a) (yes b) =
        let v = var-numbers ns (to 11 (omega arith)) in
        from 11 (omega arith)
        (subst (λ (k : List ℤ). with_numbers (settings_of read) 11 (padded k) ≡ settings_of (read ++ (pairs k ∷ []))) (sym v.is)
        (var-more v.a v.b v.c v.d v.p v.q v.r v.s read (omega arith)))
    by (no a) (no b) =
        let w = watt-numbers ns (to 12 (omega arith)) in
        from 12 (omega arith)
        (subst (λ (k : List ℤ). with_numbers (settings_of read) 12 (padded k) ≡ settings_of (read ++ (pairs k ∷ []))) (sym w.is)
        (watt-more w.a w.b w.c w.d read (omega arith)))

pub eight-limits : (read : List (List Pair)) → length (settings_of read).trip ≡ 8
unfolding settings_of
eight-limits read = refl
