-- Sensible states: lines and bytes are counted within the input's 10^12 bytes.
-- Assumes nothing.
use Rattle.std.specs.Prelude.{Ok, Err}
use mathlib.Core.Path.{◌≡◌, refl, sym, subst}
use mathlib.Core.Bool.{Bool, true, false, cond, not, ◌&&◌, ◌||◌, false≢true}
use mathlib.Core.List.{List}
use Prim.Native.Nat.{ℕ, ◌+◌, ◌-◌, ◌≤◌}
use native.Mathlib.Omega.{arith}
use lib.Dec.{leb, eqb}
use lib.ListN.{length}
use borrow.Author.Tests.{le-leb, leb-true, eqb-false}
use Rattle.rules.specs.Settings.{sheet_lines}
use Rattle.rules.specs.Samples.{Equipment}
use Rattle.rules.specs.Transcripts.{input_end}
use Rattle.rules.specs.declared.Settings.{Settings}
use Rattle.basics.proofs.Bools.{both}
use Rattle.formats.specs.Marks.{form_at}
use Rattle.sheet.specs.LineReads.{LineRead, on_line}
use Rattle.program.specs.States.{is_done, reads_sheet, stopped, sensible, read_state, Fit}
use Rattle.program.specs.Saying.{Said, line_numbers, on_read, said}
use Rattle.program.specs.declared.State.{State}
use Rattle.program.proofs.Saying.{said-sheet, said-sample}

pub fit-less : {q : State} {n : ℕ} (m : ℕ) → Fit q n → m ≤ n → Fit q m
fit-less m f h = record { from_one = f.from_one; low = f.low; high = omega (arith, f.high); sheet = f.sheet }

pub fit-stopped : {q : State} {n : ℕ} (m : ℕ) → Fit q n → m ≤ n → Fit (stopped q m) (n - m)
fit-stopped m f h =
    record { from_one = f.from_one; low = omega (arith, f.low); high = omega (arith, f.high); sheet = λ p. absurd (false≢true p) }

-- ---- one line more

fit-after-read : {q : State} {n : ℕ} (m : ℕ) (r : LineRead) → Fit q n → reads_sheet q ≡ true → 1 ≤ m → m ≤ n → Fit (on_read q m r).state (n - m)
fit-after-read m (Err away) f p a b = fit-stopped m f b
fit-after-read {q} m (Ok st) f p a b =
    record {
      from_one = omega arith;
      low = omega (arith, f.low);
      high = omega (arith, f.high);
      sheet = by (eqb q.line sheet_lines) refl;
    }
  where
    by : (k : Bool) → eqb q.line sheet_lines ≡ k → eqb (cond k 1 0) 0 ≡ true → q.line + 1 ≤ sheet_lines
    by true e r = absurd (false≢true r)
    by false e r =
        let other : q.line ≡ sheet_lines → ⊥ = eqb-false q.line sheet_lines e in
        let low = f.sheet p in omega arith

pub fit-said : (e : Equipment) {q : State} {n : ℕ} (l : List ℕ) → is_done q ≡ false → Fit q n → length l + 1 ≤ n → Fit (said e q l).state (n - (length l + 1))
fit-said e {q} {n} l p f h = by (reads_sheet q) refl
  where
    by : (b : Bool) → reads_sheet q ≡ b → Fit (said e q l).state (n - (length l + 1))
    by true r =
        let read = on_line (q.line - 1) q.settings (line_numbers q.overlong (form_at (q.line - 1)) l) in
        subst (λ (k : Said). Fit k.state (n - (length l + 1))) (sym (said-sheet e q l p r))
        (fit-after-read (length l + 1) read f r (omega arith) h)
    by false r =
        subst (λ (k : Said). Fit k.state (n - (length l + 1))) (sym (said-sample e q l p r))
        record { from_one = omega arith; low = omega (arith, f.low); high = omega (arith, f.high); sheet = λ k. absurd (false≢true k) }

-- ---- the test

pub sensible-fit : (q : State) → sensible q ≡ true → Fit q 0
unfolding sensible
sensible-fit q e =
    let a = both (leb 1 q.line) (leb q.taken input_end && (leb q.line (q.taken + 1) && (not (reads_sheet q) || leb q.line sheet_lines))) e in
    let b = both (leb q.taken input_end) (leb q.line (q.taken + 1) && (not (reads_sheet q) || leb q.line sheet_lines)) a.1 in
    let c = both (leb q.line (q.taken + 1)) (not (reads_sheet q) || leb q.line sheet_lines) b.1 in
    record {
      from_one = leb-true 1 q.line a.0;
      low = leb-true q.line (q.taken + 1) c.0;
      high = omega (arith, leb-true q.taken input_end b.0);
      sheet = λ p. leb-true q.line sheet_lines (by (reads_sheet q) p c.1);
    }
  where
    by : (k : Bool) → k ≡ true → (not k || leb q.line sheet_lines) ≡ true → leb q.line sheet_lines ≡ true
    by true p r = r
    by false p r = absurd (false≢true p)

pub fit-sensible : (q : State) (n : ℕ) → Fit q n → sensible q ≡ true
unfolding sensible
fit-sensible q n f =
    rw (le-leb 1 q.line f.from_one, le-leb q.line (q.taken + 1) f.low, le-leb q.taken input_end (omega (arith, f.high)))
    (by (reads_sheet q) f.sheet)
  where
    by : (k : Bool) → (k ≡ true → q.line ≤ sheet_lines) → (not k || leb q.line sheet_lines) ≡ true
    by true p = le-leb q.line sheet_lines (p refl)
    by false p = refl

pub fit-read : (q : State) (n : ℕ) → Fit q n → read_state q ≡ q
unfolding read_state
fit-read q n f = rw (fit-sensible q n f)
