-- Frequency droop (spec 13.14): sides, what is held, the powers in an event and after it, and that a higher frequency gives no more.
-- Assumes nothing.
use mathlib.Core.Path.{◌≡◌, refl, sym, ap, ◌∙◌}
use mathlib.Core.Bool.{Bool, true, false, cond}
use mathlib.Core.List.{List, [], ◌∷◌}
use Prim.Native.Nat.{ℕ, ◌+◌, ◌-◌, ◌*◌, ◌≤◌, ◌<◌, min}
use native.Mathlib.Omega.{arith}
use lib.IntN.{ℤ}
use borrow.Author.Tests.{lt-ltb, le-ltb, eq-eqb, ne_eqb}
use Rattle.rules.specs.Settings.{settings_accepted}
use Rattle.rules.specs.Samples.{Slice, Equipment, frequency, available, operator_limit, mean}
use Rattle.rules.specs.Curves.{curve, nameplate}
use Rattle.rules.specs.Regions.{region_of, ceases}
use Rattle.rules.specs.Droop.{deadband_high, deadband_low, no_side, side_of, side_after, held_after, drooped}
use Rattle.rules.specs.Service.{in_service, exports, recovering, recovery_limit, vars_of, watt_curve, first_limits, power_limits, least, left_by, watts_of}
use Rattle.rules.specs.Reports.{Items}
use Rattle.rules.specs.History.{History, followed_by, serving, history_status, history_share, history_recovery, history_side, watts_holding, history_held, history_watts, history_vars, history_report}
use Rattle.rules.specs.declared.Settings.{Settings}
use Rattle.claims.specs.Droop.{SameButFrequency, InDeadband, OnSide, NearLess, NearMore, least_with, Droops}
use Rattle.laws.proofs.Events.{recovery-top, tripped-side, side-none, calm-left, event-left, all_then, watts-available}
use Rattle.theorems.proofs.Demand2.{service-of, tripped-of}
use Rattle.theorems.proofs.Recovery.{gives, gives-counts, one_more}
use Rattle.theorems.proofs.HigherFrequency.{mean-same, serves-too, gives-too}

-- ---- sides

high-side : (f : ℕ) → 60036 < f → side_of f ≡ 1
unfolding side_of
high-side f high = rw (lt-ltb 60036 f high) refl

low-side : (f : ℕ) → f < 59964 → side_of f ≡ 2
unfolding side_of
low-side f low = rw (le-ltb 60036 f (omega arith), lt-ltb f 59964 low) refl

no-side : (f : ℕ) → 59964 ≤ f → f ≤ 60036 → side_of f ≡ no_side
unfolding side_of
no-side f low high = rw (le-ltb 60036 f high, le-ltb f 59964 low) refl

-- ---- powers

drooped-high : (f held : ℕ) → 60036 < f → NearLess held (f - 60036) (drooped f held)
unfolding drooped
drooped-high f held high =
    record {
      not-below = λ h. rw (lt-ltb 60036 f high) (omega arith);
      near = λ h. rw (lt-ltb 60036 f high) (omega arith);
      floor = λ h. rw (lt-ltb 60036 f high) (omega arith);
    }

drooped-low : (f held : ℕ) → f < 59964 → NearMore held (59964 - f) (drooped f held)
unfolding drooped
drooped-low f held low =
    record {
      not-above = rw (le-ltb 60036 f (omega arith)) (omega arith);
      near = rw (le-ltb 60036 f (omega arith)) (omega arith);
    }

drooped-below : (f held : ℕ) → 60036 < f → drooped f held ≤ held
unfolding drooped
drooped-below f held high = rw (lt-ltb 60036 f high) (omega arith)

drooped-falls : (f g held : ℕ) → 60036 < f → f ≤ g → drooped g held ≤ drooped f held
unfolding drooped
drooped-falls f g held high up = rw (lt-ltb 60036 f high, lt-ltb 60036 g (omega arith)) (omega arith)

first-least : (a b c : ℕ) → min (min a b) c ≤ a
first-least a b c = omega arith

-- cut alike twice, what is less stays less
cut-falls : (a b v u r q : ℕ) → b ≤ a → v ≡ u → r ≡ q → min (min b u) q ≤ min (min a v) r
cut-falls a b v u r q low same₁ same₂ = omega arith

module _ (e : Equipment) (st : Settings) where
  -- the watts of a sample where power is given: the first limits', and what binds everywhere
  given : (x : Slice) (status share recovery held : ℕ) → exports status ≡ true
      → watts_of e st x status share recovery held
      ≡ min (left_by (first_limits x share held)) (least (watt_curve e st x ∷ nameplate (vars_of e st x status) ∷ recovery_limit recovery ∷ []))
  unfolding watts_of
  given x status share recovery held on = rw on (all_then e st x share recovery held (vars_of e st x status))

  vars-same : (x y : Slice) → SameButFrequency x y → (s t : ℕ) → exports s ≡ true → exports t ≡ true → vars_of e st x s ≡ vars_of e st y t
  unfolding vars_of
  vars-same x y same s t on-x on-y = rw (on-x, on-y, mean-same e st x y same)

  -- a higher frequency leaves no more, all else alike
  falls : (x y : Slice) → SameButFrequency x y → 60036 < frequency x → frequency x ≤ frequency y
      → (s t share other recovery held : ℕ) → exports s ≡ true → exports t ≡ true
      → watts_of e st y t other recovery held ≤ watts_of e st x s share recovery held
  falls x y same above up s t share other recovery held on-x on-y =
      let some : (z : Slice) → 60036 < frequency z → ¬ (side_of (frequency z) ≡ no_side) = λ z high none. omega (arith, high-side (frequency z) high, none) in
      let plate : nameplate (vars_of e st x s) ≡ nameplate (vars_of e st y t) = ap nameplate (vars-same x y same s t on-x on-y) in
      rw (given x s share recovery held on-x, given y t other recovery held on-y, event-left x share held (some x above), event-left y other held (some y (omega arith)))
      (cut-falls (drooped (frequency x) held) (drooped (frequency y) held) (available x) (available y) _ _
      (drooped-falls (frequency x) (frequency y) held above up) same.available (rw (mean-same e st x y same, plate) refl))

  -- ---- of histories

  side-is : (x : Slice) (h : History) → in_service (history_status e st (x ∷ h)) ≡ true → history_side e st (x ∷ h) ≡ side_of (frequency x)
  unfolding history_side
  side-is x h on = rw (sym (service-of e st (x ∷ h)) ∙ on) refl

  between_none : (x : Slice) (h : History) → InDeadband x → history_side e st (x ∷ h) ≡ no_side
  unfolding history_side
  between_none x h b = by (serving e st (x ∷ h))
    where
      by : (on : Bool) → side_after on (frequency x) ≡ no_side
      by true = no-side (frequency x) b.0 b.1
      by false = refl

  -- an event that begins takes the watts of the report before, and one that goes on keeps what it holds
  begins : (side : ℕ) → 0 < side → (x : Slice) (h : History) → ¬ (history_side e st h ≡ side) → history_side e st (x ∷ h) ≡ side
      → history_held e st (x ∷ h) ≡ history_watts e st h
  unfolding history_held history_watts
  begins side some x h other p =
      rw (p, ne_eqb side no_side (λ n. omega arith), ne_eqb side (history_side e st h) (λ n. other (sym n))) refl

  keeps : (side : ℕ) → 0 < side → (x : Slice) (h : History) → history_side e st h ≡ side → history_side e st (x ∷ h) ≡ side
      → history_held e st (x ∷ h) ≡ history_held e st h
  unfolding history_held
  keeps side some x h was p = rw (p, was, ne_eqb side no_side (λ n. omega arith), eq-eqb side side refl) refl

  keeps_on : (side : ℕ) → 0 < side → (run : List Slice) (h : History) → history_side e st h ≡ side → OnSide (history_report e st) side h run
      → history_held e st (followed_by h run) ≡ history_held e st h
  unfolding history_report
  keeps_on side some [] h was on = refl
  keeps_on side some (x ∷ run) h was on = keeps_on side some run (x ∷ h) on.0 on.1 ∙ keeps side some x h was on.0

  holds_on : (side : ℕ) → 0 < side → (h : History) → ¬ (history_side e st h ≡ side) → (x : Slice) (run : List Slice)
      → OnSide (history_report e st) side h (x ∷ run) → history_held e st (followed_by h (x ∷ run)) ≡ history_watts e st h
  unfolding history_report
  holds_on side some h other x run on = keeps_on side some run (x ∷ h) on.0 on.1 ∙ begins side some x h other on.0

  -- the watts, by what the report shows
  watts-given : (x : Slice) (h : History) → exports (history_status e st (x ∷ h)) ≡ true
      → history_watts e st (x ∷ h)
      ≡ least_with e st x (history_report e st (x ∷ h)) (left_by (first_limits x (history_share e st (x ∷ h)) (history_held e st (x ∷ h))))
  unfolding history_report history_watts watts_holding history_vars
  watts-given x h on =
      given x (history_status e st (x ∷ h)) (history_share e st (x ∷ h)) (history_recovery e st (x ∷ h)) (history_held e st (x ∷ h)) on

  event-watts : (x : Slice) (h : History) → exports (history_status e st (x ∷ h)) ≡ true → ¬ (side_of (frequency x) ≡ no_side)
      → history_watts e st (x ∷ h) ≡ least_with e st x (history_report e st (x ∷ h)) (min (drooped (frequency x) (history_held e st (x ∷ h))) (available x))
  event-watts x h on some =
      watts-given x h on
      ∙ ap (least_with e st x (history_report e st (x ∷ h))) (event-left x (history_share e st (x ∷ h)) (history_held e st (x ∷ h)) some)

  calm-watts : (x : Slice) (h : History) → exports (history_status e st (x ∷ h)) ≡ true → InDeadband x
      → history_watts e st (x ∷ h)
      ≡ least_with e st x (history_report e st (x ∷ h)) (least (available x ∷ operator_limit x ∷ history_share e st (x ∷ h) ∷ []))
  calm-watts x h on b =
      watts-given x h on
      ∙ ap (least_with e st x (history_report e st (x ∷ h)))
      (calm-left x (history_share e st (x ∷ h)) (history_held e st (x ∷ h)) (no-side (frequency x) b.0 b.1))

  bounded : (x : Slice) (h : History) → history_watts e st (x ∷ h) ≤ available x
  unfolding history_watts watts_holding
  bounded x h =
      watts-available e st x (history_status e st (x ∷ h)) (history_share e st (x ∷ h)) (history_recovery e st (x ∷ h)) (history_held e st (x ∷ h))

  -- no power is given: no watts
  silent-watts : (x : Slice) (h : History) → exports (history_status e st (x ∷ h)) ≡ false → history_watts e st (x ∷ h) ≡ 0
  unfolding history_watts watts_holding watts_of
  silent-watts x h off = rw off refl

  -- on the high side the watts are not above the held power
  at-most-held : (x : Slice) (h : History) → 60036 < frequency x → history_watts e st (x ∷ h) ≤ history_held e st (x ∷ h)
  at-most-held x h above = by (exports (history_status e st (x ∷ h))) refl
    where
      by : (b : Bool) → exports (history_status e st (x ∷ h)) ≡ b → history_watts e st (x ∷ h) ≤ history_held e st (x ∷ h)
      by true on =
          let power = drooped (frequency x) (history_held e st (x ∷ h)) in
          let cut : history_watts e st (x ∷ h) ≤ power
          = rw (event-watts x h on (λ none. omega (arith, high-side (frequency x) above, none))) (first-least power (available x) _) in
          omega (arith, cut, drooped-below (frequency x) (history_held e st (x ∷ h)) above)
      by false off = omega (arith, silent-watts x h off)

  -- in service above the deadband: on the high side
  high-of : (x : Slice) (h : History) → 60036 < frequency x → serving e st (x ∷ h) ≡ true → history_side e st (x ∷ h) ≡ 1
  unfolding history_side
  high-of x h above on = rw on (high-side (frequency x) above)

  -- no side, so no power is held
  calm : (x : Slice) (h : History) → InDeadband x → (history_side e st (x ∷ h) ≡ 0) × (history_held e st (x ∷ h) ≡ 0)
  calm x h b = let none = between_none x h b in (none, side-none e st (x ∷ h) none)

  off : (h : History) → history_status e st h ≡ 0 → (history_side e st h ≡ 0) × (history_held e st h ≡ 0)
  off h p = let none = tripped-side e st h (tripped-of e st h p) in (none, side-none e st h none)

  less-watts : (x : Slice) (h : History) → exports (history_status e st (x ∷ h)) ≡ true → 60036 < frequency x
      → (power : ℕ) × NearLess (history_held e st (x ∷ h)) (frequency x - 60036) power
      × (history_watts e st (x ∷ h) ≡ least_with e st x (history_report e st (x ∷ h)) (min power (available x)))
  less-watts x h on above = (
    drooped (frequency x) (history_held e st (x ∷ h)),
    drooped-high (frequency x) (history_held e st (x ∷ h)) above,
    event-watts x h on (λ none. omega (arith, high-side (frequency x) above, none)),
  )

  more-watts : (x : Slice) (h : History) → exports (history_status e st (x ∷ h)) ≡ true → frequency x < 59964
      → (power : ℕ) × NearMore (history_held e st (x ∷ h)) (59964 - frequency x) power
      × (history_watts e st (x ∷ h) ≡ least_with e st x (history_report e st (x ∷ h)) (min power (available x)))
  more-watts x h on below = (
    drooped (frequency x) (history_held e st (x ∷ h)),
    drooped-low (frequency x) (history_held e st (x ∷ h)) below,
    event-watts x h on (λ none. omega (arith, low-side (frequency x) below, none)),
  )

  -- ---- a higher frequency

  module _ (ok : settings_accepted st ≡ true) (x y : Slice) (same : SameButFrequency x y) (above : 60036 < frequency x) (up : frequency x ≤ frequency y) where
    -- with the same recovery count and the same held power
    falls-too : (h g : History) → exports (history_status e st (x ∷ h)) ≡ true → exports (history_status e st (y ∷ g)) ≡ true
        → history_recovery e st (y ∷ g) ≡ history_recovery e st (x ∷ h) → history_held e st (y ∷ g) ≡ history_held e st (x ∷ h)
        → history_watts e st (y ∷ g) ≤ history_watts e st (x ∷ h)
    unfolding history_watts watts_holding
    falls-too h g on-x on-y count power =
        rw (count, power)
        (falls x y same above up (history_status e st (x ∷ h)) (history_status e st (y ∷ g)) (history_share e st (x ∷ h)) (history_share e st (y ∷ g))
        (history_recovery e st (x ∷ h)) (history_held e st (x ∷ h)) on-x on-y)

    -- in the sample's place
    same_count : (h : History) → exports (history_status e st (x ∷ h)) ≡ true → exports (history_status e st (y ∷ h)) ≡ true
        → history_recovery e st (y ∷ h) ≡ history_recovery e st (x ∷ h)
    same_count h on-x on-y =
        let gx = gives e st x h on-x in
        let gy = gives e st y h on-y in
        one_more e st y h ∙ rw (gy.0, gy.1) (sym (one_more e st x h ∙ rw (gx.0, gx.1) refl))

    same-held : (h : History) → serving e st (x ∷ h) ≡ true → serving e st (y ∷ h) ≡ true → history_held e st (y ∷ h) ≡ history_held e st (x ∷ h)
    unfolding history_held
    same-held h on-x on-y = rw (high-of x h above on-x, high-of y h (omega arith) on-y) refl

    higher-watts : (h : History) → history_watts e st (y ∷ h) ≤ history_watts e st (x ∷ h)
    higher-watts h = by (exports (history_status e st (y ∷ h))) refl
      where
        by : (b : Bool) → exports (history_status e st (y ∷ h)) ≡ b → history_watts e st (y ∷ h) ≤ history_watts e st (x ∷ h)
        by true on-y =
            let serves-y = (gives e st y h on-y).0 in
            let serves-x = serves-too e st x y same ok above up h serves-y in
            let on-x = gives-too e st x y same ok above up h h serves-x on-y in
            falls-too h h on-x on-y (same_count h on-x on-y) (same-held h serves-x serves-y)
        by false off-y = omega (arith, silent-watts y h off-y)

    -- the sample after it: where power is given the count rises, but from 40; a board that returns there has no power to hold
    rising-watts : (h : History) → history_recovery e st (y ∷ x ∷ h) ≤ history_recovery e st (x ∷ h) → history_watts e st (y ∷ x ∷ h) ≤ history_watts e st (x ∷ h)
    rising-watts h count = by (exports (history_status e st (y ∷ x ∷ h))) refl (serving e st (x ∷ h)) refl
      where
        by : (b : Bool) → exports (history_status e st (y ∷ x ∷ h)) ≡ b → (was : Bool) → serving e st (x ∷ h) ≡ was
            → history_watts e st (y ∷ x ∷ h) ≤ history_watts e st (x ∷ h)
        by false off-y was p = omega (arith, silent-watts y (x ∷ h) off-y)
        by true on-y true serves-x =
            let serves-y = (gives e st y (x ∷ h) on-y).0 in
            let on-x = gives-too e st x y same ok above up h (x ∷ h) serves-x on-y in
            let counts = gives-counts e st y (x ∷ h) on-y serves-x in
            falls-too h (x ∷ h) on-x on-y (omega (arith, count, counts, recovery-top e st (x ∷ h)))
            (keeps 1 (omega arith) y (x ∷ h) (high-of x h above serves-x) (high-of y (x ∷ h) (omega arith) serves-y))
        by true on-y false trips-x =
            let serves-y = (gives e st y (x ∷ h) on-y).0 in
            let none = tripped-side e st (x ∷ h) trips-x in
            let held = begins 1 (omega arith) y (x ∷ h) (λ one. omega (arith, none, one)) (high-of y (x ∷ h) (omega arith) serves-y) in
            omega (arith, at-most-held y (x ∷ h) (omega arith), held)

  -- ---- all of it

  pub droops : settings_accepted st ≡ true → Droops e st (history_report e st)
  unfolding history_report
  droops ok =
      record {
        high = λ x h on above. side-is x h on ∙ high-side (frequency x) above;
        low = λ x h on below. side-is x h on ∙ low-side (frequency x) below;
        between = calm;
        tripped = off;
        holds = holds_on;
        less = less-watts;
        more = more-watts;
        back = calm-watts;
        within-available = bounded;
        within_held = at-most-held;
        higher = λ x y h same above up. higher-watts ok x y same above up h;
        rising = λ x y h same above up count. rising-watts ok x y same above up h count;
      }
