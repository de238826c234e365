-- Two lists of calls whose images differ in the ramp count alone come apart within five samples, and not always within four (spec 13.13), for any
-- sound equipment.
-- Assumes nothing.
use mathlib.Core.Path.{◌≡◌, refl, sym, ap, ap₂, ◌∙◌, subst, subst₂}
use mathlib.Core.Bool.{Bool, true, false, cond, ◌&&◌}
use mathlib.Core.Logic.{inl}
use mathlib.Core.List.{List, [], ◌∷◌, ◌++◌, map}
use mathlib.Core.Option.{Option, none}
use Prim.Native.Nat.{ℕ, zero, suc, ◌+◌, ◌≤◌, min, max}
use native.Mathlib.Omega.{arith}
use lib.ListN.{length, replicate, length-replicate}
use borrow.Author.Tests.{le-leb}
use Rattle.rules.specs.Settings.{settings_accepted, limit_at}
use Rattle.rules.specs.Statuses.{top_status}
use Rattle.rules.specs.Samples.{Slice, Equipment}
use Rattle.rules.specs.Counters.{Kind, kinds, limit_rules, ready_rule, rules}
use Rattle.rules.specs.Regions.{region_of, ceases}
use Rattle.rules.specs.Droop.{no_side, side_of}
use Rattle.rules.specs.Service.{in_service}
use Rattle.rules.specs.Records.{settled}
use Rattle.rules.specs.History.{History, followed_by, streak, serving, climbed, since_more, since_cessation, recovered_since, history_recovery, history_side, history_held, history_report}
use Rattle.rules.specs.Images.{image, image_length, saved_into}
use Rattle.rules.specs.declared.Settings.{Settings}
use Rattle.rules.specs.declared.Board.{Board}
use Rattle.causes.specs.Calls.{Call, Program, ruled_by, accepted_after, accepted_samples, Under}
use Rattle.claims.specs.Sound.{Sound}
use Rattle.claims.specs.TripAndReturn.{count_of, record_of}
use Rattle.claims.specs.TwoHistories.{AgreeWithin, image_after}
use Rattle.claims.specs.RampPairs.{RampAlone, ComeApart, RampsToldBy, RampsUntoldBy, RampsTold, RampsUntold}
use Rattle.laws.proofs.Limits.{LimitsIn, limits-in}
use Rattle.theorems.proofs.Trace.{nine-counters, service-is, ramp-is, status-is}
use Rattle.theorems.proofs.Trip.{in-range-continuous}
use Rattle.theorems.proofs.Probes.{calm, calm-accepted, calm-breaks-none, calm-in-range}
use Rattle.laws.proofs.Shares.{share_at, SharesAgree, agree-now, full-alike}
use Rattle.theorems.proofs.Ramps.{calm-serves, climb-run, ramp-low, ramps-told}
use Rattle.theorems.proofs.Demand3.{status-top, saved-is}
use Rattle.laws.proofs.Events.{side-none}
use Rattle.theorems.proofs.RampBytes.{same-status, counts-differ}
use Rattle.theorems.proofs.RampAlone.{with_ramp, settled-alike, histories-agree, image-alone}

-- ---- five samples are enough

module _ (e : Equipment) (sound : Sound e) (st : Settings) (ok : settings_accepted st ≡ true) where
  images-told : (h g : History) → RampAlone (image (record_of e st h)) (image (record_of e st g)) → ComeApart 5 (history_report e st) h g
  images-told h g r =
      let status = same-status (record_of e st h) (record_of e st g) (top h) (top g) r.before in
      let o : serving e st h ≡ serving e st g = sym (service-is e st h) ∙ ap in_service status ∙ service-is e st g in
      ramps-told e sound st ok h g o (counts-differ e st h g r)
    where
      top : (k : History) → (record_of e st k).status ≤ top_status
      top k = omega (arith, status-is e st k, status-top e st k)

pub ramps-told-within-five : (e : Equipment) → Sound e → RampsTold e (ruled_by e) 5
ramps-told-within-five e sound st ok ps qs up uq a b ra rb r =
    images-told e sound st ok (accepted_samples ps) (accepted_samples qs)
    (subst₂ RampAlone (saved-is e sound st ok ps up a ra) (saved-is e sound st ok qs uq b rb) r)

-- ---- four are not: under a sheet with the longest ramp and no more than a step's wait, a return at nominal with six and with seven such samples more

module _ (e : Equipment) (sound : Sound e) (st : Settings) (ok : settings_accepted st ≡ true) (quick : st.wait ≤ 1) where
  abbrev nominal : Slice
  nominal = calm e sound

  abbrev entered : ℕ → History
  entered n = followed_by (nominal ∷ []) (replicate n nominal)

  returned : serving e st (nominal ∷ []) ≡ true
  unfolding serving streak
  returned = rw (calm-in-range e sound st ok) (le-leb (max 1 st.wait) 1 (omega arith))

  serve-run : (n : ℕ) (h : History) → serving e st h ≡ true → serving e st (followed_by h (replicate n nominal)) ≡ true
  serve-run zero h p = p
  serve-run (suc n) h p = serve-run n (nominal ∷ h) (calm-serves e sound st ok h p)

  -- no cessation in a run at nominal
  none_more : (h : History) → since_cessation e st h ≡ none → since_cessation e st (nominal ∷ h) ≡ none
  unfolding since_cessation
  none_more h p = rw (p, no-cessation) (by (serving e st h) (serving e st (nominal ∷ h)))
    where
      no-cessation : ceases (region_of e st nominal) ≡ false
      no-cessation = ap ceases (in-range-continuous e st sound ok nominal (calm-in-range e sound st ok))

      by : (was on : Bool) → since_more was on false none ≡ none
      by was false = refl
      by false true = refl
      by true true = refl

  none-run : (n : ℕ) (h : History) → since_cessation e st h ≡ none → since_cessation e st (followed_by h (replicate n nominal)) ≡ none
  none-run zero h p = p
  none-run (suc n) h p = none-run n (nominal ∷ h) (none_more h p)

  none-entered : (n : ℕ) → since_cessation e st (entered n) ≡ none
  unfolding since_cessation
  none-entered n = none-run n (nominal ∷ []) (none_more [] refl)

  -- nominal is in the deadband
  nothing-held : (h : History) → history_held e st (nominal ∷ h) ≡ 0
  unfolding history_side side_of
  nothing-held h = side-none e st (nominal ∷ h) (by (serving e st (nominal ∷ h)) refl)
    where
      by : (on : Bool) → serving e st (nominal ∷ h) ≡ on → history_side e st (nominal ∷ h) ≡ no_side
      by true p = rw p
      by false p = rw p

  -- at nominal no limit's counter counts, and the ninth is full
  same-counts : (h g : History) (i : ℕ) (ks : List Kind) → LimitsIn st i ks
      → map (count_of (nominal ∷ h)) (limit_rules e st i ks ++ (ready_rule e st ∷ [])) ≡ map (count_of (nominal ∷ g)) (limit_rules e st i ks ++ (ready_rule e st ∷ []))
  unfolding streak
  same-counts h g i [] l = rw (calm-in-range e sound st ok) (ap (λ (n : ℕ). n ∷ []) (omega arith))
  same-counts h g i (k ∷ ks) l =
      rw (calm-breaks-none e sound k (limit_at st i).level l.0.level_in) (ap (λ (ns : List ℕ). min (limit_at st i).clearing 0 ∷ ns) (same-counts h g (suc i) ks l.1))

  -- one sample more changes the ramp count alone, where the shares agree
  one_more : (h : History) → serving e st h ≡ true → since_cessation e st h ≡ none
      → share_at st.ramp (climbed e st (nominal ∷ h)) ≡ share_at st.ramp (climbed e st (nominal ∷ nominal ∷ h))
      → record_of e st (nominal ∷ nominal ∷ h) ≡ with_ramp (record_of e st (nominal ∷ nominal ∷ h)).ramp (record_of e st (nominal ∷ h))
  unfolding record_of history_recovery settled
  one_more h p none_yet same =
      let a = nominal ∷ h in
      let b = nominal ∷ a in
      let p-a = calm-serves e sound st ok h p in
      let r-a = none_more h none_yet in
      let len = st.ramp in
      ap (λ (cs : List ℕ). settled e st nominal cs (serving e st b) (min len (climbed e st b)) (history_recovery e st b) (history_held e st b)) (same-counts a h 0 kinds (limits-in st ok))
      ∙ ap (λ (on : Bool). settled e st nominal (map (count_of a) (rules e st)) on (min len (climbed e st b)) (history_recovery e st b) (history_held e st b))
      (calm-serves e sound st ok a p-a ∙ sym p-a)
      ∙ ap (λ (o : Option ℕ). settled e st nominal (map (count_of a) (rules e st)) (serving e st a) (min len (climbed e st b)) (recovered_since o) (history_held e st b))
      (none_more a r-a ∙ sym r-a)
      ∙ ap (settled e st nominal (map (count_of a) (rules e st)) (serving e st a) (min len (climbed e st b)) (history_recovery e st a))
      (nothing-held a ∙ sym (nothing-held h))
      ∙ settled-alike e st nominal (map (count_of a) (rules e st)) (serving e st a) (min len (climbed e st a)) (min len (climbed e st b)) (history_recovery e st a) (history_held e st a)
      (full-alike len (climbed e st a) (climbed e st b) (ramp-low e sound st ok) same) same

  module _ (long : st.ramp ≡ 60000) where
    climbed-is : (n : ℕ) → climbed e st (entered n) ≡ n
    unfolding climbed serving
    climbed-is n = let none_yet : climbed e st (nominal ∷ []) ≡ 0 = rw returned in omega (arith, climb-run e sound st ok n (nominal ∷ []) returned)

    ramp-of : (n : ℕ) → n ≤ 60000 → (record_of e st (entered n)).ramp ≡ n
    ramp-of n h = omega (arith, ramp-is e st (entered n), climbed-is n)

    -- the share is 1 with six steps and with seven, and stays so for four more
    shares : SharesAgree 4 st.ramp 6 7
    shares = subst (λ (len : ℕ). SharesAgree 4 len 6 7) (sym long) (λ k l. omega arith)

    pair-alike : record_of e st (entered 7) ≡ with_ramp (record_of e st (entered 7)).ramp (record_of e st (entered 6))
    pair-alike =
        one_more (entered 5) (serve-run 5 (nominal ∷ []) returned) (none-entered 5)
        (ap (share_at st.ramp) (climbed-is 6) ∙ agree-now 4 st.ramp 6 7 shares ∙ ap (share_at st.ramp) (sym (climbed-is 7)))

    pair-alone : RampAlone (image (record_of e st (entered 6))) (image (record_of e st (entered 7)))
    pair-alone =
        let six = ramp-of 6 (omega arith) in
        let seven = ramp-of 7 (omega arith) in
        subst (λ (b : Board). RampAlone (image (record_of e st (entered 6))) (image b)) (sym pair-alike)
        (image-alone (record_of e st (entered 6)) (record_of e st (entered 7)).ramp (nine-counters e st (entered 6)) (omega arith) (omega arith)
        (λ same. absurd (omega arith)))

    pair-agrees : AgreeWithin 4 (history_report e st) (entered 6) (entered 7)
    pair-agrees =
        histories-agree e st (ramp-low e sound st ok) 4 (entered 6) (entered 7) pair-alike
        (subst₂ (SharesAgree 4 st.ramp) (sym (ramp-of 6 (omega arith))) (sym (ramp-of 7 (omega arith))) shares)

    abbrev at_nominal : Call
    at_nominal = record { settings = st; slice = nominal }

    calls-under : (n : ℕ) → Under st (replicate n at_nominal)
    calls-under zero = tt
    calls-under (suc n) = (inl refl, calls-under n)

    calls-accepted : (n : ℕ) (h : History) → accepted_after h (replicate n at_nominal) ≡ followed_by h (replicate n nominal)
    calls-accepted zero h = refl
    calls-accepted (suc n) h =
        ap (λ (t : Bool). accepted_after (cond t (nominal ∷ h) h) (replicate n at_nominal)) (ap₂ ◌&&◌ ok (calm-accepted e sound)) ∙ calls-accepted n (nominal ∷ h)

    image-of : (n : ℕ) (buffer : List ℕ) → image_length ≤ length buffer
        → image_after saved_into (ruled_by e) (replicate (suc n) at_nominal) buffer ≡ image (record_of e st (entered n))
    image-of n buffer room =
        saved-is e sound st ok (replicate (suc n) at_nominal) (calls-under (suc n)) buffer room
        ∙ ap (λ (h : History). image (record_of e st h)) (calls-accepted (suc n) [])

    untold : RampsUntold e (ruled_by e) 4
    untold =
        record {
          sheet = st;
          accepted = ok;
          one = replicate 7 at_nominal;
          other = replicate 8 at_nominal;
          under = (calls-under 7, calls-under 8);
          alone = λ a b ra rb. subst₂ RampAlone (sym (image-of 6 a ra)) (sym (image-of 7 b rb)) pair-alone;
          agree = subst₂ (AgreeWithin 4 (history_report e st)) (sym (calls-accepted 7 [])) (sym (calls-accepted 8 [])) pair-agrees;
        }

pub ramps-untold-within-four : (e : Equipment) → Sound e → (st : Settings) → settings_accepted st ≡ true → st.wait ≤ 1 → st.ramp ≡ 60000 → RampsUntold e (ruled_by e) 4
ramps-untold-within-four e sound st ok quick long = untold e sound st ok quick long

-- ---- one number does not do for both

-- some buffer that 9 lets pass
abbrev pub buffer : List ℕ
buffer = replicate image_length 0

pub room : image_length ≤ length buffer
room = omega (arith, length-replicate {A = ℕ} image_length 0)

module _ {R : Type 0} (saved : Board → List ℕ → List ℕ) (report : Settings → History → R) (p : Program) (most : ℕ) where
  pub untold-not-told : RampsUntoldBy saved report p most → ¬ RampsToldBy saved report p most
  untold-not-told u told =
      let apart = told u.sheet u.accepted u.one u.other u.under.0 u.under.1 buffer buffer room room (u.alone buffer buffer room room) in
      apart.differ (u.agree apart.run apart.short apart.accepted)
