-- Demand 3 (spec 13.3) holds of the board by the rules, for any sound equipment.
-- Assumes nothing.
use mathlib.Core.Path.{◌≡◌, refl, sym, ap, ◌∙◌, subst}
use mathlib.Core.Bool.{Bool, true, false, cond}
use mathlib.Core.Logic.{◌↔◌}
use mathlib.Core.List.{List, [], ◌∷◌, map}
use Prim.Native.Nat.{ℕ, ◌^◌, ◌≤◌, ◌<◌, zero-le}
use native.Mathlib.Omega.{arith}
use lib.IntN.{pos}
use lib.Dec.{lit≤}
use lib.ListN.{length, take, drop, get_or}
use lib.Seq.{take_at}
use mir.Syntax.{w16}
use mir.Val.{SFits}
use borrow.Author.Tests.{le-leb}
use Rattle.rules.specs.Settings.{rows, settings_accepted}
use Rattle.rules.specs.Statuses.{top_status}
use Rattle.rules.specs.Samples.{Slice, Equipment, mean, sample_accepted}
use Rattle.rules.specs.Counters.{Rule, rules}
use Rattle.rules.specs.Curves.{curve}
use Rattle.rules.specs.Regions.{region_of}
use Rattle.rules.specs.Service.{status_of, in_service, exports, vars_of}
use Rattle.rules.specs.Reports.{Items}
use Rattle.rules.specs.Records.{next, shown}
use Rattle.rules.specs.History.{History, followed_by, serving, history_status, history_vars, history_report}
use Rattle.rules.specs.Images.{field, image_fields, image, image_length, saved_into}
use Rattle.rules.specs.declared.Settings.{Settings}
use Rattle.rules.specs.declared.Board.{Board}
use Rattle.rules.specs.declared.Region.{Region}
use Rattle.rules.specs.declared.Region.TheVariants.{Continuous, Mandatory, Momentary, Cease}
use Rattle.causes.specs.Calls.{Call, Run, ruled_by, call_accepted, accepted_one, accepted_after, accepted_samples, Under}
use Rattle.claims.specs.Sound.{Sound}
use Rattle.claims.specs.TripAndReturn.{count_of, record_of}
use Rattle.claims.specs.TwoHistories.{AllAccepted, Agree, image_after, TwoHistoriesBy, Demand3}
use Rattle.powerlaws.proofs.CurveLaws.{curve-small}
use Rattle.powerlaws.proofs.PointLists.{powers-small}
use Rattle.basics.proofs.Bools.{both}
use Rattle.laws.proofs.Accepted.{sheet-rows}
use Rattle.laws.proofs.Curves.{fits16, var-rises}
use Rattle.theorems.proofs.Trace.{counters-are, nine-counters, service-is, ramp-is, recovery-is, side-is, held-is, status-is, watts-is, vars-is, next-is, shown-is}
use Rattle.laws.proofs.Events.{recovery-top, side-below, watts-top, held-top}
use Rattle.theorems.proofs.Demand2.{run_is}
use Rattle.theorems.proofs.Probes.{AllTellable, all-rules, rules-tellable}
use Rattle.theorems.proofs.Ramps.{ramps-equal}
use Rattle.laws.proofs.Images.{AllFit, each-fit, FieldsFit, image-length, complement-below, same-fields, image_inj}

-- ---- every sample of a history that calls give was accepted

pub samples-accepted : (cs : List Call) (h : History) → AllAccepted h → AllAccepted (accepted_after h cs)
samples-accepted [] h a = a
samples-accepted (c ∷ cs) h a = samples-accepted cs (accepted_one h c) (by (call_accepted c) refl)
  where
    by : (b : Bool) → call_accepted c ≡ b → AllAccepted (cond b (c.slice ∷ h) h)
    by true e = ((both (settings_accepted c.settings) (sample_accepted c.slice) e).1, a)
    by false e = a

-- ---- the fields of a history's record fit their widths

counts-fit : (h : History) (rs : List Rule) → AllTellable rs → AllFit (map (field 4) (map (count_of h) rs))
counts-fit h [] t = tt
counts-fit h (r ∷ rs) t = (omega (arith, t.0.reach), counts-fit h rs t.1)

-- what a saving puts into a buffer that 9 lets pass
pub saved-image : (b : Board) → length b.counters ≡ 9 → (buffer : List ℕ) → image_length ≤ length buffer → take image_length (saved_into b buffer) ≡ image b
unfolding saved_into
saved-image b nine buffer room =
    rw (le-leb image_length (length buffer) room) (take_at (image b) (drop image_length buffer) image_length (image-length b nine))

module _ (e : Equipment) (st : Settings) where
  pub status-top : (h : History) → history_status e st h ≤ top_status
  unfolding history_status
  status-top [] = lit≤ tt
  status-top (x ∷ h) = by (serving e st (x ∷ h)) (region_of e st x) _
    where
      by : (on : Bool) (r : Region) (full : Bool) → status_of on r full ≤ top_status
      by false r full = lit≤ tt
      by true Continuous false = lit≤ tt
      by true Continuous true = lit≤ tt
      by true Mandatory full = lit≤ tt
      by true Momentary full = lit≤ tt
      by true Cease full = lit≤ tt

  -- ---- a run, on a record

  abbrev pub stepped : Board → List Slice → Board
  stepped b [] = b
  stepped b (x ∷ run) = stepped (next e st x b) run

  stepped-is : (run : List Slice) (h : History) → stepped (record_of e st h) run ≡ record_of e st (followed_by h run)
  stepped-is [] h = refl
  stepped-is (x ∷ run) h = ap (λ (b : Board). stepped b run) (next-is e st h x) ∙ stepped-is run (x ∷ h)

  pub stepped-shown : (run : List Slice) (h : History) → shown e st (stepped (record_of e st h) run) ≡ history_report e st (followed_by h run)
  stepped-shown run h = ap (shown e st) (stepped-is run h) ∙ shown-is e st (followed_by h run)

  -- equal records: equal reports after every run
  records-agree : (h g : History) → record_of e st h ≡ record_of e st g → Agree e st h g
  records-agree h g p run l a = sym (stepped-shown run h) ∙ ap (λ (b : Board). shown e st (stepped b run)) p ∙ stepped-shown run g

module _ (e : Equipment) (sound : Sound e) (st : Settings) (ok : settings_accepted st ≡ true) where
  vars-fit : (h : History) → SFits w16 (history_vars e st h)
  unfolding history_vars vars_of
  vars-fit [] = fits16 (pos 0) (omega arith)
  vars-fit (x ∷ h) = by (exports (history_status e st (x ∷ h)))
    where
      by : (b : Bool) → SFits w16 (cond b (curve st.var (mean e x)) (pos 0))
      by true = fits16 (curve st.var (mean e x)) (curve-small 10000 st.var (mean e x) (powers-small st.var (var-rises st ok)))
      by false = fits16 (pos 0) (omega arith)

  record-fits : (h : History) → FieldsFit (record_of e st h)
  unfolding image_fields rows
  record-fits h =
      let counts = subst (λ (ns : List ℕ). AllFit (map (field 4) ns)) (sym (counters-are e st h)) (counts-fit h (rules e st) (rules-tellable e sound st ok)) in
      let vars = subst (SFits w16) (sym (vars-is e st h)) (vars-fit h) in
      let status : (record_of e st h).status < 256 ^ 1 = omega (arith, status-is e st h, status-top e st h) in
      let ramp : (record_of e st h).ramp < 256 ^ 4 = omega (arith, ramp-is e st h, (sheet-rows st ok).wait) in
      let watts : (record_of e st h).watts < 256 ^ 2 = omega (arith, watts-is e st h, watts-top e st h) in
      let recovery : (record_of e st h).recovery < 256 ^ 1 = omega (arith, recovery-is e st h, recovery-top e st h) in
      let side : (record_of e st h).side < 256 ^ 1 = omega (arith, side-is e st h, side-below e st h) in
      let held : (record_of e st h).held < 256 ^ 2 = omega (arith, held-is e st h, held-top e st h) in
      record {
        nine = nine-counters e st h;
        signed = vars;
        rows = (status, each-fit 4 (record_of e st h).counters counts _ (ramp, (watts, (complement-below _ vars, (recovery, (side, (held, tt)))))));
      }

  -- ---- equal reports, now and after every common run: equal records

  records-equal : (h g : History) → AllAccepted h → AllAccepted g → Agree e st h g → record_of e st h ≡ record_of e st g
  unfolding history_report
  records-equal h g ha ga f =
      let now : history_report e st h ≡ history_report e st g = f [] zero-le tt in
      let s : (record_of e st h).status ≡ (record_of e st g).status = status-is e st h ∙ ap (λ (r : Items). r.status) now ∙ sym (status-is e st g) in
      let o : serving e st h ≡ serving e st g = sym (service-is e st h) ∙ ap in_service s ∙ service-is e st g in
      same-fields s
      (counters-are e st h
      ∙ all-rules h g ha ga (rules e st) (rules-tellable e sound st ok) (λ run l a. ap (λ (r : Items). r.bits) (f run l a))
      ∙ sym (counters-are e st g))
      (ramp-is e st h ∙ ramps-equal e sound st ok h g o (λ run l a. f run (omega arith) a) ∙ sym (ramp-is e st g))
      (watts-is e st h ∙ ap (λ (r : Items). r.watts) now ∙ sym (watts-is e st g))
      (vars-is e st h ∙ ap (λ (r : Items). r.vars) now ∙ sym (vars-is e st g))
      (recovery-is e st h ∙ ap (λ (r : Items). r.recovery) now ∙ sym (recovery-is e st g))
      (side-is e st h ∙ ap (λ (r : Items). r.side) now ∙ sym (side-is e st g))
      (held-is e st h ∙ ap (λ (r : Items). r.held) now ∙ sym (held-is e st g))

  -- ---- the image saved after a list of calls

  pub saved-is : (cs : List Call) → Under st cs → (buffer : List ℕ) → image_length ≤ length buffer
      → image_after saved_into (ruled_by e) cs buffer ≡ image (record_of e st (accepted_samples cs))
  saved-is cs u buffer room =
      ap (λ (r : Run). take image_length (saved_into r.board buffer)) (run_is e st ok cs u)
      ∙ saved-image (record_of e st (accepted_samples cs)) (nine-counters e st (accepted_samples cs)) buffer room

  -- the images of two histories are equal exactly when no common run tells these apart
  pub images-told : (h g : History) → AllAccepted h → AllAccepted g → (image (record_of e st h) ≡ image (record_of e st g)) ↔ Agree e st h g
  images-told h g ha ga = (
    (λ p. records-agree e st h g (image_inj _ _ (record-fits h) (record-fits g) p)),
    (λ f. ap image (records-equal h g ha ga f)),
  )

  two-histories : TwoHistoriesBy saved_into (history_report e) (ruled_by e) st
  two-histories ps qs up uq a b ra rb =
      let told = images-told (accepted_samples ps) (accepted_samples qs) (samples-accepted ps [] tt) (samples-accepted qs [] tt) in
      let p-is = saved-is ps up a ra in
      let q-is = saved-is qs uq b rb in ((λ p. told.0 (sym p-is ∙ p ∙ q-is)), (λ f. p-is ∙ told.1 f ∙ sym q-is))

pub demand3 : (e : Equipment) → Sound e → Demand3 e (ruled_by e)
demand3 e sound st ok = two-histories e sound st ok
