-- Two shams fail the claims about ramp counts: ramps a step longer than the sheet's, and reports that show the ramp count.
-- Assumes nothing.
use mathlib.Core.Path.{◌≡◌, refl, sym, ap, ◌∙◌, subst, subst₂}
use mathlib.Core.Bool.{true}
use mathlib.Core.Logic.{inl}
use mathlib.Core.List.{List, [], ◌∷◌}
use Prim.Native.Nat.{ℕ, ◌≤◌, zero-le}
use native.Mathlib.Omega.{arith}
use lib.ListN.{length, take}
use Rattle.rules.specs.Settings.{settings_accepted}
use Rattle.rules.specs.Samples.{Slice}
use Rattle.rules.specs.Reports.{Items, report_of}
use Rattle.rules.specs.Images.{image, image_length, saved_into}
use Rattle.rules.specs.Records.{fresh, settled}
use Rattle.rules.specs.History.{History}
use Rattle.rules.specs.declared.Settings.{Settings}
use Rattle.rules.specs.declared.Board.{Board}
use Rattle.rules.specs.declared.Report.{Report}
use Rattle.causes.specs.Calls.{Call, ruled_by, Run, called_all, run_of, accepted_samples, Under}
use Rattle.claims.specs.TripAndReturn.{record_of}
use Rattle.claims.specs.TwoHistories.{AgreeWithin, image_after}
use Rattle.claims.specs.RampPairs.{RampAlone, RampsToldBy, RampsUntoldBy}
use Rattle.theorems.proofs.Trace.{nine-counters}
use Rattle.laws.proofs.Limits.{limits-in}
use Rattle.theorems.proofs.Demand2.{at, calls_by, fresh-by}
use Rattle.laws.proofs.Steps.{refused-step}
use Rattle.theorems.proofs.Demand3.{saved-image, saved-is}
use Rattle.laws.proofs.Shares.{SharesAgree}
use Rattle.theorems.proofs.RampBytes.{counts-differ}
use Rattle.theorems.proofs.RampAlone.{with_ramp, image-alone, histories-agree}
use Rattle.theorems.proofs.RampPairs.{buffer, room, untold-not-told}
use Rattle.shams.specs.ShamRamps.{longer, six_samples, report_longer, report_counted}
use Rattle.equipment.proofs.Examples.{tabled, tabled-sound}
use Rattle.shams.proofs.Opened.{check_opened, history_opened}
use Rattle.equipment.proofs.LongestRamp.{longest_ramp, longest-accepted}

-- ---- ramps a step longer: the board is that of its histories

module _ (st : Settings) (ok : settings_accepted st ≡ true) where
  longer-run : (cs : List Call) → Under st cs → run_of (six_samples tabled) cs ≡ at tabled (longer st) (accepted_samples cs)
  unfolding record_of
  longer-run cs u =
      ap (λ (r : Report). called_all (six_samples tabled) (record { board = fresh; report = r }) cs) (sym (fresh-by tabled (longer st) (limits-in st ok)))
      ∙ calls_by tabled (longer st) (six_samples tabled) st
      (λ accepted b x a. rw (accepted, a))
      (λ b c q. let r = refused-step tabled b c.settings c.slice q in (r.0, rw q r.1))
      cs [] u

  pub longer-shows : (cs : List Call) → Under st cs → (run_of (six_samples tabled) cs).report ≡ report_of (report_longer tabled st (accepted_samples cs))
  longer-shows cs u = ap (λ (r : Run). r.report) (longer-run cs u)

  longer-saved : (cs : List Call) → Under st cs → (a : List ℕ) → image_length ≤ length a
      → image_after saved_into (six_samples tabled) cs a ≡ image (record_of tabled (longer st) (accepted_samples cs))
  longer-saved cs u a enough =
      ap (λ (r : Run). take image_length (saved_into r.board a)) (longer-run cs u)
      ∙ saved-image (record_of tabled (longer st) (accepted_samples cs)) (nine-counters tabled (longer st) (accepted_samples cs)) a enough

-- ---- a ramp of 60001 steps: a return at nominal, and one such sample more

abbrev sample : Slice
sample = 1000 ∷ 1000 ∷ 1000 ∷ 60000 ∷ 1 ∷ 10000 ∷ 10000 ∷ []

abbrev call : Call
call = record { settings = longest_ramp; slice = sample }

abbrev given : History → Board
given h = record_of tabled (longer longest_ramp) h

pair-alike : given (sample ∷ sample ∷ []) ≡ with_ramp 1 (given (sample ∷ []))
unfolding settled record_of history_opened
pair-alike = refl

first-ramp : (given (sample ∷ [])).ramp ≡ 0
unfolding settled record_of history_opened
first-ramp = refl

pair-alone : RampAlone (image (given (sample ∷ []))) (image (given (sample ∷ sample ∷ [])))
pair-alone =
    subst (λ (b : Board). RampAlone (image (given (sample ∷ []))) (image b)) (sym pair-alike)
    (image-alone (given (sample ∷ [])) 1 (nine-counters tabled (longer longest_ramp) (sample ∷ [])) (omega (arith, first-ramp)) (omega arith)
    (λ same. absurd (omega (arith, first-ramp))))

-- for five steps more both shares are 0
pair-agrees : AgreeWithin 5 (report_longer tabled longest_ramp) (sample ∷ []) (sample ∷ sample ∷ [])
pair-agrees =
    let second = ap (λ (b : Board). b.ramp) pair-alike in
    histories-agree tabled (longer longest_ramp) (omega arith) 5 (sample ∷ []) (sample ∷ sample ∷ [])
    (pair-alike ∙ ap (λ (r : ℕ). with_ramp r (given (sample ∷ []))) (sym second))
    (subst₂ (SharesAgree 5 60001) (sym first-ramp) (sym second) (λ k l. omega arith))

-- both samples are accepted
samples-one : accepted_samples (call ∷ []) ≡ sample ∷ []
unfolding check_opened
samples-one = refl

samples-other : accepted_samples (call ∷ call ∷ []) ≡ sample ∷ sample ∷ []
unfolding check_opened
samples-other = refl

longer-untold : RampsUntoldBy saved_into (report_longer tabled) (six_samples tabled) 5
longer-untold =
    let one : Under longest_ramp (call ∷ []) = (inl refl, tt) in
    let other : Under longest_ramp (call ∷ call ∷ []) = (inl refl, (inl refl, tt)) in
    record {
      sheet = longest_ramp;
      accepted = longest-accepted;
      one = call ∷ [];
      other = call ∷ call ∷ [];
      under = (one, other);
      alone = λ a b ra rb. subst₂ RampAlone
          (sym (longer-saved longest_ramp longest-accepted (call ∷ []) one a ra ∙ ap (λ (h : History). image (given h)) samples-one))
          (sym (longer-saved longest_ramp longest-accepted (call ∷ call ∷ []) other b rb ∙ ap (λ (h : History). image (given h)) samples-other))
          pair-alone;
      agree = subst₂ (AgreeWithin 5 (report_longer tabled longest_ramp)) (sym samples-one) (sym samples-other) pair-agrees;
    }

pub longer-not-told : ¬ RampsToldBy saved_into (report_longer tabled) (six_samples tabled) 5
longer-not-told = untold-not-told saved_into (report_longer tabled) (six_samples tabled) 5 longer-untold

-- ---- the ramp count reported

pub counted-at-once : ¬ RampsUntoldBy saved_into (report_counted tabled) (ruled_by tabled) 0
counted-at-once u =
    let st = u.sheet in
    let h = accepted_samples u.one in
    let g = accepted_samples u.other in
    let saved = saved-is tabled tabled-sound st u.accepted in
    let alone = subst₂ RampAlone (saved u.one u.under.0 buffer room) (saved u.other u.under.1 buffer room) (u.alone buffer buffer room room) in
    counts-differ tabled st h g alone (ap (λ (r : Items). r.share) (u.agree [] zero-le tt))
