-- What is claimed of a replay holds of (ruled_by e) with any equipment that is sound.
-- Assumes nothing.
use Rattle.std.specs.Prelude.{Ok, Err}
use mathlib.Core.Path.{◌≡◌, refl, sym, ap, subst, ◌∙◌}
use mathlib.Core.Bool.{true}
use mathlib.Core.Logic.{inl, ◌↔◌}
use mathlib.Core.List.{List, [], ◌∷◌, ◌++◌}
use Prim.Native.Nat.{ℕ, zero, suc, ◌/◌, ◌≤◌, ◌<◌}
use native.Mathlib.Omega.{arith}
use lib.ListN.{length, take, drop}
use Rattle.rules.specs.Settings.{settings_check, settings_passed, settings_accepted}
use Rattle.rules.specs.Samples.{Slice, Equipment}
use Rattle.rules.specs.Reports.{report_of}
use Rattle.rules.specs.History.{History, followed_by, history_report}
use Rattle.rules.specs.Images.{image_length, saved_into}
use Rattle.rules.specs.declared.Settings.{Settings}
use Rattle.rules.specs.declared.Board.{Board}
use Rattle.rules.specs.Answers.{SettingsCheck, settings_refused}
use Rattle.causes.specs.Calls.{Call, Program, Run, ruled_by, called, called_all, run_of}
use Rattle.claims.specs.Sound.{Sound}
use Rattle.claims.specs.TripAndReturn.{Next, TripAndReturn}
use Rattle.claims.specs.Printed.{joined}
use Rattle.claims.specs.TwoHistories.{AllAccepted, Agree}
use Rattle.basics.proofs.Refusals.{number-bounds}
use Rattle.laws.proofs.Accepted.{sample-right}
use Rattle.laws.proofs.FirstCause.{refuses-rightly}
use Rattle.theorems.proofs.Trace.{counters-are}
use Rattle.theorems.proofs.Demand2.{demand2}
use Rattle.theorems.proofs.Demand3.{demand3}
use Rattle.theorems.proofs.Bits.{reports-items}
use Rattle.recording.specs.Recordings.{group_length, call_of, calls_of, run_over}
use Rattle.replay.specs.Replays.{replay_number, unless_refused, replayed_by, replayed_into_by}
use Rattle.replay.specs.Demanded.{history_of, Lends, Whole, OneMore, ReplaysRightly}
use Rattle.replay.specs.declared.Replayed.{Replayed}
use Rattle.recording.proofs.Groups.{calls-under, calls-more}
use Rattle.replay.proofs.Runs.{history-run}
use Rattle.replay.proofs.Answering.{kept, given, by-settings, number-0, number-first}

-- ---- where it is refused

module _ (e : Equipment) (st : Settings) (samples buffer : List ℕ) (away : 0 < replay_number st buffer) where
  pub no-samples : (replayed_by e st samples buffer).accepted ≡ 0
  unfolding replayed_by
  no-samples = kept (replay_number st buffer) _ 0 away

  pub buffer-kept : replayed_into_by e st samples buffer ≡ buffer
  unfolding replayed_into_by
  buffer-kept = kept (replay_number st buffer) _ buffer away

-- ---- where it is not

module _ (e : Equipment) (st : Settings) (samples buffer : List ℕ) (lends : Lends st buffer) where
  goes_on : replay_number st buffer ≡ 0
  goes_on = number-0 st samples buffer lends.accepted lends.room

  report-is : (replayed_by e st samples buffer).report ≡ (run_over e st samples).report
  unfolding replayed_by
  report-is = given (replay_number st buffer) _ _ goes_on

  count-is : (replayed_by e st samples buffer).accepted ≡ length (history_of st samples)
  unfolding replayed_by
  count-is = given (replay_number st buffer) _ _ goes_on

  into-is : replayed_into_by e st samples buffer ≡ saved_into (run_over e st samples).board buffer
  unfolding replayed_into_by
  into-is = given (replay_number st buffer) _ _ goes_on

-- ---- one sample more

run_more : (p : Program) (cs : List Call) (c : Call) (r : Run) → called_all p r (cs ++ (c ∷ [])) ≡ called p (called_all p r cs) c
run_more p [] c r = refl
run_more p (d ∷ cs) c r = run_more p cs c (called p r d)

module _ (e : Equipment) (st : Settings) (samples : List ℕ) (x : Slice) (more : OneMore samples x) where
  more-is : run_over e st (samples ++ x) ≡ called (ruled_by e) (run_over e st samples) (call_of st x)
  more-is =
      ap (run_of (ruled_by e)) (calls-more st x (sample-right x more.accepted).seven (length samples / group_length) samples (omega (arith, more.whole)))
      ∙ run_more (ruled_by e) (calls_of st samples) (call_of st x) (run_of (ruled_by e) [])

  next-is : settings_accepted st ≡ true → Next st (calls_of st samples) (call_of st x)
  next-is ok = record { under = calls-under st samples; lends = inl refl; accepted = rw (ok, more.accepted) }

-- ---- the claims

module _ (e : Equipment) (sound : Sound e) where
  service : (st : Settings) → settings_accepted st ≡ true → TripAndReturn e (ruled_by e) st
  service st ok = demand2 e sound st ok

  nine-counters : (st : Settings) (samples : List ℕ) → settings_accepted st ≡ true → length (run_over e st samples).board.counters ≡ 9
  nine-counters st samples ok =
      ap (λ (b : Board). length b.counters) ((service st ok).keeps (calls_of st samples) (calls-under st samples))
      ∙ ap length (counters-are e st (history_of st samples))

  rest-kept : (st : Settings) (samples buffer : List ℕ) → drop image_length (replayed_into_by e st samples buffer) ≡ drop image_length buffer
  unfolding replayed_into_by
  rest-kept st samples buffer = by (replay_number st buffer) refl
    where
      accepted : (check : SettingsCheck) → settings_check st ≡ check → replay_number st buffer ≡ 0 → settings_passed check ≡ true
      accepted (Ok ok) told is = refl
      accepted (Err away) told is =
          absurd (omega (arith, is, by-settings st samples buffer (settings_refused away.cause away.line) told, (number-bounds away.cause).0))

      by : (n : ℕ) → replay_number st buffer ≡ n
          → drop image_length (unless_refused n (saved_into (run_over e st samples).board buffer) buffer) ≡ drop image_length buffer
      by zero is =
          (refuses-rightly e).save-rest (run_over e st samples).board buffer (nine-counters st samples (accepted (settings_check st) refl is))
      by (suc n) is = refl

  -- two recordings of whole samples, and the reports with a common run behind each
  module _ (st : Settings) (ss ts a b : List ℕ) (la : Lends st a) (lb : Lends st b) where
    images : (take image_length (replayed_into_by e st ss a) ≡ take image_length (replayed_into_by e st ts b)) ↔ Agree e st (history_of st ss) (history_of st ts)
    images =
        rw (into-is e st ss a la, into-is e st ts b lb)
        (demand3 e sound st la.accepted (calls_of st ss) (calls_of st ts) (calls-under st ss) (calls-under st ts) a b la.room lb.room)

    shown : (samples buffer : List ℕ) → Lends st buffer → Whole samples → (run : List Slice) → AllAccepted run
        → (replayed_by e st (samples ++ joined run) buffer).report ≡ report_of (history_report e st (followed_by (history_of st samples) run))
    shown samples buffer l w run all_of =
        report-is e st (samples ++ joined run) buffer l
        ∙ (service st l.accepted).shows (calls_of st (samples ++ joined run)) (calls-under st (samples ++ joined run))
        ∙ ap (λ (h : History). report_of (history_report e st h)) (history-run st l.accepted run samples w all_of)

    told-apart : Whole ss → Whole ts
        → (take image_length (replayed_into_by e st ss a) ≡ take image_length (replayed_into_by e st ts b))
        ↔ ((run : List Slice) → length run ≤ 100000 → AllAccepted run
        → (replayed_by e st (ss ++ joined run) a).report ≡ (replayed_by e st (ts ++ joined run) b).report)
    told-apart ws wt = (
      (λ same run few all_of. shown ss a la ws run all_of ∙ ap report_of (images.0 same run few all_of) ∙ sym (shown ts b lb wt run all_of)),
      (λ alike. images.1 (λ run few all_of.
          (reports-items e st _ _).0 (sym (shown ss a la ws run all_of) ∙ alike run few all_of ∙ shown ts b lb wt run all_of))),
    )

  pub replays-rightly : ReplaysRightly e (replayed_by e) (replayed_into_by e)
  unfolding replayed_by
  replays-rightly =
      record {
        refuses = λ st samples buffer. number-first st buffer;
        none = no-samples e;
        keeps = buffer-kept e;
        shows = λ st samples buffer l. report-is e st samples buffer l ∙ (service st l.accepted).shows (calls_of st samples) (calls-under st samples);
        counts = count-is e;
        trips = λ st samples x buffer l m.
            rw (report-is e st samples buffer l, report-is e st (samples ++ x) buffer l, more-is e st samples x m)
            ((service st l.accepted).trips (calls_of st samples) (call_of st x) (next-is e st samples x m l.accepted));
        returns = λ st samples x buffer l m.
            rw (report-is e st samples buffer l, report-is e st (samples ++ x) buffer l, more-is e st samples x m)
            ((service st l.accepted).returns (calls_of st samples) (call_of st x) (next-is e st samples x m l.accepted));
        returns-continuous = λ st samples x buffer l m.
            rw (report-is e st samples buffer l, report-is e st (samples ++ x) buffer l, more-is e st samples x m)
            ((service st l.accepted).returns-continuous (calls_of st samples) (call_of st x) (next-is e st samples x m l.accepted));
        images = images;
        told-apart = told-apart;
        rest = rest-kept;
      }

-- ---- another function, with the same numbers and counts, and the same reports where it is not refused

module _ (e : Equipment) (answer other : Settings → List ℕ → List ℕ → Replayed) (into : Settings → List ℕ → List ℕ → List ℕ)
    (numbers : (st : Settings) (samples buffer : List ℕ) → (other st samples buffer).number ≡ (answer st samples buffer).number)
    (counts : (st : Settings) (samples buffer : List ℕ) → (other st samples buffer).accepted ≡ (answer st samples buffer).accepted)
    (reports : (st : Settings) (samples buffer : List ℕ) → Lends st buffer → (other st samples buffer).report ≡ (answer st samples buffer).report) where
  refused-too : (st : Settings) (samples buffer : List ℕ) → 0 < (other st samples buffer).number → 0 < (answer st samples buffer).number
  refused-too st samples buffer h = subst (λ (n : ℕ). 0 < n) (numbers st samples buffer) h

  pub as-rightly : ReplaysRightly e answer into → ReplaysRightly e other into
  as-rightly right =
      record {
        refuses = λ st samples buffer. numbers st samples buffer ∙ right.refuses st samples buffer;
        none = λ st samples buffer h. counts st samples buffer ∙ right.none st samples buffer (refused-too st samples buffer h);
        keeps = λ st samples buffer h. right.keeps st samples buffer (refused-too st samples buffer h);
        shows = λ st samples buffer l. reports st samples buffer l ∙ right.shows st samples buffer l;
        counts = λ st samples buffer l. counts st samples buffer ∙ right.counts st samples buffer l;
        trips = λ st samples x buffer l m. rw (reports st samples buffer l, reports st (samples ++ x) buffer l) (right.trips st samples x buffer l m);
        returns = λ st samples x buffer l m. rw (reports st samples buffer l, reports st (samples ++ x) buffer l) (right.returns st samples x buffer l m);
        returns-continuous = λ st samples x buffer l m.
            rw (reports st samples buffer l, reports st (samples ++ x) buffer l) (right.returns-continuous st samples x buffer l m);
        images = right.images;
        told-apart = λ st ss ts a b la lb ws wt. (
          (λ same run few all_of. reports st (ss ++ joined run) a la ∙ (right.told-apart st ss ts a b la lb ws wt).0 same run few all_of
              ∙ sym (reports st (ts ++ joined run) b lb)),
          (λ alike. (right.told-apart st ss ts a b la lb ws wt).1 (λ run few all_of.
              sym (reports st (ss ++ joined run) a la) ∙ alike run few all_of ∙ reports st (ts ++ joined run) b lb)),
        );
        rest = right.rest;
      }
