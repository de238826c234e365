-- A common run behind a recording is that run behind its history.
-- Assumes nothing.
use mathlib.Core.Path.{◌≡◌, refl, sym, ap, ◌∙◌}
use mathlib.Core.Bool.{true}
use mathlib.Core.List.{List, [], ◌∷◌, ◌++◌, append-nil, append_assoc}
use Prim.Native.Nat.{ℕ, ◌/◌}
use native.Mathlib.Omega.{arith}
use lib.ListN.{length, length-append}
use Rattle.rules.specs.Settings.{settings_accepted}
use Rattle.rules.specs.Samples.{Slice}
use Rattle.rules.specs.History.{History, followed_by}
use Rattle.rules.specs.declared.Settings.{Settings}
use Rattle.causes.specs.Calls.{Call, accepted_one, accepted_after, accepted_samples}
use Rattle.claims.specs.Printed.{joined}
use Rattle.claims.specs.TwoHistories.{AllAccepted}
use Rattle.laws.proofs.Accepted.{sample-right}
use Rattle.recording.specs.Recordings.{group_length, call_of, calls_of}
use Rattle.replay.specs.Demanded.{history_of, Whole, OneMore}
use Rattle.recording.proofs.Groups.{calls-more}

accepted-more : (cs : List Call) (c : Call) (h : History) → accepted_after h (cs ++ (c ∷ [])) ≡ accepted_one (accepted_after h cs) c
accepted-more [] c h = refl
accepted-more (d ∷ cs) c h = accepted-more cs c (accepted_one h d)

module _ (st : Settings) (ok : settings_accepted st ≡ true) where
  history-more : (s : List ℕ) (x : Slice) → OneMore s x → history_of st (s ++ x) ≡ x ∷ history_of st s
  history-more s x m =
      ap accepted_samples (calls-more st x (sample-right x m.accepted).seven (length s / group_length) s (omega (arith, m.whole)))
      ∙ accepted-more (calls_of st s) (call_of st x) [] ∙ rw (ok, m.accepted)

  pub history-run : (run : List Slice) (s : List ℕ) → Whole s → AllAccepted run → history_of st (s ++ joined run) ≡ followed_by (history_of st s) run
  history-run [] s w a = ap (history_of st) (append-nil s)
  history-run (x ∷ run) s w a =
      let seven : length x ≡ group_length = (sample-right x a.0).seven in
      let w' : Whole (s ++ x) = omega (arith, w, seven, length-append s x) in
      ap (history_of st) (sym (append_assoc s x (joined run))) ∙ history-run run (s ++ x) w' a.1
      ∙ ap (λ (h : History). followed_by h run) (history-more s x (record { whole = w; accepted = a.0 }))
