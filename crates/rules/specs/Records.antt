-- Spec 4.3, 5 to 7: the board record, how a lent one is read, and what a step makes of it.
-- Assumes nothing.
use Rattle.std.specs.Prelude.{Bool, cond, List, [], ◌∷◌, ℕ, min, eqb, pos, get_or, replicate, Ok, Err}
use Rattle.rules.specs.Tests.{any}
use Rattle.rules.specs.Settings.{settings_check}
use Rattle.rules.specs.Samples.{Slice, Equipment, frequency, permitted, sample_check}
use Rattle.rules.specs.Counters.{Rule, counted, full, trip_rules, ready_rule, rules}
use Rattle.rules.specs.Regions.{region_of, is_continuous, ceases}
use Rattle.rules.specs.Droop.{no_side, side_after, known_side, held_after}
use Rattle.rules.specs.Service.{serves, ramped, status_of, in_service, share_of, recovery_top, recovering, vars_of, watts_of}
use Rattle.rules.specs.Reports.{Items, report_of}
use Rattle.rules.specs.declared.Settings.{Settings}
use Rattle.rules.specs.declared.Board.{Board}
use Rattle.rules.specs.declared.Refusal.{Refusal}
use Rattle.rules.specs.Answers.{SettingsCheck, SampleCheck}
use Rattle.rules.specs.declared.Stepped.{Stepped}

-- spec 5.3: a fresh board
unfoldable pub fresh : Board
fresh =
    record { status = 0; counters = replicate 9 0; ramp = 0; watts = 0; vars = pos 0; recovery = recovery_top; side = no_side; held = 0 }

-- something of each rule and its counter, in order
unfoldable pub each {ℓ} : {A : Type ℓ} → (Rule → ℕ → A) → List Rule → List ℕ → List A
each f [] ns = []
each f (r ∷ rs) [] = []
each f (r ∷ rs) (n ∷ ns) = f r n ∷ each f rs ns

-- spec 5.4: a counter is read as its top at the most
abbrev pub capped : Rule → ℕ → ℕ
capped r n = min r.top n

-- spec 5.4, whole; no rule looks at the vars
unfoldable pub read_as : Equipment → Settings → Board → Board
read_as e st b =
    record {
      status = cond (in_service b.status) b.status 0;
      counters = each capped (rules e st) b.counters;
      ramp = cond (in_service b.status) (min st.ramp b.ramp) 0;
      watts = min 10000 b.watts;
      vars = b.vars;
      recovery = min recovery_top b.recovery;
      side = cond (in_service b.status) (known_side b.side) no_side;
      held = cond (in_service b.status) (min 10000 b.held) 0;
    }

-- spec 6.13 to 7.8: the record, from: the nine counters, in service, the ramp count, the recovery count, the held power
unfoldable pub settled : Equipment → Settings → Slice → List ℕ → Bool → ℕ → ℕ → ℕ → Board
settled e st x counters on ramp recovery held =
    let status = status_of on (region_of e st x) (eqb ramp st.ramp) in
    record {
      status = status;
      counters = counters;
      ramp = ramp;
      watts = watts_of e st x status (share_of st ramp) recovery held;
      vars = vars_of e st x status;
      recovery = recovery;
      side = side_after on (frequency x);
      held = held;
    }

-- spec 6: what an accepted sample makes of a record that is in order
unfoldable pub ruled : Equipment → Settings → Slice → Board → Board
ruled e st x b =
    let counters = each (counted x) (rules e st) b.counters in
    let trip = any (each full (trip_rules e st) counters) in
    let ready = full (ready_rule e st) (get_or counters 8 0) in
    let was = in_service b.status in
    let on = serves was (permitted x) trip ready in
    settled e st x counters on (ramped was on (is_continuous (region_of e st x)) st.ramp b.ramp)
    (recovering was on (ceases (region_of e st x)) b.recovery)
    (held_after b.side (side_after on (frequency x)) b.held b.watts)

-- what an accepted sample makes of a lent record
unfoldable pub next : Equipment → Settings → Slice → Board → Board
next e st x b = ruled e st x (read_as e st b)

-- spec 8.1: what a record shows after a step
unfoldable pub shown : Equipment → Settings → Board → Items
shown e st b =
    record {
      status = b.status;
      bits = each full (rules e st) b.counters;
      share = share_of st b.ramp;
      recovery = b.recovery;
      side = b.side;
      held = b.held;
      watts = b.watts;
      vars = b.vars;
    }

-- spec 11.3, 11.4: a refusal gives no report and changes nothing
abbrev pub turned_away : Board → Refusal → Stepped
turned_away b cause = record { board = b; answer = Err cause }

abbrev pub on_sample : Equipment → Settings → Slice → Board → SampleCheck → Stepped
on_sample e st x b (Err cause) = turned_away b cause
on_sample e st x b (Ok ok) =
    record { board = next e st x b; answer = Ok (report_of (shown e st (next e st x b))) }

abbrev pub on_settings : Equipment → Settings → Slice → Board → SettingsCheck → Stepped
on_settings e st x b (Err away) = turned_away b away.cause
on_settings e st x b (Ok ok) = on_sample e st x b (sample_check x)

-- spec 4.3: the settings first, then the sample
unfoldable pub step_of : Equipment → Board → Settings → Slice → Stepped
step_of e b st x = on_settings e st x b (settings_check st)
