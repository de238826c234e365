-- Spec 13.13: shams that the two claims about ramp counts must stop.
-- Assumes nothing.
use Rattle.std.specs.Prelude.{cond, ◌&&◌, suc, min, Ok}
use Rattle.rules.specs.Settings.{settings_accepted}
use Rattle.rules.specs.Samples.{Slice, Equipment, sample_accepted}
use Rattle.rules.specs.Reports.{Items, report_of}
use Rattle.rules.specs.Records.{fresh, next, shown, step_of}
use Rattle.rules.specs.History.{History, climbed, history_report}
use Rattle.rules.specs.declared.Settings.{Settings}
use Rattle.rules.specs.declared.Board.{Board}
use Rattle.rules.specs.declared.Stepped.{Stepped}
use Rattle.causes.specs.Calls.{Program}

-- a sheet with its ramp a step longer
abbrev pub longer : Settings → Settings
longer st =
    record { trip = st.trip; volts = st.volts; hertz = st.hertz; wait = st.wait; ramp = suc st.ramp; var = st.var; watt = st.watt }

-- a board that refuses as ours does, and follows the rules with every ramp a step longer than its sheet has it: 60001 where that says 60000
abbrev on_longer : Equipment → Settings → Slice → Board → Stepped
on_longer e st x b =
    let after = next e (longer st) x b in
    record { board = after; answer = Ok (report_of (shown e (longer st) after)) }

abbrev pub six_samples : Equipment → Program
six_samples e =
    record { start = fresh; step = λ b st x. cond (settings_accepted st && sample_accepted x) (on_longer e st x b) (step_of e b st x) }

-- the reports of histories with such a ramp; that board's are these: `longer-shows` of `ShamRampsCaught`
abbrev pub report_longer : Equipment → Settings → History → Items
report_longer e st h = history_report e (longer st) h

-- reports with the ramp count in the share's place
abbrev pub report_counted : Equipment → Settings → History → Items
report_counted e st h =
    let r = history_report e st h in
    record { status = r.status; bits = r.bits; share = min st.ramp (climbed e st h); recovery = r.recovery; side = r.side; held = r.held; watts = r.watts; vars = r.vars }
