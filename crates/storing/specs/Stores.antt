-- Spec 3.2: a sheet line's numbers stored into settings. Lines are counted from 0.
-- Assumes nothing.
use Rattle.std.specs.Prelude.{cond, List, ℕ, ltb, eqb, ℤ, nat_abs, set}
use Rattle.rules.specs.declared.Limit.{Limit}
use Rattle.rules.specs.declared.Span.{Span}
use Rattle.rules.specs.declared.Settings.{Settings}
use Rattle.points.specs.Points.{number_at, points_in}

abbrev pub limit_in : List ℤ → Limit
limit_in n = record { level = nat_abs (number_at n 0); clearing = nat_abs (number_at n 1) }

abbrev pub span_in : List ℤ → Span
span_in n = record { low = nat_abs (number_at n 0); high = nat_abs (number_at n 1) }

-- the settings with the numbers of line i
unfoldable pub with_numbers : Settings → ℕ → List ℤ → Settings
with_numbers st i n =
    record {
      trip = cond (ltb i 8) (set st.trip i (limit_in n)) st.trip;
      volts = cond (eqb i 8) (span_in n) st.volts;
      hertz = cond (eqb i 9) (span_in n) st.hertz;
      wait = cond (eqb i 10) (nat_abs (number_at n 0)) st.wait;
      ramp = cond (eqb i 10) (nat_abs (number_at n 1)) st.ramp;
      var = cond (eqb i 11) (points_in n 4) st.var;
      watt = cond (eqb i 12) (points_in n 2) st.watt;
    }
