-- Spec 6.1 to 6.6: the nine counters, each by one rule.
-- Assumes nothing.
use Rattle.std.specs.Prelude.{Bool, cond, List, [], ◌∷◌, ◌++◌, ℕ, suc, min, max, ltb, eqb}
use Rattle.rules.specs.Tests.{all, within}
use Rattle.rules.specs.Settings.{limit_at}
use Rattle.rules.specs.Samples.{Slice, Equipment, frequency, permitted, lowest, highest}
use Rattle.rules.specs.declared.Settings.{Settings}

-- what a counter counts, and its top
pub record Rule : Type 0 where
  pub counts : Slice → Bool
  pub top : ℕ

-- spec 6.1, 6.4: one more if the sample counts, up to the top; otherwise 0
abbrev pub counted : Slice → Rule → ℕ → ℕ
counted x r n = cond (r.counts x) (min r.top (suc n)) 0

-- spec 6.3, 6.5: the bit of a counter
abbrev pub full : Rule → ℕ → Bool
full r n = eqb n r.top

-- ---- the eight limits

pub data Kind : Type 0 where
  undervoltage overvoltage underfrequency overfrequency : Kind

-- spec 6.2: a limit is broken, strictly
unfoldable pub broken : Equipment → Kind → ℕ → Slice → Bool
broken e undervoltage level x = ltb (lowest e x) level
broken e overvoltage level x = ltb level (highest e x)
broken e underfrequency level x = ltb (frequency x) level
broken e overfrequency level x = ltb level (frequency x)

-- spec 6.1: limit i of the sheet, with its clearing time as the top
abbrev pub limit_rule : Equipment → Settings → Kind → ℕ → Rule
limit_rule e st k i = record { counts = broken e k (limit_at st i).level; top = (limit_at st i).clearing }

-- in sheet order: uv1 uv2 ov1 ov2 uf1 uf2 of1 of2
abbrev pub kinds : List Kind
kinds =
    undervoltage
    ∷ undervoltage
    ∷ overvoltage
    ∷ overvoltage
    ∷ underfrequency
    ∷ underfrequency
    ∷ overfrequency
    ∷ overfrequency
    ∷ []

-- the rules of the limits of these kinds, from limit i on
abbrev pub limit_rules : Equipment → Settings → ℕ → List Kind → List Rule
limit_rules e st i [] = []
limit_rules e st i (k ∷ ks) = limit_rule e st k i ∷ limit_rules e st (suc i) ks

abbrev pub trip_rules : Equipment → Settings → List Rule
trip_rules e st = limit_rules e st 0 kinds

-- ---- the ninth counter

-- spec 6.4: the enter-service criteria
unfoldable pub in_range : Equipment → Settings → Slice → Bool
in_range e st x =
    all (permitted x
    ∷ within st.volts.low st.volts.high (lowest e x)
    ∷ within st.volts.low st.volts.high (highest e x)
    ∷ within st.hertz.low st.hertz.high (frequency x)
    ∷ [])

-- spec 6.4: its top is the return wait, at least 1
abbrev pub ready_rule : Equipment → Settings → Rule
ready_rule e st = record { counts = in_range e st; top = max 1 st.wait }

-- all nine: the limits in sheet order, then ready (spec 8.1)
abbrev pub rules : Equipment → Settings → List Rule
rules e st = trip_rules e st ++ (ready_rule e st ∷ [])
