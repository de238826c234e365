-- The numbers seven by seven, and the calls that lend them.
-- Assumes nothing.
use mathlib.Core.Path.{◌≡◌, refl, sym, ap, ap₂, ◌∙◌}
use mathlib.Core.List.{List, [], ◌∷◌, ◌++◌, map}
use mathlib.Core.Logic.{inl}
use Prim.Native.Nat.{ℕ, zero, suc, ◌+◌, ◌-◌, ◌*◌, ◌/◌, ◌≤◌, ◌<◌, min}
use native.Mathlib.Decide.{dec_le}
use native.Mathlib.Omega.{arith}
use lib.ListN.{length, take, drop, length-append, length-drop, drop_of_length-le}
use lib.Seq.{take_at, drop_at, take_all, take-append-le, drop-append-le, drop-drop}
use Rattle.rules.specs.Samples.{Slice}
use Rattle.rules.specs.declared.Settings.{Settings}
use Rattle.causes.specs.Calls.{Call, Under}
use Rattle.recording.specs.Recordings.{group_length, next_groups, groups, call_of, calls_of, GroupsBySeven}

-- ---- groups

groups_none : groups [] ≡ []
unfolding groups
groups_none = refl

-- where there are numbers: the next seven, or what is left, and then the rest
groups-next : (s : List ℕ) → 0 < length s → groups s ≡ take group_length s ∷ groups (drop group_length s)
unfolding groups
groups-next s some = ap (λ (k : ℕ). next_groups k s) begun
  where
    begun : (length s + 6) / group_length ≡ suc ((length (drop group_length s) + 6) / group_length)
    begun = omega (arith, length-drop group_length s)

-- a group and the groups after it, where the numbers come apart there
groups-apart : (s : List ℕ) → 0 < length s → (x : Slice) (r : List ℕ) → take group_length s ≡ x → drop group_length s ≡ r → groups s ≡ x ∷ groups r
groups-apart s some x r front back = groups-next s some ∙ ap₂ (λ (y : Slice) (q : List ℕ). y ∷ groups q) front back

pub by-seven : GroupsBySeven groups
by-seven =
    record {
      none = groups_none;
      whole = λ x s seven.
          groups-apart (x ++ s) (omega (arith, length-append x s, seven)) x s (take_at x s group_length seven) (drop_at x s group_length seven);
      short = λ s some few.
          groups-apart s some s [] (take_all group_length s (omega arith)) (drop_of_length-le s {i = group_length} (omega arith))
          ∙ ap (λ (gs : List Slice). s ∷ gs) groups_none;
    }

-- ---- calls

module _ (st : Settings) where
  pub calls-none : calls_of st [] ≡ []
  unfolding calls_of
  calls-none = ap (map (call_of st)) groups_none

  pub calls-next : (s : List ℕ) → 0 < length s → calls_of st s ≡ call_of st (take group_length s) ∷ calls_of st (drop group_length s)
  unfolding calls_of
  calls-next s some = ap (map (call_of st)) (groups-next s some)

  -- every call lends the settings
  pub calls-under : (samples : List ℕ) → Under st (calls_of st samples)
  unfolding calls_of
  calls-under samples = by (groups samples)
    where
      by : (xs : List Slice) → Under st (map (call_of st) xs)
      by [] = tt
      by (x ∷ xs) = (inl refl, by xs)

  -- one sample more, behind whole ones
  pub calls-more : (x : Slice) → length x ≡ group_length → (k : ℕ) (s : List ℕ) → length s ≡ k * group_length
      → calls_of st (s ++ x) ≡ calls_of st s ++ (call_of st x ∷ [])
  calls-more x seven zero [] e =
      calls-next x (omega (arith, seven))
      ∙ ap₂ (λ (y : Slice) (r : List ℕ). call_of st y ∷ calls_of st r) (take_all group_length x (omega (arith, seven)))
      (drop_of_length-le x {i = group_length} (omega (arith, seven)))
      ∙ rw calls-none
  calls-more x seven zero (n ∷ s) e = absurd (omega arith)
  calls-more x seven (suc k) s e =
      calls-next (s ++ x) (omega (arith, length-append s x, seven))
      ∙ ap₂ (λ (y : Slice) (r : List ℕ). call_of st y ∷ calls_of st r) (take-append-le group_length s x (omega arith)) (drop-append-le group_length s x (omega arith))
      ∙ ap (λ (cs : List Call). call_of st (take group_length s) ∷ cs)
      (calls-more x seven k (drop group_length s) (omega (arith, length-drop group_length s)))
      ∙ rw (calls-next s (omega arith))

-- ---- a chunk of at most seven, taken off what is left

module _ (rest x next : List ℕ) (apart : rest ≡ x ++ next) (long : length x ≡ min group_length (length rest)) where
  lengths : length rest ≡ length x + length next
  lengths = ap length apart ∙ length-append x next

  chunk-first : take group_length rest ≡ x
  chunk-first = by (dec_le group_length (length rest))
    where
      by : Dec (group_length ≤ length rest) → take group_length rest ≡ x
      by (yes whole) = ap (take group_length) apart ∙ take_at x next group_length (omega (arith, long))
      by (no short) =
          take_all group_length rest (omega (arith, short)) ∙ sym (take_all (length x) rest (omega (arith, long, short)))
          ∙ ap (take (length x)) apart ∙ take_at x next (length x) refl

  chunk-rest : drop group_length rest ≡ next
  chunk-rest = by (dec_le group_length (length rest))
    where
      by : Dec (group_length ≤ length rest) → drop group_length rest ≡ next
      by (yes whole) = ap (drop group_length) apart ∙ drop_at x next group_length (omega (arith, long))
      by (no short) =
          drop_of_length-le rest {i = group_length} (omega (arith, short)) ∙ sym (drop_of_length-le rest {i = length x} (omega (arith, long, short)))
          ∙ ap (drop (length x)) apart ∙ drop_at x next (length x) refl

  pub chunk-called : (st : Settings) → 0 < length rest → calls_of st rest ≡ call_of st x ∷ calls_of st next
  chunk-called st some = calls-next st rest some ∙ ap₂ (λ (y : Slice) (r : List ℕ). call_of st y ∷ calls_of st r) chunk-first chunk-rest

  pub fewer : 0 < length rest → length next < length rest
  fewer some = omega (arith, lengths, long)
