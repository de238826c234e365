-- Records that differ in the ramp count alone: they step alike for as long as the shares of the two counts agree.
-- Assumes nothing.
use mathlib.Core.Path.{◌≡◌, refl, sym, ap, ap₂, ◌∙◌}
use mathlib.Core.Bool.{Bool, cond}
use mathlib.Core.List.{List, [], ◌∷◌}
use Prim.Native.Nat.{ℕ, zero, suc, ◌^◌, ◌≤◌, ◌<◌}
use native.Mathlib.Omega.{arith}
use lib.Dec.{eqb}
use lib.ListN.{length, get_or}
use Rattle.rules.specs.Tests.{any}
use Rattle.rules.specs.Samples.{Slice, Equipment, frequency, permitted}
use Rattle.rules.specs.Counters.{counted, full, trip_rules, ready_rule, rules}
use Rattle.rules.specs.Regions.{region_of, is_continuous}
use Rattle.rules.specs.Droop.{side_after}
use Rattle.rules.specs.Service.{serves, status_of, in_service, share_of, vars_of, watts_of}
use Rattle.rules.specs.Records.{each, capped, read_as, settled, ruled, next, shown}
use Rattle.rules.specs.History.{History, history_report}
use Rattle.rules.specs.Images.{image}
use Rattle.rules.specs.declared.Settings.{Settings}
use Rattle.rules.specs.declared.Board.{Board}
use Rattle.claims.specs.TripAndReturn.{record_of}
use Rattle.claims.specs.TwoHistories.{AgreeWithin}
use Rattle.claims.specs.RampPairs.{RampAlone}
use Rattle.theorems.proofs.Trace.{same-items, ramp-is}
use Rattle.laws.proofs.Shares.{share_at, SharesAgree, read-top, ramp-top, read-agree, ramped-agree, agree-now, full-alike, uncut}
use Rattle.theorems.proofs.Demand3.{stepped, stepped-shown}
use Rattle.laws.proofs.Images.{number-told}
use Rattle.theorems.proofs.RampBytes.{before-ramp, behind-ramp, ramp-bytes}

-- a record with another ramp count
abbrev pub with_ramp : ℕ → Board → Board
with_ramp r b =
    record {
      status = b.status;
      counters = b.counters;
      ramp = r;
      watts = b.watts;
      vars = b.vars;
      recovery = b.recovery;
      side = b.side;
      held = b.held;
    }

-- a settled record with another ramp count, where that is full alike and has the same share
pub settled-alike : (e : Equipment) (st : Settings) (x : Slice) (counters : List ℕ) (on : Bool) (r q recovery held : ℕ) → eqb r st.ramp ≡ eqb q st.ramp → share_of st r ≡ share_of st q
    → settled e st x counters on q recovery held ≡ with_ramp q (settled e st x counters on r recovery held)
unfolding settled
settled-alike e st x counters on r q recovery held full share = ap₂ made (sym full) (sym share)
  where
    made : Bool → ℕ → Board
    made f s =
        record {
          status = status_of on (region_of e st x) f;
          counters = counters;
          ramp = q;
          watts = watts_of e st x (status_of on (region_of e st x) f) s recovery held;
          vars = vars_of e st x (status_of on (region_of e st x) f);
          recovery = recovery;
          side = side_after on (frequency x);
          held = held;
        }

module _ (e : Equipment) (st : Settings) (low : 1 ≤ st.ramp) where
  -- counts within the ramp
  share-within : (r q : ℕ) → r ≤ st.ramp → q ≤ st.ramp → share_at st.ramp r ≡ share_at st.ramp q → share_of st r ≡ share_of st q
  share-within r q r-in q-in f = ap (share_of st) (sym (uncut st.ramp r r-in)) ∙ f ∙ ap (share_of st) (uncut st.ramp q q-in)

  full-within : (r q : ℕ) → r ≤ st.ramp → q ≤ st.ramp → share_at st.ramp r ≡ share_at st.ramp q → eqb r st.ramp ≡ eqb q st.ramp
  full-within r q r-in q-in f =
      ap (λ (n : ℕ). eqb n st.ramp) (sym (uncut st.ramp r r-in))
      ∙ full-alike st.ramp r q low f
      ∙ ap (λ (n : ℕ). eqb n st.ramp) (uncut st.ramp q q-in)

  abbrev after : Slice → ℕ → Board → Board
  after x r b = next e st x (with_ramp r b)

  -- what a step works out before it looks at the ramp: the counters, in service before and after
  abbrev counts : Slice → Board → List ℕ
  counts x b = each (counted x) (rules e st) (each capped (rules e st) b.counters)

  abbrev was : Board → Bool
  was b = in_service (cond (in_service b.status) b.status 0)

  abbrev on : Slice → Board → Bool
  on x b =
      serves (was b) (permitted x) (any (each full (trip_rules e st) (counts x b))) (full (ready_rule e st) (get_or (counts x b) 8 0))

  -- one step more, whatever the sample: again they differ in the ramp count alone, and their shares agree for a step less
  after-top : (x : Slice) (r : ℕ) (b : Board) → (after x r b).ramp ≤ st.ramp
  unfolding next ruled read_as settled
  after-top x r b = ramp-top (was b) (on x b) (is_continuous (region_of e st x)) st.ramp _ (read-top (in_service b.status) st.ramp r)

  after-agree : (x : Slice) (r q most : ℕ) (b : Board) → SharesAgree (suc most) st.ramp r q
      → SharesAgree most st.ramp (after x r b).ramp (after x q b).ramp
  unfolding next ruled read_as settled
  after-agree x r q most b f =
      ramped-agree (was b) (on x b) (is_continuous (region_of e st x)) most st.ramp _ _ (read-agree (in_service b.status) (suc most) st.ramp r q f)

  after-alike : (x : Slice) (r q most : ℕ) (b : Board) → SharesAgree most st.ramp (after x r b).ramp (after x q b).ramp
      → after x q b ≡ with_ramp (after x q b).ramp (after x r b)
  unfolding next ruled read_as settled
  after-alike x r q most b f =
      let now = agree-now most st.ramp (after x r b).ramp (after x q b).ramp f in
      settled-alike e st x (counts x b) (on x b) _ _ _ _ (full-within _ _ (after-top x r b) (after-top x q b) now) (share-within _ _ (after-top x r b) (after-top x q b) now)

  run_agree : (most : ℕ) (run : List Slice) → length run ≤ most → (r q : ℕ) (b : Board) → r ≤ st.ramp → q ≤ st.ramp
      → SharesAgree most st.ramp r q → shown e st (stepped e st (with_ramp r b) run) ≡ shown e st (stepped e st (with_ramp q b) run)
  unfolding shown
  run_agree most [] l r q b r-in q-in f =
      same-items refl refl (share-within r q r-in q-in (agree-now most st.ramp r q f)) refl refl refl refl refl
  run_agree zero (x ∷ run) l r q b r-in q-in f = absurd (omega arith)
  run_agree (suc most) (x ∷ run) l r q b r-in q-in f =
      let later = after-agree x r q most b f in
      run_agree most run (omega arith) (after x r b).ramp (after x q b).ramp (after x r b) (after-top x r b) (after-top x q b) later
      ∙ ap (λ (c : Board). shown e st (stepped e st c run)) (sym (after-alike x r q most b later))

  -- histories whose records differ in the ramp count alone agree for as long as the shares of these counts would, both growing
  pub histories-agree : (most : ℕ) (h g : History) → record_of e st g ≡ with_ramp (record_of e st g).ramp (record_of e st h)
      → SharesAgree most st.ramp (record_of e st h).ramp (record_of e st g).ramp → AgreeWithin most (history_report e st) h g
  histories-agree most h g alike f run l a =
      sym (stepped-shown e st run h)
      ∙ run_agree most run l (record_of e st h).ramp (record_of e st g).ramp (record_of e st h) (top h) (top g) f
      ∙ ap (λ (c : Board). shown e st (stepped e st c run)) (sym alike)
      ∙ stepped-shown e st run g
    where
      top : (k : History) → (record_of e st k).ramp ≤ st.ramp
      top k = omega (arith, ramp-is e st k)

-- their images, where the counts differ
pub image-alone : (b : Board) (r : ℕ) → length b.counters ≡ 9 → b.ramp < 256 ^ 4 → r < 256 ^ 4 → ¬ (b.ramp ≡ r) → RampAlone (image b) (image (with_ramp r b))
image-alone b r nine hb hr d =
    record {
      before = before-ramp b nine ∙ sym (before-ramp (with_ramp r b) nine);
      behind = behind-ramp b nine ∙ sym (behind-ramp (with_ramp r b) nine);
      ramp = λ same. d (number-told 4 b.ramp r hb hr (sym (ramp-bytes b nine) ∙ same ∙ ramp-bytes (with_ramp r b) nine));
    }
