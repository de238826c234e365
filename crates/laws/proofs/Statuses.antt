-- Which statuses are in service. Their table ends at the last status, and a number beyond it is read as tripped (spec 5.4).
-- Assumes nothing.
use mathlib.Core.Path.{◌≡◌, refl, ap}
use mathlib.Core.Bool.{Bool, true, false, cond}
use Prim.Native.Nat.{ℕ, suc, ◌<◌}
use native.Mathlib.Omega.{arith}
use lib.ListN.{length, get_or-eq_default}
use Rattle.rules.specs.Statuses.{StatusRow, status_row, statuses, top_status, status_at}
use Rattle.rules.specs.Service.{status_of, in_service, exports}
use Rattle.rules.specs.declared.Region.{Region}
use Rattle.rules.specs.declared.Region.TheVariants.{Continuous, Mandatory, Momentary, Cease}

pub rows-to-top : length statuses ≡ suc top_status
rows-to-top = refl

beyond-top : (status : ℕ) → top_status < status → status_at status ≡ status_row "" false false
beyond-top status h = get_or-eq_default statuses (status_row "" false false) {n = status} (omega (arith, rows-to-top))

pub no-service-beyond : (status : ℕ) → top_status < status → in_service status ≡ false
no-service-beyond status h = ap (λ (r : StatusRow). r.service) (beyond-top status h)

pub no-power-beyond : (status : ℕ) → top_status < status → exports status ≡ false
no-power-beyond status h = ap (λ (r : StatusRow). r.power) (beyond-top status h)

pub service-status : (on : Bool) (r : Region) (f : Bool) → in_service (status_of on r f) ≡ on
service-status false r f = refl
service-status true Continuous true = refl
service-status true Continuous false = refl
service-status true Mandatory f = refl
service-status true Momentary f = refl
service-status true Cease f = refl

-- a status that is read as tripped is not in service, and one that is kept is
pub kept-service : (status : ℕ) → in_service (cond (in_service status) status 0) ≡ in_service status
kept-service status = by (in_service status) refl
  where
    by : (b : Bool) → in_service status ≡ b → in_service (cond b status 0) ≡ b
    by true p = p
    by false p = refl
