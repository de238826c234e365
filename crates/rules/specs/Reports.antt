-- Spec 8: what a report holds.
-- Assumes nothing.
use Rattle.std.specs.Prelude.{Bool, cond, List, [], ◌∷◌, ℕ, ◌+◌, ◌*◌, ℤ}
use Rattle.rules.specs.declared.Report.{Report}

-- spec 8.1: a report's items
pub record Items : Type 0 where
  pub status : ℕ
  pub bits : List Bool
  pub share : ℕ
  pub recovery : ℕ
  pub side : ℕ
  pub held : ℕ
  pub watts : ℕ
  pub vars : ℤ

-- spec 8.3: bits as one number, the first highest, put after the bits of n
abbrev pub packed_after : ℕ → List Bool → ℕ
packed_after n [] = n
packed_after n (b ∷ bs) = packed_after (2 * n + cond b 1 0) bs

-- a report, with its bits as one number
unfoldable pub report_of : Items → Report
report_of i =
    record {
      status = i.status;
      bits = packed_after 0 i.bits;
      share = i.share;
      recovery = i.recovery;
      side = i.side;
      held = i.held;
      watts = i.watts;
      vars = i.vars;
    }
