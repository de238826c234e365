-- `sheet::read` meets its contract. The loop's invariant: i lines are read, and the rest is read from here on (`Reading.antt`).
-- Assumes nothing.
use Rattle.std.specs.Prelude.{Err}
use mathlib.Core.Path.{◌≡◌, sym, ap, subst, ◌∙◌}
use mathlib.Core.List.{List, []}
use Prim.Native.Nat.{ℕ, ◌+◌, ◌≤◌}
use native.Mathlib.Omega.{arith}
use lib.ListN.{length}
use borrow.Author.Rules.{rules}
use Rattle.rules.specs.Refusals.{settings_number}
use Rattle.rules.specs.declared.SheetRefusal.{SheetRefusal}
use Rattle.rules.specs.declared.Refusal.TheVariants.{Form}
use Rattle.basics.proofs.Refusals.{none-refused}
use Rattle.rules.specs.Sheets.{settings_of, read_sheet}
use Rattle.laws.proofs.SheetCauses.{sheets-refused-rightly}
use Rattle.sheet.specs.Outcomes.{Gives, Numbered, SheetGiven}
use Rattle.sheet.specs.declared.SheetOutcome.{SheetOutcome}
use Rattle.sheet.proofs.Reading.{Going, beginning, unended, goes_on, stops, finished}
use Rattle.sheet.proofs.read.Goals as goal

by-cause : (s : List ℕ) → Numbered s (read_sheet s).check
by-cause s =
    let right = sheets-refused-rightly in
    record {
      refused = right.refuses s;
      accepted = (λ e. (right.accepts s).0 (none-refused (read_sheet s).check e), λ none. ap settings_number ((right.accepts s).1 none));
    }

-- the rules' reading, and so its number and line
given : (s : List ℕ) (r : SheetOutcome) → Gives r (read_sheet s) → SheetGiven s r
given s r e = record { gives = e; numbered = subst (Numbered s) (sym e.check) (by-cause s) }

-- the same of a sheet refused at a place
record Turned (s : List ℕ) (r : SheetOutcome) : Type 0 where
  pub sheet_given : SheetGiven s r
  pub start_in_bounds : r.start ≤ length s

turned : (s : List ℕ) (at : ℕ) (why : SheetRefusal) (r : SheetOutcome) → r ≡ record { check = Err why; settings = settings_of []; start = at } → at ≤ length s
    → Gives (record { check = Err why; settings = settings_of []; start = at }) (read_sheet s) → Turned s r
turned s at why r e inside g = subst (Turned s) (sym e) (record { sheet_given = given s _ g; start_in_bounds = inside })

pub loop-i-init : goal.loop-i-init
loop-i-init c =
    beginning c.args.s.now c.no_settings-settings.result c.no_settings-settings.ensures

pub returns-then-end-s : goal.returns-then-end-s
returns-then-end-s c =
    let w = c.loop-i in
    let s = c.args.s.now in
    let end = c.line_end-end in
    let g = unended s w.settings w.at w.i end.result w.invariant (omega arith) end.ensures.value end.ensures.s_value (omega arith) in
    let away : SheetRefusal = record { cause = Form; line = w.i + 1 } in
    let t = turned s w.at away c.refused_at.result (rw (← c.formless.ensures) c.refused_at.ensures) w.invariant.inside g in
    record { sheet_given = t.sheet_given; start_in_bounds = t.start_in_bounds }

pub loop-i-preserved : goal.loop-i-preserved
loop-i-preserved c =
    let w = c.loop-i in
    let s = c.args.s.now in
    let end = c.line_end-end in
    goes_on s w.settings w.at w.i end.result w.invariant (omega arith) end.ensures.value end.ensures.s_value (omega arith)
    c.in-Ok.next (sym c.read_line.ensures ∙ c.in-Ok.is)

pub returns-in-Err : goal.returns-in-Err
returns-in-Err c =
    let w = c.loop-i in
    let s = c.args.s.now in
    let end = c.line_end-end in
    let g = stops s w.settings w.at w.i end.result w.invariant (omega arith) end.ensures.value end.ensures.s_value (omega arith)
    c.in-Err.away (sym c.read_line.ensures ∙ c.in-Err.is) in
    let t = turned s w.at c.in-Err.away.why c.refused_at-in-Err.result c.refused_at-in-Err.ensures w.invariant.inside g in
    record { sheet_given = t.sheet_given; start_in_bounds = t.start_in_bounds }

pub returns : goal.returns
returns c =
    let w = c.loop-i in
    let s = c.args.s.now in
    record { sheet_given = given s _ (finished s w.settings w.at w.i w.invariant (omega arith)); start_in_bounds = w.invariant.inside }
