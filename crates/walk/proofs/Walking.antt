-- What a hand walk cites of the logic, passed on under one name. It proves nothing.
-- Assumes nothing.

-- data
pub use mathlib.Core.Path.{◌≡◌, refl}
pub use mathlib.Core.Option.{some, none}
pub use mathlib.Core.List.{[], ◌∷◌, List, ◌++◌}
pub use Prim.Native.Nat.{ℕ}
pub use lib.Dec.{eqb, lit<}
pub use lib.ListN.{length}
pub use mathlib.Core.Bool.{not}
-- the machine
pub use mir.Syntax.{named, erased}
pub use mir.Val.{Val, vptr, vbool}
pub use prog.Memory.{Memory}
pub use prog.Routine.{Routine}
pub use prog.Wp.{Heap, Env, Calls, Loops, WpFn, Tables}
pub use sound.WpLaws.{FmC, fm_of}
-- assertions
pub use seplogic.Ra.Ura.{Ura}
pub use base.Logic.{SProp, ent, sep, emp, via, fst∗, id⊢}
pub use base.Fml.{Lft, Share, Fml, ftrue, flft}
pub use ghost.Atoms.{Atoms}
pub use types.Logic.{sem}
pub use contract.Monad.{Fun}
pub use contract.Running.{tables}
-- the calculus, and the steps of code
pub use types.Kit.{Item, Sq, runs, at_ret, ‵, raw, ◌⊛◌, ⋆, ◌$◌, ◌∵◌, !, qed, by, move, drop, use1, use2, split, join}
pub use types.Kit.{fsplit, fjoin, feq_l, suffices, frame, done}
pub use types.Run.{look, init, stop, hop, fld, from, load, lit, bin, addr, of_opd, and_then, no_more, land, assigns}
pub use types.Run.{first, branches, skips, exec, returns, returns_within, enter, alloc1, alloc0, params1, pass1, pass0, free0}
pub use types.Part.{whole, sub, look_in, agg}
-- types, references and contracts
pub use denote.Laws.{Is}
pub use denote.Builtin.{u8, u32}
pub use denote.Ref.{Bor, MutBor, at_last, shr_vals, mut_vals, mut_Tells, shr_Tells}
pub use denote.Slice.{slice_val, shr_slice_vals, mut_slice_vals, MutSlice, ShrSlice, finally, mut_slice_Tells, mut_slice_Lawful, shr_slice_Tells, shr_slice_Lawful}
pub use denote.Signature.{plain}
pub use denote.Steps.{nothing}
pub use denote.Triple.Statement.{Contract, Triple}
pub use denote.Triple.Entry.{on_entry}
pub use denote.Triple.Spec.{Meets, triple_of}
pub use denote.Triple.Table.{entered, cited}
pub use denote.Triple.Walked.{says, Stays, stay_ref, stay_none_ref, stay_none_slice, gave_slice, walk_of, ends_at}
pub use denote.Triple.Walked.{Goes-ref, Goes-none_ref, Goes-none_slice, Goes-gave_slice}
pub use denote.Triple.Clauses.{lasts}
pub use denote.Exit.{yes}
