-- The names of the library that proofs about raw pointers cite, passed on.
pub use Rattle.std.proofs.Common.{◌≡◌, ℕ, ◌<◌, ◌+◌, ◌-◌, ◌*◌, ◌^◌, Bool, true, List, [], ◌∷◌, ◌++◌}
pub use Rattle.std.proofs.Common.{Option, Some, None, refl, sym, ap, ◌∙◌, lit<, w64, arith}
pub use Rattle.std.proofs.lemmas.Bool.Decides.{nat_tests}
pub use Rattle.std.proofs.alloc.Calls.{token, Goes-blank, handle_tells}
pub use Rattle.std.proofs.raw_atomic.Walks.{proved, proved_at}
pub use Rattle.std_alloc.proofs.RcSteps.{Ptr-Good}
pub use mathlib.Core.Path.{subst}
pub use seplogic.Ra.Ura.{Ura}
pub use lib.Dec.{T}
pub use base.Logic.{ent, sep, emp, never, id⊢, fst∗}
pub use base.Fml.{GName, Fml, ftrue, fsep, flft, froom}
pub use mir.Syntax.{impl, named, tnil, dnil, ty_unit, ty_array, Ty}
pub use mir.Val.{Val, vint, vptr, vunit, vstruct, of_list, has_ty, WT}
pub use contract.Monad.{fact, fact_i}
pub use contract.Running.{tables}
pub use prog.Wp.{WpFn}
pub use types.Logic.{Logic, sem}
pub use types.Kit.{Item, Goal, Step, Sq, ‵, raw, prop, at_ret, ◌⊛◌, some, later, ◌$◌, ◌∵◌, !, qed}
pub use types.Kit.{move, keep, drop, use0, use1, use2, join, split, split3, regoal, rewrite, pick}
pub use types.Kit.{await, fpack, fsplit, fsplit3, fjoin, fpick, feq_i, feq_l, suffices, frame}
pub use types.Kit.{group, done}
pub use types.Part.{whole, sub, agg, look_in}
pub use types.Run.{stop, fld, load, addr, no_more, and_then, of_opd, lit, unit_lit, bin, first}
pub use types.Run.{blocks, branches, skips, exec, returns, enter}
pub use types.ByLocal.{alloc_all, pass_all, free_all, look_at, get, get_in, through, sets}
pub use types.ByLocal.{sets_last, lands_as, lands_last, env}
pub use denote.Builtin.{u8, unit, usize, RefOf}
pub use denote.Exit.{yes, no}
pub use denote.Laws.{Is}
pub use denote.Plain.{uint_Makes}
pub use denote.RawPtr.{Ptr, RawPtr, block_ptr, null_ptr, ptr_val, in_a_block, room_for, ◌+ₚ◌}
pub use denote.RattleType.{RattleType}
pub use denote.Ref.{MutRef, mut_vals, mut_Tells, shr_vals, shr_Tells}
pub use denote.Signature.{Slot, plain, mut_ref_to}
pub use denote.Steps.{heard, nothing, only, opens, owned}
pub use denote.Struct.Owning.{shape, to}
pub use denote.Struct.Struct.{Struct, Struct-Makes}
pub use denote.Triple.Call.{calls_at, calls_at_last}
pub use denote.Triple.Entry.{on_entry}
pub use denote.Triple.Spec.{triple_of}
pub use denote.Triple.Table.{framed}
pub use denote.Triple.Walked.{says, Stays, stay_dropped, walk_of, ends_at, Goes-dropped}
pub use denote.Triple.Clauses.{lasts}
