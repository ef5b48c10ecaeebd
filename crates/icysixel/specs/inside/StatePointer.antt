-- What a pointer owns: the same as a box of the state that it leads to, or nothing.
use Rattle.std.specs.{Coded.coded_option, Global.Global, Prelude.{Option, Some, None}}
use base.{Fml.{Fml, ftrue}, Stored.Coded}
use denote.RawPtr.{Ptr}
use Rattle.std.specs.Box.Ownership.{box_owns}
use Rattle.std_heap.specs.contracts.GlobalAllocator.TheImpl.{ghosts}
use Rattle.icysixel.specs.contracts.state.State.{the_row}

abbrev pub pointer_owns : Global → Ptr → Option the_row.Denot → Fml
pointer_owns alloc at None = ftrue
pointer_owns alloc at (Some state) = box_owns (ghosts.dealloc_token alloc) the_row at state

abbrev pub state_coded : Coded (Option the_row.Denot)
state_coded = coded_option the_row.coded
