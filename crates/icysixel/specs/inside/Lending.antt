-- What a handle and its pointer are when the borrow of the state that they lent ends.
use Rattle.std.specs.{Borrow.{Lends, LendsIf, MutBor, Fml}, Prelude.{◌≡◌, Option, Some, None}}
use Rattle.std.specs.Prelude.{is_some, nat_lt}
use Rattle.icysixel.specs.declared.{handle.Handle.Handle, state.State.State}
use Rattle.icysixel.specs.declared.state_pointer.StatePointer.{StatePointer}
use Rattle.icysixel.specs.contracts.state_pointer.StatePointer as pointer
use Rattle.icysixel.specs.contracts.handle.Handle as handle
use Rattle.icysixel.specs.contracts.state.State as state

-- the pointer with this state behind it
abbrev pub with_state : StatePointer → State → StatePointer
with_state p x = record p { state = Some x }

-- a pointer ends with the last value of the state behind it
abbrev pub LendsState : MutBor StatePointer → MutBor State → Fml
LendsState p x = Lends pointer.the_row state.the_row p x (with_state p.now)

-- the handle with this state behind it; an empty one stays
abbrev pub holding : (h : Handle) (before : Option State) → is_some before ≡ nat_lt 0 h.held → State
    → Handle
holding h None agrees x = h
holding h (Some before) agrees x = record h { pointer = with_state h.pointer x; agrees = agrees }

-- a handle ends with the last value of the state behind it, if there is one
abbrev pub LendsHeld : MutBor Handle → Option (MutBor State) → Fml
LendsHeld h x =
    LendsIf handle.the_row state.the_row h x (holding h.now h.now.pointer.state h.now.agrees) h.now
