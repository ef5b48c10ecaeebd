-- A pointer and its parts own what a box of the state owns.
use Rattle.std.{proofs.alloc.Calls.Al, specs.Prelude.is_some}
use Rattle.std_alloc.proofs.BoxSteps.Form.{Bx}
use Rattle.std_heap.specs.contracts.GlobalAllocator.TheImpl.{ghosts, dict}
use Rattle.icysixel.proofs.Steps
use Rattle.std_heap.specs.contracts.Global as Heap
use Rattle.std_heap.proofs.Global.TheLaws as heap
use Rattle.icysixel.specs.contracts.state.State as State
use Rattle.icysixel.proofs.state.State.TheLaws as state
use Rattle.icysixel.specs.contracts.state_pointer.box_parts.BoxParts as BoxParts
use Rattle.icysixel.specs.contracts.state_pointer.StatePointer as StatePointer
use Steps.{◌≡◌, true, [], Option, Some, arith, nat_tests, impl, tnil, dnil, Slot, plain}

-- the allocator that an export has
abbrev pub al : Al
al = record {
  row = Heap.the_row;
  laws = heap.the_row_laws;
  g = ghosts;
  d = dict;
  drops = impl [] tnil dnil;
}

abbrev pub E : Bx
E = record { row = State.the_row; laws = state.the_row_laws; al = al }

abbrev pub FromParts : Slot 0
FromParts = plain (λ _. BoxParts.the_row State.the_row Heap.the_row ghosts)

abbrev pub FromPointer : Slot 0
FromPointer = plain (λ _. StatePointer.the_row)

abbrev pub FromHeap : Slot 0
FromHeap = plain (λ _. Heap.the_row)

-- the state that a pointer has
pub some_of : (o : Option State.the_row.Denot) → is_some o ≡ true
    → (x : State.the_row.Denot) × (o ≡ Some x)
some_of o held = grind (arith, nat_tests)
