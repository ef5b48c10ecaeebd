-- The ownership of a block with bytes in it: that of a vector, which is nothing without capacity.
use Rattle.std.specs.{Allocator.block_with_items, Global.Global, Prelude.{ℕ, List}}
use base.Fml.{Fml}
use denote.{Builtin.u8, RawPtr.Ptr}
use Rattle.std.specs.Vec.Ownership.{has_block, owns_if}
use Rattle.std_heap.specs.contracts.GlobalAllocator.TheImpl.{ghosts}

abbrev pub bytes_own : Global → Ptr → ℕ → ℕ → List ℕ → Fml
bytes_own alloc at len capacity bytes =
    owns_if (has_block capacity)
    (block_with_items (ghosts.dealloc_token alloc) u8 at len capacity bytes)
