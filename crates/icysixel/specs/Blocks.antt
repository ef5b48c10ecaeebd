-- A block of memory that the library transfers to C: where it begins, its length and its capacity.
use Rattle.std.specs.Prelude.{◌≡◌, ℕ}
use denote.RawPtr.{Ptr, null_ptr}

-- there is none: C receives a null pointer and two zeros
abbrev pub IsNoBlock : Ptr → ℕ → ℕ → Type 0
IsNoBlock at len capacity = (at ≡ null_ptr) × ((len ≡ 0) × (capacity ≡ 0))
