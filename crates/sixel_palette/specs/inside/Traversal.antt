-- The state of a farthest-first traversal: the nearest entries so far, and the buckets.
use Rattle.std.specs.Prelude.{◌≡◌, ℕ, List, length}
use Rattle.sixel_palette.specs.declared.palette.farthest.Traversal.{Traversal}
use Rattle.sixel_palette.specs.inside.{Buckets.AreBuckets, Nearest.AreNearest}

-- each code has its distance and palette index, and the buckets are those of the codes
pub record IsTraversal (codes : List ℕ) (traversal : Traversal) : Type 0 where
  pub squares : length traversal.squares.items ≡ length codes
  pub indices : length traversal.indices.items ≡ length codes
  pub buckets : AreBuckets codes traversal.squares.items traversal.buckets.items

-- these are the entries that the colors' distances were relaxed by
abbrev pub HasRelaxed : List (List ℕ) → List ℕ → Traversal → Type 0
HasRelaxed entries codes traversal =
    AreNearest entries codes traversal.squares.items traversal.indices.items
