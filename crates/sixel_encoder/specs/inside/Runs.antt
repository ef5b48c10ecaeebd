-- Runs of equal sixels in a row, which the encoder counts some at a time. The tokens of a row do
-- not depend on how it counts.
use Rattle.std.specs.Prelude.{◌≡◌, ℕ, ◌+◌, ◌<◌, ◌≤◌, List, length, slice_index}

-- `count` sixels of the row from place `at` on have these bits
pub record IsRun (row : List ℕ) (at bits count : ℕ) : Type 0 where
  pub within : at + count ≤ length row
  pub same : (k : ℕ) → at ≤ k → k < at + count → slice_index row k ≡ bits
