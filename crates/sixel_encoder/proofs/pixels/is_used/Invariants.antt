use Rattle.std.proofs.Common.{◌≡◌, ℕ, ◌<◌, ◌≤◌, None}
use Rattle.sixel_encoder.specs.inside.Indexed.{entry_of}
use Rattle.sixel_encoder.proofs.pixels.is_used.Given as goal

abbrev pub invariant-loop-pixel : goal.invariant-loop-pixel
invariant-loop-pixel l =
    (k : ℕ) → l.start ≤ k → k < l.pixel
    → entry_of l.image.pixels.now l.image.indices.now k ≡ None
