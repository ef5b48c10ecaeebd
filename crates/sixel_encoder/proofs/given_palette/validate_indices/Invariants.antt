use Rattle.std.proofs.Common.{◌≡◌, ◌<◌, ℕ, false}
use Rattle.sixel_encoder.specs.IndexedDrawing.{is_past}
use Rattle.sixel_encoder.proofs.given_palette.validate_indices.Given as goal

abbrev pub invariant-loop-pixel : goal.invariant-loop-pixel
invariant-loop-pixel l =
    (k : ℕ) → k < l.pixel → is_past l.pixels l.indices l.colors k ≡ false
