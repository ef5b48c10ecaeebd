-- What is wrong with the sizes of a picture. From the limits of sixel_base: a side ends at a
-- million, and the area at the limit of pixels.
use Rattle.std.specs.Prelude.{ℕ, ◌*◌, ◌<◌, ◌≤◌, ◌⊎◌}
use Rattle.sixel_base.specs.{Fault.{IsFault, Malformed, TooLarge}, Limits.{Limit, side_limit}}
use Rattle.sixel_base.specs.declared.error.SixelError.{SixelError}

-- The error names what is wrong with a picture of these sizes.
abbrev pub IsTooLarge : ℕ → ℕ → Limit → SixelError → Type 0
IsTooLarge width height limit error =
    (((side_limit < width) ⊎ (side_limit < height)) × IsFault error Malformed)
    ⊎ ((width ≤ side_limit) × (height ≤ side_limit)
    × (limit.pixels < width * height)
    × IsFault error TooLarge)
