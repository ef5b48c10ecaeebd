use Rattle.std.proofs.Common.{ℕ, ◌<◌, slice_index}
use Rattle.sixel_palette.specs.{Refined.IsRegisterColor, inside.Codes.color_of}
use Rattle.sixel_palette.proofs.palette.register_color.are_exact.Given as goal

abbrev pub invariant-loop-code : goal.invariant-loop-code
invariant-loop-code l =
    (k : ℕ) → k < l.code-index → IsRegisterColor (color_of (slice_index l.codes k))
