use Rattle.std.proofs.Common.{◌≡◌, ◌+◌, ◌*◌, ◌++◌, min, vec_len}
use Rattle.sixel_base.specs.Picture.{joined}
use Rattle.sixel_canvas.specs.inside.TaggedRow.{tagged_pixel}
use Rattle.sixel_canvas.proofs.tagged_row.TaggedRow.pack.Given as goal

abbrev pub invariant-segments : goal.invariant-segments
invariant-segments l =
    (l.bytes.items
    ≡ l.fn.bytes.items
    ++ joined (λ column. tagged_pixel l.self column) (min (l.tile * 128) l.width))
    × (vec_len l.bytes ≡ vec_len l.fn.bytes + 4 * min (l.tile * 128) l.width)
