use Rattle.std.proofs.Common.{◌≡◌, ℕ, ◌+◌, ◌*◌}
use Rattle.std.specs.Prelude.{nat_le, nat_lt, ◌&&◌, if◌then◌else◌}
use Rattle.sixel_canvas.specs.inside.{Band.{IsBand, cell}, Tags.under}
use Rattle.sixel_canvas.proofs.tagged_band.tags.paint_tags.Given as goal

abbrev pub invariant-rows : goal.invariant-rows
invariant-rows l =
    (l.pixels.background ≡ l.fn.pixels.background)
    × (l.pixels.cap ≡ l.fn.pixels.cap)
    × (l.pixels.extent ≡ l.fn.pixels.extent)
    × IsBand l.pixels
    × ((column k : ℕ)
    → cell l.pixels column k
    ≡ (if nat_le (l.tile * 128) column && nat_lt column (l.tile * 128 + 128) && nat_lt k l.k
    then under (cell l.tags l.tile k) (cell l.fn.pixels column k) else cell l.fn.pixels column k))
