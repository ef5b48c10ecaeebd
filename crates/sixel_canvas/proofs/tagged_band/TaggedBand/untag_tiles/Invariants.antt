use Rattle.std.proofs.Common.{◌≡◌, ℕ, ◌≤◌, ◌<◌, false}
use Rattle.sixel_canvas.specs.inside.{Band.cell, TaggedBand.{HasSameRoom, tagged_cell}, Tags.is_tag}
use Rattle.sixel_canvas.proofs.tagged_band.TaggedBand.untag_tiles.Given as goal

abbrev pub invariant-each : goal.invariant-each
invariant-each l =
    ((column k : ℕ) → tagged_cell l.self column k ≡ tagged_cell l.fn.self column k)
    ×
    ((tile k : ℕ) → l.first ≤ tile → tile < l.tile → is_tag (cell l.self.tags tile k) ≡ false)
    × ((tile k : ℕ) → l.last ≤ tile → cell l.self.tags tile k ≡ cell l.fn.self.tags tile k)
    × HasSameRoom l.fn.self l.self
    × (l.self.pixels.extent ≡ l.fn.self.pixels.extent)
    × (l.self.tags.extent ≡ l.fn.self.tags.extent)
    × (l.self.painted ≡ l.fn.self.painted)
