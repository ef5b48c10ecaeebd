use Rattle.std.proofs.Common.{◌≡◌, ◌+◌, ◌*◌, ◌<◌, ℕ, slice_index}
use Rattle.sixel_encoder.specs.Text.{entry_at}
use Rattle.sixel_encoder.specs.inside.{Compact.{AreSpare, lane_of}, Indexed.drawing_of}
use Rattle.sixel_encoder.proofs.band_entries.BandEntries.read.Given as goal

abbrev pub invariant-loop-bit : goal.invariant-loop-bit
invariant-loop-bit l = record {
  image : l.self.image ≡ l.initial.self.image;
  band : l.self.band ≡ l.band;
  spare : AreSpare l.self.image.now l.self.lanes.items;
  pixels : (column bit : ℕ) → column < l.self.image.now.width → bit < l.bit
      → slice_index l.self.lanes.items (8 * column + bit)
      ≡ lane_of (entry_at (drawing_of l.self.image.now) column (6 * l.band + bit));
}
