use Rattle.std.proofs.Common.{◌≡◌, ℕ, ◌+◌, ◌-◌, ◌<◌, nat_lt, length}
use Rattle.std.specs.Prelude.{if◌then◌else◌}
use Rattle.sixel_encoder.specs.inside.{Grid.{cell, pixel_bit, AreMarks}, Indexed.entry_of}
use Rattle.sixel_encoder.proofs.band.add_part_of_line.Given as goal

abbrev pub invariant-columns : goal.invariant-columns
invariant-columns l = record {
  cells : (e x : ℕ) → e < length l.used → x < l.image.width
      → cell l.rows l.image.width e x ≡ cell l.initial.rows l.image.width e x
      + (if nat_lt x l.column then pixel_bit l.line.weight (l.first + e)
      (entry_of l.image.pixels.now l.image.indices.now (l.line.start + x)) else 0);
  marks : AreMarks l.rows l.used l.image.width;
}

abbrev pub decreases-columns : goal.decreases-columns
decreases-columns l = l.image.width - l.column
