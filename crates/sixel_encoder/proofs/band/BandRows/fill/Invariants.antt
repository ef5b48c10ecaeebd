use Rattle.std.proofs.Common.{◌≡◌, ℕ, ◌+◌, ◌*◌, ◌^◌, ◌<◌, length}
use Rattle.sixel_encoder.specs.Text.{is_entry, entry_at, mask}
use Rattle.sixel_encoder.specs.inside.{Grid.{cell, AreMarks, IsSameShape}, Indexed.drawing_of}
use Rattle.sixel_encoder.proofs.band.BandRows.fill.Given as goal

abbrev pub invariant-loop-bit : goal.invariant-loop-bit
invariant-loop-bit l = record {
  weight : l.weight ≡ 2 ^ l.bit;
  shape : IsSameShape l.initial.self l.self;
  cells : (e x : ℕ) → e < length l.self.used.items → x < l.image.width
      → cell l.self.rows.items l.image.width e x
      ≡ mask (λ b. is_entry (l.initial.self.first + e)
      (entry_at (drawing_of l.image) x (6 * l.band + b))) l.bit;
  marks : AreMarks l.self.rows.items l.self.used.items l.image.width;
}
