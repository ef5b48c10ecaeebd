use Rattle.std.proofs.Common.{◌≡◌, ◌+◌, ◌-◌, ◌*◌, ◌<◌, ◌≤◌, ℕ}
use Rattle.sixel_encoder.specs.{Text.entry_at, inside.Indexed.drawing_of}
use Rattle.sixel_encoder.proofs.band_entries.BandEntries.end_of_repeats.Given as goal

abbrev pub invariant-repeats : goal.invariant-repeats
invariant-repeats l = record {
  order : l.column < l.end;
  within : l.end ≤ l.self.image.now.width;
  same : (k bit : ℕ) → l.column ≤ k → k < l.end → bit < 6
      → entry_at (drawing_of l.self.image.now) k (6 * l.self.band + bit)
      ≡ entry_at (drawing_of l.self.image.now) l.column (6 * l.self.band + bit);
}

abbrev pub decreases-repeats : goal.decreases-repeats
decreases-repeats l = l.self.image.now.width - l.end
