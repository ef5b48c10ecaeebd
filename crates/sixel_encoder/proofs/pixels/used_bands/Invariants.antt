use Rattle.std.proofs.Common.{◌≡◌}
use Rattle.sixel_encoder.specs.{Trip.{bands_up_to, is_used}, inside.Indexed.drawing_of}
use Rattle.sixel_encoder.proofs.pixels.used_bands.Given as goal

abbrev pub invariant-loop-band : goal.invariant-loop-band
invariant-loop-band l = l.count ≡ bands_up_to (is_used (drawing_of l.image)) l.band
