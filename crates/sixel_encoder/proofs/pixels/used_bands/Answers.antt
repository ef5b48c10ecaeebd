use Rattle.std.proofs.Common.{sym, arith}
use Rattle.sixel_encoder.specs.{Trip.is_used, inside.Indexed.drawing_of}
use Rattle.sixel_encoder.proofs.round_trip.DrawnHeight.{bands_up_to-more, bands_up_to-none}
use Rattle.sixel_encoder.proofs.pixels.used_bands.Goals as goal

pub loop-band-init : goal.loop-band-init
loop-band-init c = sym (bands_up_to-none (is_used (drawing_of c.args.image.now)))

pub loop-band-preserved : goal.loop-band-preserved
loop-band-preserved c = grind (arith, bands_up_to-more)
