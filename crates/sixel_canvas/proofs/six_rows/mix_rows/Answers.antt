use Rattle.std.proofs.Common.{arith}
use Rattle.sixel_canvas.proofs.BandSixels.{covers_first, covers_halves}
use Rattle.sixel_canvas.proofs.six_rows.mix_rows.Goals as goal

pub returns-then-from_le_bytes-gt0 : goal.returns-then-from_le_bytes-gt0
returns-then-from_le_bytes-gt0 c = grind (arith, covers_halves)

pub returns-else-from_le_bytes-gt0 : goal.returns-else-from_le_bytes-gt0
returns-else-from_le_bytes-gt0 c = grind (arith, covers_first)
