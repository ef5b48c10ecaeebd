use Rattle.icy_sixel.specs.Receiver.{found}
use Rattle.icy_sixel.proofs.ReceivedRows.{rows_stay, pixels_stay, image_pixels}
use Rattle.icy_sixel.proofs.receiver.rows.stable_rows.Goals as goal

pub returns : goal.returns
returns c = record {
  number = rows_stay;
  pixels = pixels_stay;
  image = λ start form bytes image is. image_pixels start (found form bytes) image is;
}
