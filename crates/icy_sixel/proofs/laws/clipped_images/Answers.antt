use Rattle.icy_sixel.proofs.ClippedImages.{fault_is, part_is, registers_stay, report_is, whole_is}
use Rattle.icy_sixel.proofs.ClippedImages.{area_whole, size_whole}
use Rattle.icy_sixel.proofs.laws.clipped_images.Goals as goal

pub returns : goal.returns
returns c = record {
  whole = whole_is;
  whole_size = size_whole;
  whole_area = area_whole;
  part = part_is;
  report = report_is;
  fault = fault_is;
  registers = registers_stay;
}
