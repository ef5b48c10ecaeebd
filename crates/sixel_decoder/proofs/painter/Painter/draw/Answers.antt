use Rattle.std.proofs.{Common.arith, lemmas.Bool.Decides.nat_tests}
use Rattle.sixel_decoder.proofs.painter.Painter.draw.Goals as goal

pub returns-in_ok-draw_inside-in-Ok-clause-draws : goal.returns-in_ok-draw_inside-in-Ok-clause-draws
returns-in_ok-draw_inside-in-Ok-clause-draws g c = λ o h shows. record {
  pixels = λ column row. grind (arith, nat_tests);
  paid = grind (arith, nat_tests);
  registers = grind (arith, nat_tests);
  color = grind (arith, nat_tests);
  repeat = grind (arith, nat_tests);
  column = grind (arith, nat_tests);
  top = grind (arith, nat_tests);
  width = grind (arith, nat_tests);
  height = grind (arith, nat_tests);
  raster = grind (arith, nat_tests);
  drawn = grind (arith, nat_tests);
  ratio = grind (arith, nat_tests);
  settings = grind (arith, nat_tests);
  crop = grind (arith, nat_tests);
  limit = grind (arith, nat_tests);
  faultless = grind (arith, nat_tests);
}
