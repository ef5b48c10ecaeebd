use Rattle.std.proofs.{Common.length, Common.sym, Common.arith, lemmas.Bool.Decides.nat_tests}
use Rattle.std.specs.Prelude.{string_bytes}
use Rattle.sixel_base.specs.CallFault.{color_count_fault}
use Rattle.icy_sixel.specs.ImageView.{image_value}
use Rattle.sixel_encoder.proofs.drawings.PaletteText.{hidden-returned}
use Rattle.icy_sixel.proofs.sixel_image.SixelImage.encode_with_palette.Goals as goal

pub returns-clause-hidden : goal.returns-clause-hidden
returns-clause-hidden c = λ other bytes same also.
    hidden-returned string_bytes c.encode_in_palette.result (image_value c.args.self.now) other
    c.args.colors.now c.args.mapping c.args.form bytes
    (color_count_fault (length c.args.colors.now))
    (grind (arith, nat_tests)) (grind (arith, nat_tests)) (sym same) also
