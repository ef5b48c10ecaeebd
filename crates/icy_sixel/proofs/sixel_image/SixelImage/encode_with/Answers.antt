use Rattle.std.{proofs.Common.arith, proofs.lemmas.Bool.Decides.nat_tests}
use Rattle.std.specs.Prelude.{string_bytes}
use Rattle.icy_sixel.{proofs.Headline.faithful-written, specs.ImageView.image_value}
use Rattle.icy_sixel.proofs.sixel_image.SixelImage.encode_with.Goals as goal

pub returns-clause-faithful : goal.returns-clause-faithful
returns-clause-faithful c =
    faithful-written string_bytes c.encode_source.result (image_value c.args.self.now)
    c.args.options.now.max_colors (grind (arith, nat_tests)) (grind (arith, nat_tests))
    (grind (arith, nat_tests))
