use Rattle.std.proofs.{Common.{◌<◌, subst, sym, arith}, lemmas.Bool.Decides.nat_tests}
use Rattle.std.specs.Prelude.{All, OnOk, string_bytes}
use Rattle.sixel_base.specs.{CallFault.color_count_fault, Payload.Image}
use Rattle.icy_sixel.specs.ImageView.{image_value}
use Rattle.sixel_encoder.proofs.drawings.RefinedText.{hidden-refined}
use Rattle.icy_sixel.proofs.sixel_image.SixelImage.encode_refined.Goals as goal

pub returns-clause-hidden : goal.returns-clause-hidden
returns-clause-hidden c = λ other bytes same also.
    hidden-refined string_bytes c.encode_refined.result (image_value c.args.self.now) other
    c.args.max_colors c.args.mapping c.args.form bytes (color_count_fault c.args.max_colors)
    (grind (arith, nat_tests))
    (subst (λ (image : Image).
    OnOk c.encode_refined.result (All (λ byte. byte < 256) image.pixels))
    c.source.ensures c.encode_refined.ensures.bytes)
    (grind (arith, nat_tests)) (sym same) also
