use Rattle.icy_sixel.proofs.sixel_image.SixelImage.decode.Goals as goal

pub returns : goal.returns
returns c = rw c.new.ensures at c.decode.ensures.decoded
