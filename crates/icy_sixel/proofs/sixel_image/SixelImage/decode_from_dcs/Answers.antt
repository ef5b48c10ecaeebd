use Rattle.icy_sixel.proofs.sixel_image.SixelImage.decode_from_dcs.Goals as goal

pub returns : goal.returns
returns c = rw c.new.ensures at c.decode_from_dcs.ensures.decoded
