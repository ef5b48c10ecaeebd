use Rattle.icy_sixel.proofs.sixel_image.SixelImage.from_str.Goals as goal

pub returns : goal.returns
returns c = rw c.as_bytes.ensures.value at c.decode.ensures
