use Rattle.std.proofs.Common.{◌≡◌, ℕ, List, refl, arith}
use Rattle.sixel_base.specs.Picture.{joined, picture}
use Rattle.sixel_decoder.proofs.images.FinishedImages.{finished_as}
use Rattle.icy_sixel.specs.{ImageView.image_value, ReceivedImages.{left_image, whole_value}}
use Rattle.icy_sixel.specs.declared.receiver.received_image.ReceivedImage.{ReceivedImage}
use Rattle.icy_sixel.proofs.receiver.SixelReceiver.finish_image.Goals as goal

-- no row was released
whole_received : (shown : ℕ → ℕ → List ℕ) (image : ReceivedImage) → image.first_row ≡ 0
    → whole_value shown image ≡ image_value (left_image image)
unfolding picture joined
whole_received shown image none = rw none refl

pub returns-in-Ok-clause-finished : goal.returns-in-Ok-clause-finished
returns-in-Ok-clause-finished c =
    let is = c.in-Ok.ensures in
    grind (arith, is.finished, is.first, whole_received, c.into_image.ensures.whole, finished_as)
