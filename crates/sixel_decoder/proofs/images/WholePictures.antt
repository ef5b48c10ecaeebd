-- The image of a decoded payload of which no row was released.
use Rattle.std.proofs.Common.{◌≡◌, ℕ, List, refl}
use Rattle.sixel_base.specs.Picture.{joined, picture}
use Rattle.sixel_decoder.specs.PictureView.{picture_value, whole_image}
use Rattle.sixel_decoder.specs.declared.decoded_payload.DecodedPayload.{DecodedPayload}

pub whole_picture : (shown : ℕ → ℕ → List ℕ) (decoded : DecodedPayload) → decoded.first_row ≡ 0
    → whole_image shown decoded ≡ picture_value decoded
unfolding picture joined
whole_picture shown decoded none = rw none refl
