-- Pictures with the same pixels.
use Rattle.std.{proofs.Common.{◌≡◌, ℕ, List, arith}, proofs.lemmas.Bool.Decides.nat_tests}
use Rattle.sixel_base.{proofs.PictureBytes.joined-same, specs.Picture.picture}

pub picture_same : (p q : ℕ → ℕ → List ℕ) (width height : ℕ) →
    ((column row : ℕ) → p column row ≡ q column row) →
    picture p width height ≡ picture q width height
unfolding picture
picture_same p q width height same = grind (arith, nat_tests, joined-same)
