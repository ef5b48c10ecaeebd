-- A finished image in another type, by a caller that stores an error.
use Rattle.std.proofs.Common.{◌≡◌, ℕ, List, Ok, Option, arith}
use Rattle.sixel_base.specs.{Fault.Fault, Payload.Image}
use Rattle.sixel_decoder.specs.{FinishedImages.IsFinished, Reception.Reception}

pub finished_as : {A B : Type 0} (image_of : A → Image) (registers_of : A → List (List ℕ))
    (image_of' : B → Image) (registers_of' : B → List (List ℕ)) (image : Reception)
    (failure : Option (Option Fault)) (a : A) (b : B)
    → image_of a ≡ image_of' b → registers_of a ≡ registers_of' b
    → IsFinished image_of registers_of image (Ok a)
    → IsFinished image_of' registers_of' (record image { failure = failure }) (Ok b)
finished_as image_of registers_of image_of' registers_of' image failure a b same left is =
    grind arith
