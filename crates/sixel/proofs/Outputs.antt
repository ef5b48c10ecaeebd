-- What the program writes: outputs of one kind that are of another, and those without memory.
use Rattle.std.proofs.Common.{◌≡◌, ◌++◌, IfSome, MatchResult, List, None, Option, Result, Ok, Err}
use Rattle.std.proofs.Common.{[], arith, inl, refl, ℕ}
use Rattle.std.proofs.lemmas.Bool.Decides.{nat_tests}
use Rattle.sixel_base.specs.declared.error.SixelError.TheVariants.{OutOfMemory}
use Rattle.sixel_base.specs.{Decoder.new_decoder, Payload.Image}
use Rattle.sixel.specs.declared.{fault.Fault.Fault, fault.Fault.TheVariants.{Sixel, Input, Output}}
use Rattle.sixel.specs.declared.fault.PictureFault.{PictureFault}
use Rattle.sixel.specs.declared.{fault.PictureFault.TheVariants.Shared, words.Word.Word}
use Rattle.sixel.specs.declared.words.Word.TheVariants.{Payload, Decode, Frames, Encode}
use Rattle.sixel.specs.{Ending.{Ending, Done, Refused}, Sequences.Broken, WorkOutput.IsImageOutput}
use Rattle.sixel.specs.WorkOutput.{IsOutput, IsWhole, Serves, ServesPicture, ServesPictureInput}
use Rattle.std.specs.Result.{IsErrAnd}
use Rattle.sixel_base.specs.Fault as data_fault

-- what was written of an output of one kind is of another
pub Serves-map : {A : Type 0} (result : Result A Fault) (IsText IsOther : List ℕ → Ending → Type 0)
    (a b : Option (List ℕ))
    → ((text : List ℕ) (ending : Ending) → IsText text ending → IsOther text ending)
    → Serves result IsText a b → Serves result IsOther a b
Serves-map (Ok _) IsText IsOther a b to (text, is, grown) = (text, to text Done is, grown)
Serves-map (Err (Sixel e)) IsText IsOther a b to (text, is, grown) =
    (text, to text (Refused e) is, grown)
Serves-map (Err Input) IsText IsOther a b to served = served
Serves-map (Err Output) IsText IsOther a b to (text, (rest, ending, is), grown) =
    (text, (rest, ending, to (text ++ rest) ending is), grown)

-- bytes that are an output were written, or a beginning of them
pub Serves-whole : {A : Type 0} (result : Result A Fault) (IsText : List ℕ → Ending → Type 0)
    (bytes : List ℕ) (a b : Option (List ℕ)) → Serves result (IsWhole bytes) a b
    → IsText bytes Done → Serves result IsText a b
Serves-whole result IsText bytes a b served is =
    Serves-map result (IsWhole bytes) IsText a b (λ text ending same. rw (same.0, same.1) is) served

-- the image that was decoded was written
pub Serves-image : {A : Type 0} (result : Result A Fault) (form : Image → List ℕ)
    (fault : Option data_fault.Fault) (IsImage : Image → Type 0) (image : Image)
    (a b : Option (List ℕ)) → fault ≡ None → IsImage image
    → Serves result (IsImageOutput form None (λ i. i ≡ image)) a b
    → Serves result (IsImageOutput form fault IsImage) a b
Serves-image result form fault h image a b none is = grind (arith, nat_tests)

-- out of memory is an ending of any work
pub wanting : (word : Word) (bytes : List ℕ) → IsOutput word bytes [] (Refused OutOfMemory)
wanting Payload bytes = (refl, refl)
wanting Decode bytes = (refl, refl)
wanting (Frames length) bytes = Broken new_decoder bytes OutOfMemory refl
wanting (Encode width height colors) bytes = (refl, inl refl)

-- what a call wrote is what the work on an image wrote that ends as it does
pub Serves-shared : {A : Type 0} (served : Result A Fault) (outcome : Result A PictureFault)
    (IsText : List ℕ → Ending → Type 0) (a b : Option (List ℕ))
    → MatchResult served (λ x. outcome ≡ Ok x) (λ e. IsErrAnd outcome (λ p. p ≡ Shared e))
    → Serves served IsText a b → ServesPicture outcome IsText a b
Serves-shared served outcome IsText a b same is = grind (arith, nat_tests)

-- the bytes that were read are all of the input
pub served_all : {A : Type 0} (result : Result A PictureFault)
    (IsText : List ℕ → List ℕ → Ending → Type 0) (input : Option (List ℕ)) (bytes : List ℕ)
    (a b : Option (List ℕ)) → IfSome input (λ all. bytes ≡ all)
    → ServesPicture result (IsText bytes) a b → ServesPictureInput result IsText input a b
served_all result IsText input bytes a b same served = grind (arith, nat_tests)
