-- What the program writes for its work and the bytes of its input, and how it ends: as the
-- definitions of the data's meaning say, or with out of memory, which may come before any image.
-- The order is this program's own: an image is written once it is whole.
use Rattle.std.specs.{Io.KnownBytes.{Appends, Keeps}, Prelude.{◌≡◌, ◌⊎◌, ℕ, true, List, [], ◌++◌}}
use Rattle.std.specs.Prelude.{IfSome, Option, None, Some, Result, Ok, Err, String, string_bytes}
use Rattle.std.specs.declared.alloc.Global.{Global}
use Rattle.sixel_base.specs.{Decoder.{new_decoder, origin_of}, OneShot.{no_settings, found}}
use Rattle.sixel_base.specs.{OneShot.{found_fault, IsFoundImage}, Payload.{Image, payload_fault}}
use Rattle.sixel_base.specs.{Payload.payload_image, Stroke.Origin}
use Rattle.sixel_base.specs.declared.error.SixelError.TheVariants.{OutOfMemory}
use Rattle.sixel_encoder.specs.Encoding.{image_fault, IsText, square_value}
use Rattle.sixel.specs.{declared.fault.Fault.Fault, declared.fault.Fault.TheVariants.{Sixel, Input}}
use Rattle.sixel.specs.{declared.fault.Fault.TheVariants.Output, declared.words.Word.Word}
use Rattle.sixel.specs.declared.words.Word.TheVariants.{Payload, Decode, Frames, Encode}
use Rattle.sixel.specs.declared.fault.PictureFault.{PictureFault}
use Rattle.sixel.specs.declared.fault.PictureFault.TheVariants.{Shared, Netpbm}
use Rattle.sixel.specs.declared.picture.PictureWord.{PictureWord}
use Rattle.sixel.specs.declared.picture.PictureWord.TheVariants.{Pam, Draw}
use Rattle.sixel.specs.{declared.response.Response.Response, declared.work.Work.Work}
use Rattle.sixel.specs.{declared.work.Work.TheVariants.{Data, Picture}, Form.{image_form, pam_form}}
use Rattle.sixel.specs.{Ending.{Ending, Done, Refused, Unreadable}, netpbm.Image.image_of}
use Rattle.sixel.specs.{Drawing.IsDrawOutput, Options.mapping_of, Sequences.IsSequencesOutput}
use Rattle.sixel_base.specs.Fault as data_fault
use Rattle.sixel.specs.declared.response.Response.TheVariants.{Done as Completed, Usage, Failed}

-- what a writer contains grew by a text of this kind
abbrev pub Writes : (List ℕ → Type 0) → Option (List ℕ) → Option (List ℕ) → Type 0
Writes IsText old new = (text : List ℕ) × IsText text × Appends old new text

-- an output of these bytes, and no other
abbrev pub IsWhole : List ℕ → List ℕ → Ending → Type 0
IsWhole bytes text ending = (text ≡ bytes) × (ending ≡ Done)

-- a new decoder, and no settings
abbrev pub fresh : Origin
fresh = origin_of new_decoder no_settings

-- an image of this kind in this form, or the error of this fault with nothing written
abbrev pub IsImageOutput : (Image → List ℕ) → Option data_fault.Fault → (Image → Type 0)
    → List ℕ → Ending → Type 0
IsImageOutput form fault IsImage text Done =
    (fault ≡ None) × ((image : Image) × IsImage image × (text ≡ form image))
IsImageOutput form fault IsImage text (Refused error) =
    (text ≡ []) × data_fault.Faults error true fault
IsImageOutput form fault IsImage text (Unreadable error) = ⊥

-- the SIXEL output of square pixels on a transparent background, or its error with nothing written
abbrev pub IsTextOutput : Image → ℕ → List ℕ → Ending → Type 0
IsTextOutput image colors text Done = (image_fault image ≡ None) × IsText image colors text
IsTextOutput image colors text (Refused error) =
    (text ≡ []) × ((error ≡ OutOfMemory) ⊎ (image_fault image ≡ Some error))
IsTextOutput image colors text (Unreadable error) = ⊥

-- the image that the bytes are found to have, in this form, or its error with nothing written
abbrev pub IsFoundOutput : (Image → List ℕ) → List ℕ → List ℕ → Ending → Type 0
IsFoundOutput form bytes =
    IsImageOutput form (found_fault new_decoder.pixel_limit (found bytes))
    (IsFoundImage new_decoder (found bytes))

-- the output of this work on these bytes, and how it ends
abbrev pub IsOutput : Word → List ℕ → List ℕ → Ending → Type 0
IsOutput Payload bytes =
    IsImageOutput image_form (payload_fault fresh.pixel_limit bytes)
    (λ image. image ≡ payload_image fresh bytes)
IsOutput Decode bytes = IsFoundOutput image_form bytes
IsOutput (Frames length) bytes = IsSequencesOutput new_decoder bytes
IsOutput (Encode width height colors) bytes = IsTextOutput (square_value bytes width height) colors

-- the same of work on an image in netpbm's formats, with the bytes of the palette file
abbrev pub IsPictureOutput : PictureWord → List ℕ → List ℕ → List ℕ → Ending → Type 0
IsPictureOutput Pam palette bytes = IsFoundOutput pam_form bytes
IsPictureOutput (Draw options) palette bytes =
    IsDrawOutput options.palette (mapping_of options) palette (image_of bytes)

-- the same of any work
abbrev pub IsWorkOutput : Work → List ℕ → List ℕ → List ℕ → Ending → Type 0
IsWorkOutput (Data word) palette bytes = IsOutput word bytes
IsWorkOutput (Picture word) palette bytes = IsPictureOutput word palette bytes

-- an output, whatever its ending, begins with this text
abbrev pub Begins : (List ℕ → Ending → Type 0) → List ℕ → Type 0
Begins IsText text = (rest : List ℕ) × (ending : Ending) × IsText (text ++ rest) ending

-- A writer's contents grew by an output: the whole of it, that before an error in the data, or a
-- beginning if the writer failed.
abbrev pub Serves : {A : Type 0} → Result A Fault → (List ℕ → Ending → Type 0) → Option (List ℕ)
    → Option (List ℕ) → Type 0
Serves (Ok _) IsText old new = Writes (λ text. IsText text Done) old new
Serves (Err (Sixel error)) IsText old new = Writes (λ text. IsText text (Refused error)) old new
Serves (Err Input) IsText old new = ⊥
Serves (Err Output) IsText old new = Writes (Begins IsText) old new

-- the same for work on an image in netpbm's formats
abbrev pub ServesPicture : {A : Type 0} → Result A PictureFault → (List ℕ → Ending → Type 0)
    → Option (List ℕ) → Option (List ℕ) → Type 0
ServesPicture (Ok _) IsText old new = Writes (λ text. IsText text Done) old new
ServesPicture {A} (Err (Shared fault)) IsText old new = Serves {A = A} (Err fault) IsText old new
ServesPicture (Err (Netpbm error)) IsText old new =
    Writes (λ text. IsText text (Unreadable error)) old new

-- The same for all bytes of a reader, if they are known. If they can't be read, none is written.
abbrev pub ServesInput : {A : Type 0} → Result A Fault → (List ℕ → List ℕ → Ending → Type 0)
    → Option (List ℕ) → Option (List ℕ) → Option (List ℕ) → Type 0
ServesInput (Err Input) IsText input old new = Keeps old new
ServesInput result IsText input old new =
    IfSome input (λ bytes. Serves result (IsText bytes) old new)

-- the same for work on an image in netpbm's formats
abbrev pub ServesPictureInput : {A : Type 0} → Result A PictureFault
    → (List ℕ → List ℕ → Ending → Type 0)
    → Option (List ℕ) → Option (List ℕ) → Option (List ℕ) → Type 0
ServesPictureInput (Err (Shared Input)) IsText input old new = Keeps old new
ServesPictureInput result IsText input old new =
    IfSome input (λ bytes. ServesPicture result (IsText bytes) old new)

-- The arguments ask for no work, or the response is that of the work that they ask for.
abbrev pub Responds : Response → (Work → Type 0) → (Work → List ℕ → List ℕ → Ending → Type 0)
    → Option (List ℕ) → Option (List ℕ) → Option (List ℕ) → Type 0
Responds Usage IsAsked IsText input old new = (work : Work) → ¬ IsAsked work
Responds Completed IsAsked IsText input old new =
    (work : Work) × IsAsked work
    × ServesPictureInput {A = Unit {0}} (Ok tt) (IsText work) input old new
Responds (Failed fault) IsAsked IsText input old new =
    (work : Work) × IsAsked work
    × ServesPictureInput {A = Unit {0}} (Err fault) (IsText work) input old new

-- An output was made: the whole of it, or none because of an error.
abbrev pub Draws : Result (String Global) PictureFault → (List ℕ → Ending → Type 0) → Type 0
Draws (Ok text) IsText = IsText (string_bytes text) Done
Draws (Err (Shared (Sixel error))) IsText = IsText [] (Refused error)
Draws (Err (Netpbm error)) IsText = IsText [] (Unreadable error)
Draws (Err _) IsText = ⊥
