-- The meaning of bytes that contain a DCS sequence anywhere, or are a bare payload. The first
-- introducer, DCS as one byte or as ESC and `P`, begins a header. Its payload is read up to the
-- first terminator or the end. Without an introducer all bytes are a payload.
use Rattle.std.specs.Prelude.{ℕ, ◌≡◌, ◌==◌, Bool, false, ◌&&◌, if◌then◌else◌, List, [], ◌∷◌, Option}
use Rattle.std.specs.Prelude.{Some, None}
use Rattle.sixel_base.specs.{Decoder.origin_of, Fault.{Fault, MissingCommand}, Header.Headed}
use Rattle.sixel_base.specs.Header.{Open, Begun, Faulty, headed, header_text, settings_of}
use Rattle.sixel_base.specs.{Limits.Limit, Payload.{Image, payload_fault, payload_image}}
use Rattle.sixel_base.specs.{Payload.{payload_registers, payload_wants}, Settings.Settings}
use Rattle.sixel_base.specs.declared.state.DecoderState.{DecoderState}

-- whether a list begins with `P`
abbrev pub begins_with_p : List ℕ → Bool
begins_with_p [] = false
begins_with_p (byte ∷ bytes) = byte == 80

abbrev pub without_first : List ℕ → List ℕ
without_first [] = []
without_first (byte ∷ bytes) = bytes

-- what follows the first introducer
abbrev pub after_introducer : List ℕ → Option (List ℕ)
after_introducer [] = None
after_introducer (byte ∷ bytes) =
    if byte == 0x90 then Some bytes
    else if byte == 27 && begins_with_p bytes then Some (without_first bytes)
    else after_introducer bytes

-- no parameter was given
abbrev pub no_settings : Settings
no_settings = record { aspect_ratio = None; zero_color = None; grid_size = None }

-- a payload and the settings that it is read with, or why there is none
pub data Found : Type 0 where
  Payload : Settings → List ℕ → Found
  NoPayload : Fault → Found

abbrev pub found_by : List ℕ → Headed → Found
found_by rest Open = NoPayload MissingCommand
found_by rest (Begun payload) = Payload (settings_of (header_text rest)) payload
found_by rest (Faulty fault) = NoPayload fault

abbrev pub found_in : List ℕ → Option (List ℕ) → Found
found_in bytes None = Payload no_settings bytes
found_in bytes (Some rest) = found_by rest (headed rest)

-- the payload of the bytes
abbrev pub found : List ℕ → Found
found bytes = found_in bytes (after_introducer bytes)

-- what is wrong with the bytes
abbrev pub found_fault : Limit → Found → Option Fault
found_fault limit (Payload settings payload) = payload_fault limit payload
found_fault limit (NoPayload fault) = Some fault

-- whether decoding them may run out of memory
abbrev pub found_wants : Limit → Found → Bool
found_wants limit (Payload settings payload) = payload_wants limit payload
found_wants limit (NoPayload fault) = false

-- a decoder draws this image, where there is a payload
abbrev pub IsFoundImage : DecoderState → Found → Image → Type 0
IsFoundImage decoder (Payload settings payload) image =
    image ≡ payload_image (origin_of decoder settings) payload
IsFoundImage decoder (NoPayload fault) image = ⊥

-- and its registers after it are these
abbrev pub AreFoundRegisters : DecoderState → Found → List (List ℕ) → Type 0
AreFoundRegisters decoder (Payload settings payload) after =
    after ≡ payload_registers (origin_of decoder settings) payload
AreFoundRegisters decoder (NoPayload fault) after = ⊥

-- decoding the payload finds no fault, gives this image and leaves these registers
abbrev pub IsDecodedAs : DecoderState → Found → Image → List (List ℕ) → Type 0
IsDecodedAs decoder payload image after =
    (found_fault decoder.pixel_limit payload ≡ None) × IsFoundImage decoder payload image
    × AreFoundRegisters decoder payload after
