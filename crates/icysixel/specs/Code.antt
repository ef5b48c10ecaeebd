-- The numbers that C receives: a code for each cause of an error, and the status of a feed. They
-- are this library's own, and include/icysixel.h names them. 8 is out of memory, 9 an overflow, and
-- the codes from 10 on are errors of sizes and data.
use Rattle.std.specs.Prelude.{◌≡◌, ℕ, nat_le, ℤ, pos, negsuc, if◌then◌else◌, Option, Some, None}
use Rattle.sixel_base.specs.CallFault.{CallFault, Exactly, ColorCount, IndexRange, RowsNotFinal}
use Rattle.sixel_base.specs.{CallFault.{RowsReleased, ShortStride}, Fault.{Fault, text_of}}
use Rattle.sixel_base.specs.Fault.{Malformed, TooLarge, MissingCommand, BadHeader, StreamFailed}
use Rattle.sixel_base.specs.Fault.{DcsStreamFailed, Incomplete, NoIntroducer, Overflow}
use Rattle.sixel_base.specs.{Settings.Settings, declared.error.SixelError.SixelError}
use Rattle.sixel_decoder.specs.declared.received.Status.{Status}
use Rattle.sixel_decoder.specs.declared.received.Status.TheVariants.{Payload, Dcs}
use Rattle.sixel_base.specs.declared.error.SixelError.TheVariants as error
use Rattle.sixel_base.specs.declared.status.SixelFeedStatus.TheVariants as payload
use Rattle.sixel_base.specs.declared.status.SixelDcsFeedStatus.TheVariants as string

-- the code of a fault of data; no call of C returns the two of a stream that has failed
abbrev pub fault_code : Fault → ℕ
fault_code Overflow = 9
fault_code NoIntroducer = 12
fault_code Malformed = 13
fault_code TooLarge = 14
fault_code BadHeader = 15
fault_code MissingCommand = 16
fault_code Incomplete = 17
fault_code StreamFailed = 2
fault_code DcsStreamFailed = 2

-- the code of an error
abbrev pub IsCodeOf : ℕ → SixelError → Type 0
IsCodeOf code error.OutOfMemory = code ≡ 8
IsCodeOf code error.IntegerOverflow = code ≡ 9
IsCodeOf code (error.InvalidDimensions width height) = code ≡ 10
IsCodeOf code (error.BufferSizeMismatch expected actual) = code ≡ 11
IsCodeOf code error.NoSixelData = code ≡ 12
IsCodeOf code (error.InvalidData text) =
    (fault : Fault) → text_of fault ≡ Some text.now → code ≡ fault_code fault

-- the code of a fault of a call on an image, a palette or rows
abbrev pub IsCallCode : ℕ → CallFault → Type 0
IsCallCode code (Exactly error) = IsCodeOf code error
IsCallCode code ColorCount = code ≡ 20
IsCallCode code IndexRange = code ≡ 21
IsCallCode code RowsNotFinal = code ≡ 22
IsCallCode code RowsReleased = code ≡ 23
IsCallCode code ShortStride = code ≡ 7

-- a parameter of a DCS sequence: a number outside of 0 to 65535 means an absent one
abbrev pub given : ℤ → Option ℕ
given (pos number) = if nat_le number 65535 then Some number else None
given (negsuc below) = None

-- the parameters that C passes; P3 has no effect on an image
abbrev pub settings_of : ℤ → ℤ → Settings
settings_of p1 p2 = record { aspect_ratio = given p1; zero_color = given p2; grid_size = None }

-- 0 if the image needs more data, 1 if it is complete, 2 if it was cancelled, 3 if interrupted
abbrev pub status_code : Status → ℕ
status_code (Payload payload.NeedMoreData) = 0
status_code (Payload (payload.Terminated byte)) = 1
status_code (Dcs string.NeedMoreData) = 0
status_code (Dcs string.Complete) = 1
status_code (Dcs (string.Cancelled byte)) = 2
status_code (Dcs (string.Interrupted byte)) = 3

-- the control byte that ended a payload, or a DCS sequence early; or 0
abbrev pub status_byte : Status → ℕ
status_byte (Payload payload.NeedMoreData) = 0
status_byte (Payload (payload.Terminated byte)) = byte
status_byte (Dcs string.NeedMoreData) = 0
status_byte (Dcs string.Complete) = 0
status_byte (Dcs (string.Cancelled byte)) = byte
status_byte (Dcs (string.Interrupted byte)) = byte
