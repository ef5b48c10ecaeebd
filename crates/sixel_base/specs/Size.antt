-- Which sizes an image may have: none is zero, its bytes can be counted, and where it is to be
-- encoded it stays within the limits with its height rounded up to whole bands of six rows, so that
-- it can be decoded again. The limits are this library's own.
use Rattle.std.specs.{Option.option_or, Prelude.{ℕ, ◌+◌, ◌*◌, ◌/◌, ◌==◌, nat_lt, ◌||◌}}
use Rattle.std.specs.Prelude.{if◌then◌else◌, Option, Some, None, Result, Ok, Err}
use Rattle.sixel_base.specs.{Limits.{side_limit, area_limit}, declared.error.SixelError.SixelError}
use Rattle.sixel_base.specs.declared.error.SixelError.TheVariants.{InvalidDimensions}
use Rattle.sixel_base.specs.declared.error.SixelError.TheVariants.{BufferSizeMismatch}
use Rattle.sixel_base.specs.declared.error.SixelError.TheVariants.{IntegerOverflow}

-- how many bytes the pixels take, four a pixel
abbrev pub pixel_bytes : ℕ → ℕ → ℕ
pixel_bytes width height = 4 * (width * height)

-- the height in whole bands of six rows
abbrev pub banded : ℕ → ℕ
banded height = 6 * ((height + 5) / 6)

-- a size of zero, and then bytes that no number counts
abbrev pub size_fault : ℕ → ℕ → Option SixelError
size_fault width height =
    if width == 0 || height == 0 then Some (InvalidDimensions width height)
    else if nat_lt 0xffff_ffff_ffff_ffff (pixel_bytes width height) then Some IntegerOverflow
    else None

-- a side or an area above the limits
abbrev pub limit_fault : ℕ → ℕ → Option SixelError
limit_fault width height =
    if nat_lt side_limit width || nat_lt side_limit (banded height)
    || nat_lt area_limit (width * banded height)
    then Some (InvalidDimensions width height)
    else None

-- what is wrong with the sizes of an image that is to be encoded
abbrev pub encode_fault : ℕ → ℕ → Option SixelError
encode_fault width height = option_or (size_fault width height) (limit_fault width height)

-- pixels that are not as many bytes as the sizes ask for
abbrev pub buffer_fault : ℕ → ℕ → ℕ → Option SixelError
buffer_fault width height bytes =
    if bytes == pixel_bytes width height then None
    else Some (BufferSizeMismatch (pixel_bytes width height) bytes)

-- the result of a test that finds this fault
abbrev pub verdict : Option SixelError → Result (Unit {0}) SixelError
verdict None = Ok tt
verdict (Some fault) = Err fault
