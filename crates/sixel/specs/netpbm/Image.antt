-- The image that the bytes of a file have, or why they have none.
use Rattle.std.specs.Prelude.{nat_lt, if◌then◌else◌, List, length, Result, Ok, Err, ℕ}
use Rattle.sixel_base.specs.Payload.{Image}
use Rattle.sixel_encoder.specs.Encoding.{square_value}
use Rattle.sixel.specs.declared.netpbm.error.NetpbmError.{NetpbmError}
use Rattle.sixel.specs.declared.netpbm.error.NetpbmError.TheVariants.{Incomplete}
use Rattle.sixel.specs.netpbm.{Fields.Read, Header.header_of, Raster.{pixels_of, raster_len}}

-- the image with this header, whose pixels begin these bytes: square pixels on a transparent
-- background
abbrev pub image_read : Read → Result Image NetpbmError
image_read (Err error) = Err error
image_read (Ok (header, raster)) =
    if nat_lt (length raster) (raster_len header) then Err Incomplete
    else Ok (square_value (pixels_of header raster) header.width header.height)

-- the first image of a file
abbrev pub image_of : List ℕ → Result Image NetpbmError
image_of bytes = image_read (header_of bytes)
