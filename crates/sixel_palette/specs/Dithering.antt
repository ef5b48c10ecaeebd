-- Palette indices of an image's pixels in a given palette. Undithered pixels have chosen entries.
-- So have those of ordered dithering, whose colors are moved first. By error diffusion, an opaque
-- pixel has the entry that is nearest to its target, its color with the errors that it receives,
-- or it keeps the entry of a neighbor that is hardly farther. This diffusion is that of R. W. Floyd
-- and L. Steinberg, "An adaptive algorithm for spatial greyscale", Proceedings of the Society for
-- Information Display 17 (1976), 75-77, in serpentine order and in whole sixteenths.
use Rattle.std.specs.{Option.option_or, Prelude.{◌≡◌, ℕ, zero, suc, ◌+◌, ◌-◌, ◌*◌, ◌/◌, ◌%◌, ◌<◌}}
use Rattle.std.specs.Prelude.{◌≤◌, ◌==◌, nat_le, nat_lt, min, max, if◌then◌else◌, List, [], ◌∷◌}
use Rattle.std.specs.Prelude.{length, slice_index, slice_index_or, Option, Some, None}
use Rattle.sixel_base.specs.CallFault.{CallFault, color_count_fault, size_call_fault}
use Rattle.sixel_base.specs.declared.error.SixelError.{SixelError}
use Rattle.sixel_base.specs.declared.error.SixelError.TheVariants.{InvalidDimensions}
use Rattle.sixel_base.specs.declared.error.SixelError.TheVariants.{BufferSizeMismatch}
use Rattle.sixel_palette.specs.{Gray.source_pixels, Palette.AreIndices}
use Rattle.sixel_palette.specs.Palette.{IsNearest, IsOpaque, color_at, entry_distance, entry_of}
use Rattle.sixel_palette.specs.{Palette.nearest, Pattern.{Pattern, moved_pixels}}
use Rattle.sixel_palette.specs.Refined.{opaque_pixels, sum_to, summed_error}
use Rattle.sixel_palette.specs.Undithered.{AreChosen, Undithered}
use Rattle.sixel_palette.specs.declared.{dither.Amplitude.Amplitude, dither.Dither.Dither}
use Rattle.sixel_palette.specs.declared.dither.Dither.TheVariants.{Off, Diffusion, Ordered}
use Rattle.sixel_palette.specs.declared.{mapping.Mapping.Mapping, mapping.Tolerance.Tolerance}
use Rattle.sixel_palette.specs.declared.mapping.Tolerance.TheVariants.{Auto, Squared}
use Rattle.sixel_palette.specs.declared.dither.Amplitude.TheVariants.{Auto as AutoAmplitude, Levels}
use Rattle.sixel_palette.specs.declared.dither.Amplitude.TheVariants.{Refined as RefinedAmplitude}

-- ---- errors of a call

-- the number of bytes of the whole rows among these bytes
abbrev pub whole_rows : ℕ → ℕ → ℕ
whole_rows bytes width = 4 * (bytes / 4 / width * width)

-- rows without a pixel, or bytes that are not whole rows
abbrev pub rows_fault : ℕ → ℕ → Option SixelError
rows_fault bytes width =
    if width == 0 then Some (InvalidDimensions 0 0)
    else if bytes == whole_rows bytes width then None
    else Some (BufferSizeMismatch (whole_rows bytes width) bytes)

-- what is wrong with this number of bytes in rows of this width, and this number of colors
abbrev pub indices_fault : ℕ → ℕ → ℕ → Option CallFault
indices_fault bytes width colors =
    option_or (size_call_fault (rows_fault bytes width)) (color_count_fault colors)

-- ---- the order of visits

-- an image that is mapped to a palette: `strength` eighths of each error are passed on, and an
-- entry may be farther than the nearest one by the tolerance
pub record Mapped : Type 0 where
  pub width : ℕ
  pub pixels : List ℕ
  pub colors : List (List ℕ)
  pub strength : ℕ
  pub tolerance : ℕ

-- the column of a step of a row: even rows go from the left, odd rows from the right
abbrev pub column_of_step : ℕ → ℕ → ℕ → ℕ
column_of_step width row step = if row % 2 == 0 then step else width - 1 - step

-- The order of visits, row by row from the top: the pixel of a visit, and as well the visit of a
-- pixel.
abbrev pub serpentine : ℕ → ℕ → ℕ
serpentine width n = n / width * width + column_of_step width (n / width) (n % width)

-- ---- the entry of a pixel

-- the entry of the pixel that is visited before this visit's, in the same row
abbrev pub entry_before : Mapped → List ℕ → ℕ → Option ℕ
entry_before m indices n =
    if n % m.width == 0 then None else entry_of m.pixels indices (serpentine m.width (n - 1))

-- the entry of the pixel above, in the same band of six rows
abbrev pub entry_above : Mapped → List ℕ → ℕ → Option ℕ
entry_above m indices n =
    if n / m.width % 6 == 0 then None
    else entry_of m.pixels indices (serpentine m.width n - m.width)

-- of two entries the one nearer to a color, the first one on ties
abbrev pub nearer_entry : List (List ℕ) → List ℕ → Option ℕ → Option ℕ → Option ℕ
nearer_entry colors c None second = second
nearer_entry colors c (Some first) None = Some first
nearer_entry colors c (Some first) (Some second) =
    if nat_lt (entry_distance colors c second) (entry_distance colors c first) then Some second
    else Some first

-- the entry of a neighbor that the pixel of a visit may keep
abbrev pub neighbor_of : Mapped → List ℕ → List ℕ → ℕ → Option ℕ
neighbor_of m target indices n =
    nearer_entry m.colors target (entry_before m indices n) (entry_above m indices n)

-- The index is that of the neighbor's entry, if its squared distance to the target is below that of
-- the nearest entry plus the tolerance. Otherwise it is that of the nearest entry, the first of
-- equals.
pub record IsIndex (m : Mapped) (target : List ℕ) (neighbor : Option ℕ) (index : ℕ)
    : Type 0 where
  pub entry : index < length m.colors
  pub kept : (entry : ℕ) → neighbor ≡ Some entry
      → entry_distance m.colors target entry < nearest m.colors target + m.tolerance
      → index ≡ entry
  pub nearest : ((entry : ℕ) → neighbor ≡ Some entry
      → nearest m.colors target + m.tolerance ≤ entry_distance m.colors target entry)
      → IsNearest m.colors target index

-- the pixel of a visit has the index for its target, and 0 if it is transparent
pub record HasTarget (m : Mapped) (target : List ℕ) (indices : List ℕ) (n : ℕ) : Type 0 where
  pub opaque : IsOpaque m.pixels (serpentine m.width n)
      → IsIndex m target (neighbor_of m target indices n)
      (slice_index indices (serpentine m.width n))
  pub hidden : slice_index m.pixels (4 * serpentine m.width n + 3) < 128
      → slice_index indices (serpentine m.width n) ≡ 0

-- ---- ordered dithering

-- the same mapping of other pixels
abbrev pub with_pixels : Mapped → List ℕ → Mapped
with_pixels m pixels = record {
  width = m.width;
  pixels = pixels;
  colors = m.colors;
  strength = m.strength;
  tolerance = m.tolerance;
}

abbrev pub moved_image : Mapped → Pattern → Mapped
moved_image m pattern = with_pixels m (moved_pixels pattern m.width m.pixels)

-- ---- error diffusion

-- An error is a color's difference to its entry in each channel, in sixteenths. It is stored as its
-- distance from the lowest one, so that it is natural. This is no error.
abbrev pub no_error : ℕ → List ℕ
no_error strength = 512 * strength ∷ 512 * strength ∷ 512 * strength ∷ []

-- The shares of an error: 7/16 for the next pixel of the row; in the row below 3/16 for the pixel
-- before, 5/16 for the one below, and the rest, about 1/16, for the next one.
abbrev pub next_share : ℕ → ℕ
next_share error = 7 * error / 16

abbrev pub before_share : ℕ → ℕ
before_share error = 3 * error / 16

abbrev pub below_share : ℕ → ℕ
below_share error = 5 * error / 16

abbrev pub rest_share : ℕ → ℕ
rest_share error = error - next_share error - before_share error - below_share error

-- the error of the visit that is `back` visits before, where there is one
abbrev pub error_back : Mapped → List (List ℕ) → ℕ → List ℕ
error_back m errors back = slice_index_or errors back (no_error m.strength)

-- the error of the pixel before a step of its row
abbrev pub error_before : Mapped → List (List ℕ) → ℕ → List ℕ
error_before m errors step =
    if step == 0 then no_error m.strength else error_back m errors 0

-- The errors of the row above are one row of steps back, which went the other way: that of the
-- pixel above the one before, of the one above, and of the one above the next.
abbrev pub error_behind : Mapped → List (List ℕ) → ℕ → List ℕ
error_behind m errors step =
    if step == 0 then no_error m.strength else error_back m errors (2 * step - 1)

abbrev pub error_above : Mapped → List (List ℕ) → ℕ → List ℕ
error_above m errors step = error_back m errors (2 * step)

abbrev pub error_beyond : Mapped → List (List ℕ) → ℕ → List ℕ
error_beyond m errors step =
    if step + 1 == m.width then no_error m.strength else error_back m errors (2 * step + 1)

-- what the pixel at a step of its row receives in a channel
abbrev pub received : Mapped → List (List ℕ) → ℕ → ℕ → ℕ
received m errors step channel =
    next_share (slice_index (error_before m errors step) channel)
    + before_share (slice_index (error_behind m errors step) channel)
    + below_share (slice_index (error_above m errors step) channel)
    + rest_share (slice_index (error_beyond m errors step) channel)

-- a channel in sixteenths with what is received, from 0 to 16 * 255
abbrev pub with_received : ℕ → ℕ → ℕ → ℕ
with_received strength value received = min 4080 (16 * value + received - 512 * strength)

-- the channel of a visit with what its pixel receives, after the errors of earlier visits
abbrev pub sixteenths : Mapped → List (List ℕ) → ℕ → ℕ → ℕ
sixteenths m errors n channel =
    with_received m.strength (slice_index m.pixels (4 * serpentine m.width n + channel))
    (received m errors (n % m.width) channel)

-- sixteenths as a channel, rounded half up
abbrev pub rounded_sixteenths : ℕ → ℕ
rounded_sixteenths value = (value + 8) / 16

-- the target of a visit
abbrev pub target_of_visit : Mapped → List (List ℕ) → ℕ → List ℕ
target_of_visit m errors n =
    rounded_sixteenths (sixteenths m errors n 0) ∷ rounded_sixteenths (sixteenths m errors n 1)
    ∷ rounded_sixteenths (sixteenths m errors n 2) ∷ []

-- what is passed on in a channel: `strength` eighths of the difference to the entry, rounded down
abbrev pub passed_on : ℕ → ℕ → ℕ → ℕ
passed_on strength value entry = (value + 4096 - 16 * entry) * strength / 8

-- the error of a visit in a channel, if its pixel has this entry
abbrev pub channel_error : Mapped → List (List ℕ) → ℕ → List ℕ → ℕ → ℕ
channel_error m errors n entry channel =
    passed_on m.strength (sixteenths m errors n channel) (slice_index entry channel)

-- the error of a visit whose pixel is opaque
abbrev pub opaque_error : Mapped → List (List ℕ) → ℕ → List ℕ → List ℕ
opaque_error m errors n entry =
    channel_error m errors n entry 0 ∷ channel_error m errors n entry 1
    ∷ channel_error m errors n entry 2 ∷ []

-- the error of a visit: a transparent pixel has none
abbrev pub visit_error : Mapped → List ℕ → List (List ℕ) → ℕ → List ℕ
visit_error m indices errors n =
    if nat_le 128 (slice_index m.pixels (4 * serpentine m.width n + 3))
    then opaque_error m errors n
    (slice_index_or m.colors (slice_index indices (serpentine m.width n)) [])
    else no_error m.strength

-- the errors of the first n visits, the newest first
unfoldable pub errors_of : Mapped → List ℕ → ℕ → List (List ℕ)
errors_of m indices zero = []
errors_of m indices (suc n) =
    visit_error m indices (errors_of m indices n) n ∷ errors_of m indices n

-- the pixels of the first n visits have the indices for their targets
abbrev pub AreVisited : Mapped → List ℕ → ℕ → Type 0
AreVisited m indices n =
    (k : ℕ) → k < n → HasTarget m (target_of_visit m (errors_of m indices k) k) indices k

-- so have all pixels
pub record AreDiffused (m : Mapped) (indices : List ℕ) : Type 0 where
  pub one_each : length indices ≡ length m.pixels / 4
  pub each : AreVisited m indices (length m.pixels / 4)

-- ---- all kinds

-- a strength in eighths
abbrev pub eighths : ℕ → ℕ
eighths strength = max 1 (min strength 8)

-- the mean squared error of a palette over the opaque pixels, rounded down
abbrev pub mean_error : List (List ℕ) → List ℕ → ℕ
mean_error colors pixels = summed_error colors pixels / max 1 (opaque_pixels pixels (λ _. 1))

-- the squared distance of a pixel's color to the entry of its index, 0 for a transparent pixel
abbrev pub pixel_index_error : List (List ℕ) → List ℕ → List ℕ → ℕ → ℕ
pixel_index_error colors pixels indices pixel =
    if nat_lt (slice_index pixels (4 * pixel + 3)) 128 then 0
    else entry_distance colors (color_at pixels pixel) (slice_index indices pixel)

-- the summed squared error of palette indices, over all pixels
abbrev pub index_error : List (List ℕ) → List ℕ → List ℕ → ℕ
index_error colors pixels indices =
    sum_to (pixel_index_error colors pixels indices) (length pixels / 4)

-- the automatic tolerance for a mean error, which is greater where entries are chosen
abbrev pub automatic_tolerance : Dither → ℕ → ℕ
automatic_tolerance Off mean = 3 * max 12 mean
automatic_tolerance (Ordered amplitude) mean = 2 * max 12 mean
automatic_tolerance (Diffusion strength) mean = max 12 mean

-- the tolerance for a palette
abbrev pub tolerance_of : Dither → Tolerance → List (List ℕ) → List ℕ → ℕ
tolerance_of dither (Squared tolerance) colors pixels = tolerance
tolerance_of dither Auto colors pixels =
    if summed_error colors pixels == 0 then 0
    else automatic_tolerance dither (mean_error colors pixels)

-- the square root of a number, rounded down, but at most so much
unfoldable pub root : ℕ → ℕ → ℕ
root number zero = 0
root number (suc n) = if nat_le (suc n * suc n) number then suc n else root number n

-- the amplitude for a palette: the distance of evenly spaced levels with this mean error, and half
-- of that if the palette is refined for the image
abbrev pub amplitude_of : Amplitude → List (List ℕ) → List ℕ → ℕ
amplitude_of (Levels amplitude) colors pixels = amplitude
amplitude_of AutoAmplitude colors pixels = root (4 * mean_error colors pixels) 255
amplitude_of RefinedAmplitude colors pixels = root (mean_error colors pixels) 255

-- a color stays if its squared distance is below this: one more than a quarter of the mean error,
-- which is taken as at most 12 unless the palette is refined for the image
abbrev pub limit_of : Amplitude → List (List ℕ) → List ℕ → ℕ
limit_of (Levels amplitude) colors pixels = 0
limit_of AutoAmplitude colors pixels = min 12 (mean_error colors pixels / 4) + 1
limit_of RefinedAmplitude colors pixels = mean_error colors pixels / 4 + 1

-- the pattern for a palette
abbrev pub pattern_of : Amplitude → List (List ℕ) → List ℕ → Pattern
pattern_of amplitude colors pixels = record {
  colors = colors;
  amplitude = amplitude_of amplitude colors pixels;
  limit = limit_of amplitude colors pixels;
}

-- how pixels are mapped to a palette that is refined for them
abbrev pub refined_dither : Dither → Dither
refined_dither (Ordered AutoAmplitude) = Ordered RefinedAmplitude
refined_dither dither = dither

abbrev pub refined_mapping : Mapping → Mapping
refined_mapping mapping = record {
  dither = refined_dither mapping.dither;
  tolerance = mapping.tolerance;
}

-- how many eighths of an error a kind of dithering passes on
abbrev pub strength_of : Dither → ℕ
strength_of (Diffusion strength) = eighths strength
strength_of dither = 0

-- an image that is mapped
abbrev pub mapped_of : Mapping → ℕ → List ℕ → List (List ℕ) → Mapped
mapped_of mapping width pixels colors = record {
  width = width;
  pixels = pixels;
  colors = colors;
  strength = strength_of mapping.dither;
  tolerance = tolerance_of mapping.dither mapping.tolerance colors pixels;
}

-- indices that are chosen, and those of nearest entries
abbrev pub undithered_of : Mapped → List ℕ → List ℕ → Undithered
undithered_of m nearest indices = record {
  width = m.width;
  pixels = m.pixels;
  colors = m.colors;
  price = m.tolerance;
  nearest = nearest;
  chosen = indices;
}

abbrev pub HaveChoice : Mapped → List ℕ → Type 0
HaveChoice m indices =
    (nearest : List ℕ) × AreIndices m.pixels m.colors nearest
    × AreChosen (undithered_of m nearest indices)

-- each pixel has the index that is chosen for its color or its moved color, or that for its target
abbrev pub HaveIndices : Dither → Mapped → List ℕ → Type 0
HaveIndices Off m indices = HaveChoice m indices
HaveIndices (Ordered amplitude) m indices =
    HaveChoice (moved_image m (pattern_of amplitude m.colors m.pixels)) indices
HaveIndices (Diffusion strength) m indices = AreDiffused m indices

-- so it is in a palette
abbrev pub HaveTargets : Mapping → ℕ → List ℕ → List (List ℕ) → List ℕ → Type 0
HaveTargets mapping width pixels colors indices =
    HaveIndices mapping.dither (mapped_of mapping width pixels colors) indices

-- the indices are those of the pixels in the palette
abbrev pub AreDithered : Mapping → ℕ → List ℕ → List (List ℕ) → List ℕ → Type 0
AreDithered mapping width pixels colors indices =
    HaveTargets mapping width (source_pixels mapping colors pixels) colors indices
