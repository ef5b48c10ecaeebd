-- The segments of a band, and the order in which a compact text draws them. A segment is some
-- pixels of one palette entry between two columns. Where the rows are cut into segments, and that a
-- pass goes on with each segment that begins right of the pen, are rules of this library.
use Rattle.std.specs.Prelude.{ℕ, zero, suc, ◌+◌, ◌*◌, ◌/◌, ◌%◌, ◌==◌, nat_le, nat_lt, ◌&&◌}
use Rattle.std.specs.Prelude.{if◌then◌else◌, List, [], ◌∷◌, ◌++◌, length, Option, Some, None}
use Rattle.sixel_encoder.specs.{Text.{Drawing, entry_at}, declared.segments.Segment.Segment}

-- How many blank columns cut a row. An image of few colors is not cut.
abbrev pub gap_of : Drawing → ℕ
gap_of drawing = if nat_le (length drawing.colors) 24 then drawing.width else 10

-- the segments after one more pixel: the first near segment of its entry ends there, else it begins
-- a new one
abbrev pub with_pixel : ℕ → ℕ → ℕ → List Segment → List Segment
with_pixel gap column entry [] =
    record { entry = entry; first = column; end = column + 1 } ∷ []
with_pixel gap column entry (segment ∷ segments) =
    if segment.entry == entry && nat_lt column (segment.end + gap)
    then record { entry = segment.entry; first = segment.first; end = column + 1 } ∷ segments
    else segment ∷ with_pixel gap column entry segments

-- the segments after one more pixel, if it has an entry
abbrev pub with_place : ℕ → ℕ → Option ℕ → List Segment → List Segment
with_place gap column None segments = segments
with_place gap column (Some entry) segments = with_pixel gap column entry segments

-- the segments of the first n pixels of a band, column by column, each from the top
unfoldable pub segments_up_to : Drawing → ℕ → ℕ → List Segment
segments_up_to drawing band zero = []
segments_up_to drawing band (suc n) =
    with_place (gap_of drawing) (n / 6) (entry_at drawing (n / 6) (6 * band + n % 6))
    (segments_up_to drawing band n)

-- the segments of a band
abbrev pub band_segments : Drawing → ℕ → List Segment
band_segments drawing band = segments_up_to drawing band (6 * drawing.width)

-- the segments that a pass from a column on draws
abbrev pub in_pass : ℕ → List Segment → List Segment
in_pass column [] = []
in_pass column (segment ∷ segments) =
    if nat_le column segment.first then segment ∷ in_pass segment.end segments
    else in_pass column segments

-- the segments that it leaves
abbrev pub after_pass : ℕ → List Segment → List Segment
after_pass column [] = []
after_pass column (segment ∷ segments) =
    if nat_le column segment.first then after_pass segment.end segments
    else segment ∷ after_pass column segments

-- the segments pass by pass, in at most this number of passes
unfoldable pub passes : ℕ → List Segment → List Segment
passes zero segments = segments
passes (suc n) segments = in_pass 0 segments ++ passes n (after_pass 0 segments)

-- the segments of a band in the order in which they are drawn
abbrev pub drawn_segments : Drawing → ℕ → List Segment
drawn_segments drawing band =
    passes (length (band_segments drawing band)) (band_segments drawing band)
