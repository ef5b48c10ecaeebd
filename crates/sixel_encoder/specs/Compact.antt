-- The compact text of a drawing: it draws the pixels of the plain text in fewer bytes. Registers
-- that no pixel has are not defined, apart from the background of an opaque drawing. A run may
-- cover pixels that a later segment of the band draws over. The rows of a band share passes, and no
-- band follows the last that is used. Where the plain text is shorter, that is the text.
use Rattle.std.specs.{Int.Bits.{bit_or, bit_and}, List.range_with_len, Prelude.{◌≡◌, ℕ, zero, suc}}
use Rattle.std.specs.Prelude.{◌+◌, ◌-◌, ◌*◌, ◌==◌, nat_le, nat_lt, Bool, ◌&&◌, if◌then◌else◌, List}
use Rattle.std.specs.Prelude.{[], ◌∷◌, ◌++◌, length, map, replicate, codes, false, not, Option}
use Rattle.std.specs.Prelude.{Some, None, is_some, slice_index}
use Rattle.sixel_base.specs.{Payload.Image, Picture.joined}
use Rattle.sixel_encoder.specs.{declared.segments.Segment.Segment, Encoding.IsDrawing, Marks.Mark}
use Rattle.sixel_encoder.specs.Marks.{Pick, Draw, Back, Next, marks_payload}
use Rattle.sixel_encoder.specs.RegisterOrder.{number_of, numbered_definitions}
use Rattle.sixel_encoder.specs.{Segments.drawn_segments, Text.{Drawing, entry_at, mask, sixel_of}}
use Rattle.sixel_encoder.specs.{Text.{bands, parameters_text, text_of}, Trip.{is_used, bands_up_to}}

-- ---- the row of a segment

-- the transparent pixels of a column of a band
abbrev pub transparent_sixel : Drawing → ℕ → ℕ → ℕ
transparent_sixel drawing band column =
    mask (λ bit. not (is_some (entry_at drawing column (6 * band + bit)))) 6

-- of all its columns: what may not be covered when a band begins
abbrev pub transparent_row : Drawing → ℕ → List ℕ
transparent_row drawing band = map (transparent_sixel drawing band) (range_with_len 0 drawing.width)

-- what may not be covered in a column after a segment: the pixels of the segment, too
abbrev pub blocked_sixel : Drawing → ℕ → List ℕ → Segment → ℕ → ℕ
blocked_sixel drawing band blocked segment column =
    if nat_le segment.first column && nat_lt column segment.end
    then bit_or (slice_index blocked column) (sixel_of drawing band segment.entry column)
    else slice_index blocked column

-- in all columns
abbrev pub blocked_after : Drawing → ℕ → List ℕ → Segment → List ℕ
blocked_after drawing band blocked segment =
    map (blocked_sixel drawing band blocked segment) (range_with_len 0 (length blocked))

-- the bits that some of a count of sixels from one on have
unfoldable pub union : List ℕ → ℕ → ℕ → ℕ
union sixels from zero = 0
union sixels from (suc n) = bit_or (union sixels from n) (slice_index sixels (from + n))

-- The sixels of a count of columns and of the columns after them: a run goes on as long as it
-- covers all its own pixels and none that is blocked.
abbrev pub fill_after : (ℕ → ℕ) → (ℕ → ℕ) → ℕ → ℕ → ℕ → List ℕ → List ℕ
fill_after own blocked bits ban count [] = replicate count bits
fill_after own blocked bits ban count (column ∷ columns) =
    if bit_and (bit_or bits (own column)) (bit_or ban (blocked column)) == 0
    then fill_after own blocked (bit_or bits (own column)) (bit_or ban (blocked column)) (count + 1)
    columns
    else replicate count bits ++ fill_after own blocked (own column) (blocked column) 1 columns

-- the row of a segment from a column on
abbrev pub segment_row : Drawing → ℕ → List ℕ → Segment → ℕ → List ℕ
segment_row drawing band blocked segment from =
    fill_after (sixel_of drawing band segment.entry) (slice_index blocked) 0
    (union blocked from (segment.first - from)) (segment.first - from)
    (range_with_len segment.first (segment.end - segment.first))

-- ---- the marks of a band

-- What is drawn of a band: the column of the pen, the register that is selected, and the pixels
-- that may not be covered.
pub record Drawn : Type 0 where
  pub column : ℕ
  pub register : Option ℕ
  pub blocked : List ℕ

-- where the row of a segment begins: at the pen, or at the left if the segment begins left of it
abbrev pub start_column : ℕ → Segment → ℕ
start_column column segment = if nat_le column segment.first then column else 0

-- back to the left, if the segment begins left of the pen
abbrev pub to_segment : ℕ → Segment → List Mark
to_segment column segment = if nat_le column segment.first then [] else Back ∷ []

-- whether the register is selected
abbrev pub is_selected : ℕ → Option ℕ → Bool
is_selected register None = false
is_selected register (Some other) = register == other

-- into a register, if another is selected
abbrev pub to_register : ℕ → Option ℕ → List Mark
to_register register selected =
    if is_selected register selected then [] else Pick register ∷ []

-- the marks of a segment: to its left, into its register, and its row
abbrev pub segment_marks : Drawing → ℕ → Drawn → Segment → List Mark
segment_marks drawing band drawn segment =
    to_segment drawn.column segment
    ++ (to_register (number_of drawing segment.entry) drawn.register
    ++ (Draw
    (segment_row drawing band drawn.blocked segment (start_column drawn.column segment)) ∷ []))

-- what is drawn after it
abbrev pub drawn_after : Drawing → ℕ → Drawn → Segment → Drawn
drawn_after drawing band drawn segment = record {
  column = segment.end;
  register = Some (number_of drawing segment.entry);
  blocked = blocked_after drawing band drawn.blocked segment;
}

-- the marks of some segments
abbrev pub segments_marks : Drawing → ℕ → Drawn → List Segment → List Mark
segments_marks drawing band drawn [] = []
segments_marks drawing band drawn (segment ∷ segments) =
    segment_marks drawing band drawn segment
    ++ segments_marks drawing band (drawn_after drawing band drawn segment) segments

-- what is drawn after them
abbrev pub drawn_by : Drawing → ℕ → Drawn → List Segment → Drawn
drawn_by drawing band drawn [] = drawn
drawn_by drawing band drawn (segment ∷ segments) =
    drawn_by drawing band (drawn_after drawing band drawn segment) segments

-- what is drawn when a band begins
abbrev pub nothing_of : Drawing → ℕ → Option ℕ → Drawn
nothing_of drawing band register = record {
  column = 0;
  register = register;
  blocked = transparent_row drawing band;
}

-- down to a band from the one above
abbrev pub to_band : ℕ → List Mark
to_band zero = []
to_band (suc band) = Next ∷ []

-- the marks of a band, if this register is selected before it
abbrev pub band_marks : Drawing → ℕ → Option ℕ → List Mark
band_marks drawing band register =
    to_band band
    ++ segments_marks drawing band (nothing_of drawing band register) (drawn_segments drawing band)

-- the register that is selected after the band
abbrev pub band_register : Drawing → ℕ → Option ℕ → Option ℕ
band_register drawing band register =
    (drawn_by drawing band (nothing_of drawing band register)
    (drawn_segments drawing band)).register

-- the register that is selected after n bands
unfoldable pub register_after : Drawing → ℕ → Option ℕ
register_after drawing zero = None
register_after drawing (suc n) = band_register drawing n (register_after drawing n)

-- ---- the text

-- the marks of a band of the text
abbrev pub compact_band : Drawing → ℕ → List Mark
compact_band drawing band = band_marks drawing band (register_after drawing band)

-- the marks of the compact text
abbrev pub compact_marks : Drawing → List Mark
compact_marks drawing =
    joined (compact_band drawing) (bands_up_to (is_used drawing) (bands drawing.height))

-- the text of these marks
abbrev pub marked_text : Drawing → List ℕ
marked_text drawing =
    parameters_text drawing
    ++ (marks_payload drawing (numbered_definitions drawing) (compact_marks drawing)
    ++ 27 ∷ codes "\\")

-- the compact text
abbrev pub compact_text : Drawing → List ℕ
compact_text drawing =
    if nat_lt (length (text_of drawing)) (length (marked_text drawing)) then text_of drawing
    else marked_text drawing

-- the bytes are the compact text of the image
abbrev pub IsCompactText : Image → ℕ → List ℕ → Type 0
IsCompactText image max_colors bytes =
    (drawing : Drawing) × IsDrawing image max_colors drawing × (bytes ≡ compact_text drawing)
