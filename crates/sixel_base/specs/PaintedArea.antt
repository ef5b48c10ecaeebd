-- The painted area of a payload inside the clip. The extent of a row is the greatest right edge of
-- a sixel that covers a pixel of it, and the painted area is the sum over all rows. The measure is
-- this library's own, and does not depend on how pixels are stored. Where sixels are drawn, by
-- DEC's manual, is in Place.
use Rattle.std.specs.Prelude.{ℕ, ◌+◌, max, min, ◌&&◌, if◌then◌else◌, List, [], ◌∷◌}
use Rattle.sixel_base.specs.Clip.{clipped_bits, clipped_height, clipped_width, is_inside}
use Rattle.sixel_base.specs.{History.{Sixel, History}, Limits.Limit, Payload.settled_tokens}
use Rattle.sixel_base.specs.{Picture.{is_struck, total}, Place.{span, across, down, height}}

-- the greatest right edge of a sixel that covers a pixel of the row, 0 where none does
abbrev pub row_extent : Limit → History → ℕ → ℕ
row_extent limit [] row = 0
row_extent limit (Sixel bits ∷ older) row =
    if is_inside limit older && is_struck (down older) (clipped_bits limit (down older) bits) row
    then max (row_extent limit older row) (min (across older + span older) limit.columns)
    else row_extent limit older row
row_extent limit (_ ∷ older) row = row_extent limit older row

-- the sum over all rows, since from the height on no sixel covers one
abbrev pub painted_area : Limit → History → ℕ
painted_area limit history = total (row_extent limit history) (height history)

-- the width and the height that a picture has inside the clip so far
abbrev pub size : Limit → History → ℕ × ℕ
size limit history = (clipped_width limit history, clipped_height limit history)

-- both of a payload, as far as no further byte can change its tokens
abbrev pub payload_painted_area : Limit → List ℕ → ℕ
payload_painted_area limit bytes = painted_area limit (settled_tokens limit bytes)

abbrev pub payload_size : Limit → List ℕ → ℕ × ℕ
payload_size limit bytes = size limit (settled_tokens limit bytes)
