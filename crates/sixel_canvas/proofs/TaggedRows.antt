-- What a row with tags shows once a tag was painted, a run was painted, or its tiles were tagged.
use Rattle.std.proofs.Common.{◌≡◌, ℕ, ◌+◌, ◌*◌, ◌/◌, ◌%◌, ◌<◌, ◌≤◌, ◌&&◌, min, max, true}
use Rattle.std.proofs.Common.{false, List, length, get_or, ap, ◌∙◌, arith}
use Rattle.std.specs.Prelude.{nat_lt, nat_le, if◌then◌else◌}
use Rattle.std.proofs.lemmas.{Bool.Decides.nat_tests, List.get_or_past}
use Rattle.sixel_canvas.specs.Row.{RowState, IsThrifty, painted, reached_to}
use Rattle.sixel_canvas.specs.inside.TaggedRow.{TaggedRowState, IsTaggedRow, IsUntagged, tag_of}
use Rattle.sixel_canvas.specs.inside.TaggedRow.{tagged_pixel, tagged_row_state}
use Rattle.sixel_canvas.specs.inside.Tags.{is_tag, no_tag, under}
use Rattle.sixel_canvas.proofs.RowPixels.{grown_length, grown_pixel, painted_left, painted_length}
use Rattle.sixel_canvas.proofs.RowPixels.{painted_pixel, painted_right}
use Rattle.sixel_base.proofs.PictureBytes.{joined-same}

-- a row that was grown shows what it showed
pub tagged_grown : (columns : ℕ) (line : TaggedRowState) (column : ℕ)
    → tagged_pixel (record line { row = reached_to columns line.row }) column
    ≡ tagged_pixel line column
tagged_grown columns line column =
    ap (under (tag_of line (column / 128))) (grown_pixel columns line.row column)

-- what a row shows that was painted over columns without a tag
pub painted_untagged :
    (line : TaggedRowState) (from to column : ℕ) (color : List ℕ) → from ≤ to
    → to ≤ length line.row.pixels
    → (from ≤ column → column < to → is_tag (tag_of line (column / 128)) ≡ false)
    → tagged_pixel (record line { row = painted from to color line.row }) column
    ≡ (if nat_le from column && nat_lt column to then color else tagged_pixel line column)
painted_untagged line from to column color order held none =
    grind (arith, nat_tests, painted_pixel)

-- what a row shows whose tiles were tagged, and whose two ends were painted
pub tagged_tiles :
    (line : TaggedRowState) (from to first last column : ℕ) (color : List ℕ)
    → first ≡ from / 128 + min 1 (from % 128) → last ≡ to / 128 → first < last
    → to ≤ length line.row.pixels → last ≤ length line.tags.pixels → is_tag color ≡ true
    → is_tag (tag_of line (from / 128)) ≡ false → is_tag (tag_of line (to / 128)) ≡ false
    → tagged_pixel
    (tagged_row_state (painted (last * 128) to color (painted from (first * 128) color line.row))
    (painted first last color line.tags) line.appended) column
    ≡ (if nat_le from column && nat_lt column to then color else tagged_pixel line column)
tagged_tiles line from to first last column color first_is last_is some held tags_held visible
    left_none right_none =
    let back = line.row.background in
    let early = painted from (first * 128) color line.row in
    let long = painted_length from (first * 128) color line.row (omega arith) (omega arith) in
    rw (
      painted_pixel first last color line.tags (column / 128) no_tag (omega arith) tags_held,
      painted_pixel (last * 128) to color early column back (omega arith) (omega arith),
      painted_pixel from (first * 128) color line.row column back (omega arith) (omega arith),
    ) (grind (arith, nat_tests))

-- a tile for which there is no memory has no tag
pub none_past : (line : TaggedRowState) (tile : ℕ) → length line.tags.pixels ≤ tile
    → is_tag (tag_of line tile) ≡ false
none_past line tile past = ap is_tag (get_or_past line.tags.pixels tile no_tag past)

-- what a row shows that was grown and painted, over columns without a tag
pub drawn_untagged :
    (line : TaggedRowState) (row early : RowState) (from to column : ℕ) (color : List ℕ) → from < to
    → early ≡ reached_to to line.row → row ≡ painted from to color early
    → (from ≤ column → column < to → is_tag (tag_of line (column / 128)) ≡ false)
    → tagged_pixel (record line { row = row }) column
    ≡ (if nat_le from column && nat_lt column to then color else tagged_pixel line column)
drawn_untagged line row early from to column color order grown is none =
    let wide = record line { row = reached_to to line.row } in
    let held : to ≤ length wide.row.pixels = omega (arith, grown_length to line.row) in
    ap (λ r. tagged_pixel (record line { row = r }) column) (is ∙ ap (painted from to color) grown)
    ∙ painted_untagged wide from to column color (omega (arith, order)) held none
    ∙ ap (λ p. if nat_le from column && nat_lt column to then color else p)
    (tagged_grown to line column)

pub untagged_row :
    (line : TaggedRowState) (tag : List ℕ) (early late tags : RowState)
    (tile from to left right : ℕ) → IsTaggedRow line → is_tag tag ≡ true
    → tag ≡ get_or line.tags.pixels tile line.tags.background → from ≤ to
    → left ≡ max (tile * 128) (min from (tile * 128 + 128))
    → right ≡ max (tile * 128) (min to (tile * 128 + 128))
    → early ≡ painted (tile * 128) left tag line.row
    → late ≡ painted right (tile * 128 + 128) tag early
    → tags ≡ painted tile (tile + 1) no_tag line.tags → IsThrifty late → IsThrifty tags
    → IsUntagged line (tagged_row_state late tags line.appended) tile from to
untagged_row line tag early late tags tile from to left right is visible tag_is order left_is
    right_is early_is late_is tags_are late_thrifty tags_thrifty =
    grind (arith, painted_pixel, painted_left, painted_length, painted_right, get_or_past)

-- what the calls of a row with tags need
pub ruleset tagged_steps = (drawn_untagged, none_past, tagged_grown, grown_pixel, joined-same)

-- what tagging tiles needs
pub ruleset tagged_ends = (tagged_tiles, painted_length)
