-- Boxes of colors, cut in two where the summed squared error falls most (X. Wu, "Color quantization
-- by dynamic programming and principal analysis", 1992). The gain is in sixteenths and rounded
-- down.
-- Ties are this library's.
use Rattle.std.specs.{Int.abs_diff, Prelude.{ℕ, ◌+◌, ◌-◌, ◌*◌, ◌/◌, ◌%◌, ◌==◌, ◌&&◌, ◌||◌, zero}}
use Rattle.std.specs.Prelude.{suc, Bool, true, nat_le, nat_lt, if◌then◌else◌, List, [], ◌∷◌, ◌++◌}
use Rattle.std.specs.Prelude.{length, map, slice_index, slice_index_or, slice_set}
use Rattle.sixel_base.specs.Color.{rgb}
use Rattle.sixel_palette.specs.declared.{palette.gain_cut.Channel.Channel, palette.gain_cut.Cut.Cut}
use Rattle.sixel_palette.specs.ColorSums.{Pixels, sums_of, mean_or}

-- the greatest number of colors of which each is a bin of its own
abbrev pub few_colors : ℕ
few_colors = 4096

-- how many values a channel has within a bin, by the number of colors. Of more colors, those whose
-- channels have the same six highest bits are one bin.
abbrev pub bin_step : ℕ → ℕ
bin_step colors = if nat_le colors few_colors then 1 else 4

-- the bin of a color
abbrev pub corner : ℕ → List ℕ → List ℕ
corner step c = slice_index c 0 / step ∷ slice_index c 1 / step ∷ slice_index c 2 / step ∷ []

-- a box is a set of corners
abbrev pub Box : Type 0
Box = List ℕ → Bool

-- where a channel is in a color
abbrev pub channel_place : Channel → ℕ
channel_place Channel.Red = 0
channel_place Channel.Green = 1
channel_place Channel.Blue = 2

-- the value of a channel of a corner
abbrev pub side : Channel → List ℕ → ℕ
side channel corner = slice_index corner (channel_place channel) % 256

-- the part of a box up to a value of a channel, and the part above it
abbrev pub below : Box → Channel → ℕ → Box
below box channel value corner = box corner && nat_le (side channel corner) value

abbrev pub above : Box → Channel → ℕ → Box
above box channel value corner = box corner && nat_lt value (side channel corner)

-- the sums over the pixels of a box
abbrev pub box_sums : Pixels → Box → ℕ → ℕ
box_sums pixels box = sums_of pixels (λ c. box (corner pixels.step c))

-- a mean in 256ths, rounded down, and the square of the difference of two means
abbrev pub fine_mean : ℕ → ℕ → ℕ
fine_mean sum count = 256 * sum / count

abbrev pub mean_gap : ℕ → ℕ → ℕ → ℕ → ℕ
mean_gap sum count other_sum other_count =
    abs_diff (fine_mean sum count) (fine_mean other_sum other_count)
    * abs_diff (fine_mean sum count) (fine_mean other_sum other_count)

-- how much the summed squared error falls if both parts have an entry of their own: the weight of
-- the parts times the squared distance of their means, in which green counts twice
unfoldable pub gain : (ℕ → ℕ) → (ℕ → ℕ) → ℕ
gain a b =
    if a 0 == 0 || b 0 == 0 then 0
    else (mean_gap (a 1) (a 0) (b 1) (b 0) + 2 * mean_gap (a 2) (a 0) (b 2) (b 0)
    + mean_gap (a 3) (a 0) (b 3) (b 0)) * (16 * a 0 * b 0 / (a 0 + b 0)) / 65536

-- the gain of a cut of a box
abbrev pub cut_gain : Pixels → Box → Channel → ℕ → ℕ
cut_gain pixels box channel value =
    gain (box_sums pixels (below box channel value)) (box_sums pixels (above box channel value))

-- the better one of two cuts, the first of equals
abbrev pub better : Cut → Cut → Cut
better old new = if nat_lt old.gain new.gain then new else old

-- the best one of a cut and those along a channel at the values below a number
unfoldable pub best_to : (ℕ → ℕ) → Channel → ℕ → Cut → Cut
best_to gains channel zero cut = cut
best_to gains channel (suc value) cut =
    better (best_to gains channel value cut)
    (record { channel = channel; value = value; gain = gains value })

-- the best cut of a box along a channel, if it is better than a cut
abbrev pub best_along : Pixels → Box → Channel → Cut → Cut
best_along pixels box channel cut = best_to (cut_gain pixels box channel) channel 255 cut

-- the best cut of a box
abbrev pub best_cut : Pixels → Box → Cut
best_cut pixels box =
    best_along pixels box Channel.Red (best_along pixels box Channel.Green
    (best_along pixels box Channel.Blue (record { channel = Channel.Red; value = 0; gain = 0 })))

-- the position of the greatest one of the numbers up to a position, the first of those
unfoldable pub first_greatest : (ℕ → ℕ) → ℕ → ℕ
first_greatest number zero = 0
first_greatest number (suc n) =
    if nat_lt (number (first_greatest number n)) (number (suc n)) then suc n
    else first_greatest number n

-- the box at a position
abbrev pub box_at : List Box → ℕ → Box
box_at boxes position = slice_index_or boxes position (λ _. true)

-- the gain of the best cut of the box at a position
abbrev pub gain_at : Pixels → List Box → ℕ → ℕ
gain_at pixels boxes position = (best_cut pixels (box_at boxes position)).gain

-- the position of the box whose cut gains most
abbrev pub best_box : Pixels → List Box → ℕ
best_box pixels boxes = first_greatest (gain_at pixels boxes) (length boxes - 1)

-- no cut of a box gains
abbrev pub is_final : Pixels → List Box → Bool
is_final pixels boxes = gain_at pixels boxes (best_box pixels boxes) == 0

-- the boxes after the box at a position is cut in two
abbrev pub cut_at : List Box → ℕ → Cut → List Box
cut_at boxes position cut =
    slice_set boxes position (below (box_at boxes position) cut.channel cut.value)
    ++ above (box_at boxes position) cut.channel cut.value ∷ []

-- the boxes after this number of cuts, or after which no cut gains
unfoldable pub boxes_after : Pixels → ℕ → List Box
boxes_after pixels zero = (λ _. true) ∷ []
boxes_after pixels (suc n) =
    if is_final pixels (boxes_after pixels n) then boxes_after pixels n
    else cut_at (boxes_after pixels n) (best_box pixels (boxes_after pixels n))
    (best_cut pixels (box_at (boxes_after pixels n) (best_box pixels (boxes_after pixels n))))

-- the colors of the boxes: of each the mean of its pixels
abbrev pub box_colors : Pixels → List Box → List (List ℕ)
box_colors pixels boxes = map (λ box. mean_or (box_sums pixels box) (rgb 0 0 0)) boxes
