-- Lloyd's algorithm (S. P. Lloyd, "Least squares quantization in PCM", 1982): each entry moves to
-- the mean of the pixels that have it. All pixels of a bin have the entry nearest to their mean.
use Rattle.std.specs.Prelude.{ℕ, ◌/◌, ◌==◌, ◌&&◌, suc, Bool, nat_le, if◌then◌else◌, List, [], ◌∷◌}
use Rattle.std.specs.{Prelude.{length, map, slice_index, slice_index_or}, List.range_with_len}
use Rattle.sixel_palette.specs.{ColorSums.{Pixels, sums_of, mean_or}, GainCut.corner}
use Rattle.sixel_palette.specs.Palette.{distance, nearest}

-- two corners are the same
abbrev pub is_corner : List ℕ → List ℕ → Bool
is_corner a b =
    (slice_index a 0 == slice_index b 0) && (slice_index a 1 == slice_index b 1)
    && (slice_index a 2 == slice_index b 2)

-- the mean of sums, rounded down
unfoldable pub mean_bytes : (ℕ → ℕ) → List ℕ
mean_bytes sums = sums 1 / sums 0 ∷ sums 2 / sums 0 ∷ sums 3 / sums 0 ∷ []

-- the mean color of the bin of a corner
abbrev pub bin_mean : Pixels → List ℕ → List ℕ
bin_mean pixels place = mean_bytes (sums_of pixels (λ c. is_corner place (corner pixels.step c)))

-- the palette index of the nearest entry, the first of those
unfoldable pub nearest_index : List (List ℕ) → List ℕ → ℕ
nearest_index [] c = 0
nearest_index (p ∷ ps) c =
    if nat_le (distance p c) (nearest ps c) then 0 else suc (nearest_index ps c)

-- the colors whose bin has the entry
abbrev pub has_entry : Pixels → List (List ℕ) → ℕ → List ℕ → Bool
has_entry pixels entries index place = nearest_index entries (bin_mean pixels place) == index

-- each entry moves to the mean of the pixels that have it, and stays if there are none
abbrev pub moved_entries : Pixels → List (List ℕ) → List (List ℕ)
moved_entries pixels entries =
    map
    (λ index.
    mean_or (sums_of pixels (λ c. has_entry pixels entries index (corner pixels.step c)))
    (slice_index_or entries index []))
    (range_with_len 0 (length entries))

-- the entries after two rounds if these lower the summed squared error
abbrev pub improved_entries : Pixels → List (List ℕ) → List (List ℕ)
improved_entries pixels entries =
    if nat_le (pixels.sum (nearest entries))
    (pixels.sum (nearest (moved_entries pixels (moved_entries pixels entries)))) then entries
    else moved_entries pixels (moved_entries pixels entries)
