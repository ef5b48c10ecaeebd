-- The pixels that are mapped: those of an image, or its grays. Errors of grays are gray.
use Rattle.std.proofs.Common.{◌≡◌, ℕ, zero, suc, ◌+◌, ◌*◌, ◌<◌, List, [], ◌∷◌, Bool, true, cond}
use Rattle.std.proofs.Common.{length, get_or, refl, ap, subst, ◌∙◌, arith, inl, inr, false}
use Rattle.std.{proofs.lemmas.Bool.{and_parts, cases_lt}, proofs.lemmas.Bool.Decides.nat_tests}
use Rattle.std.{proofs.lemmas.List.{get_or_default, get_or_past}, specs.Int.abs_diff}
use Rattle.std.specs.Prelude.{◌/◌, ◌%◌, ◌&&◌, Contains, slice_index, slice_index_or, All}
use Rattle.sixel_palette.specs.Palette.{AreIndices, IsOpaque, color_at, distance, square_gap}
use Rattle.sixel_palette.{specs.Palette.entry_of}
use Rattle.sixel_palette.{specs.declared.mapping.Mapping.Mapping, specs.Dithering.AreDithered}
use Rattle.sixel_palette.specs.Dithering.{mapped_of, Mapped, errors_of, no_error, opaque_error}
use Rattle.sixel_palette.specs.Dithering.{passed_on, received, sixteenths, target_of_visit}
use Rattle.sixel_palette.specs.Dithering.{error_above, error_before, error_behind, error_beyond}
use Rattle.sixel_palette.specs.Gray.{are_gray, gray_color, gray_pixel, gray_pixels, is_gray}
use Rattle.sixel_palette.specs.Gray.{maps_grays, source_pixels}
use Rattle.sixel_palette.proofs.mapped_images.AllKinds.{have-count, have-entry}
use Rattle.sixel_palette.proofs.mapped_images.DitheredIndices.{AreRowsOf}
use Rattle.sixel_palette.{proofs.mapped_images.SameVisits.AreAlike, specs.GrayDiffusion.AreGrays}
use Rattle.sixel_palette.proofs.mapped_images.DiffusionLaws.{errors-all, neighbors-all}
use Rattle.sixel_palette.proofs.mapped_images.MovedPixels.{pixel-byte}
use Rattle.sixel_base.proofs.PictureBytes.{length-joined_below}

-- ---- grays

pub are_gray-more : (colors : List (List ℕ)) (n : ℕ)
    → are_gray colors (n + 1) ≡ are_gray colors n && is_gray (slice_index_or colors n [])
unfolding are_gray
are_gray-more colors n = grind (arith, nat_tests)

-- a byte of an image in gray
gray-byte : (p : List ℕ) (pixel i : ℕ) → pixel < length p / 4 → i < 4
    → slice_index (gray_pixels p) (4 * pixel + i) ≡ get_or (gray_pixel p pixel) i 0
gray-byte p pixel i l li =
    pixel-byte (gray_pixel p) (length p / 4) pixel i (λ j lj. refl) l li

pub gray-length : (p : List ℕ) → length (gray_pixels p) ≡ length p / 4 * 4
gray-length p = length-joined_below (gray_pixel p) 4 (length p / 4) (λ k l. refl)

-- the color of a pixel
pub gray-color : (p : List ℕ) (pixel : ℕ) → pixel < length p / 4
    → color_at (gray_pixels p) pixel ≡ gray_color (color_at p pixel)
gray-color p pixel l =
    let first : 4 * pixel ≡ 4 * pixel + 0 = omega arith in
    λ i.
    (ap (slice_index (gray_pixels p)) first ∙ gray-byte p pixel 0 l (omega arith)) i
    ∷ gray-byte p pixel 1 l (omega arith) i ∷ gray-byte p pixel 2 l (omega arith) i ∷ []

-- ---- the source

-- pixels with the same transparency
pub record IsSource (p s : List ℕ) : Type 0 where
  pub count : length s / 4 ≡ length p / 4
  pub alpha : (pixel : ℕ) → pixel < length p / 4
      → slice_index s (4 * pixel + 3) ≡ slice_index p (4 * pixel + 3)

chosen : (p : List ℕ) (grays : Bool) → IsSource p (cond grays (gray_pixels p) p)
chosen p grays = grind (arith, nat_tests, gray-length, gray-byte)

pub IsSource-pixels : (mapping : Mapping) (colors : List (List ℕ)) (p : List ℕ)
    → IsSource p (source_pixels mapping colors p)
IsSource-pixels mapping colors p = chosen p (maps_grays mapping.dither mapping.tolerance colors)

-- it is whole rows too, and pixels have the same entries
pub AreRowsOf-source : (p s : List ℕ) (width : ℕ) → IsSource p s → AreRowsOf p width
    → AreRowsOf s width
AreRowsOf-source p s width is rows = grind (arith, nat_tests)

pub entry-source : (p s indices : List ℕ) (pixel : ℕ) → IsSource p s → pixel < length p / 4
    → entry_of p indices pixel ≡ entry_of s indices pixel
entry-source p s indices pixel is l = grind (arith, nat_tests)

-- bytes stay bytes
bytes-chosen : (p : List ℕ) (grays : Bool) → ((j : ℕ) → slice_index p j < 256) → (j : ℕ)
    → slice_index (cond grays (gray_pixels p) p) j < 256
bytes-chosen p false bytes j = bytes j
bytes-chosen p true bytes j =
    elim (cases_lt j (length p / 4 * 4)) [
      | inr past ↦ omega (arith, get_or_past (gray_pixels p) j 0 (omega (arith, gray-length p)))
      | inl inside ↦ bytes_at (j / 4) (j % 4) (omega arith) (omega arith) (omega arith)
    ]
  where
    bytes_at : (pixel k : ℕ) → pixel < length p / 4 → k < 4 → 4 * pixel + k ≡ j
        → slice_index (gray_pixels p) j < 256
    bytes_at pixel k l lk same = grind (arith, nat_tests, gray-byte)

pub bytes-source : (mapping : Mapping) (colors : List (List ℕ)) (p : List ℕ)
    → ((j : ℕ) → slice_index p j < 256) → (j : ℕ)
    → slice_index (source_pixels mapping colors p) j < 256
bytes-source mapping colors p bytes j =
    bytes-chosen p (maps_grays mapping.dither mapping.tolerance colors) bytes j

-- ---- images that show the same

gray-alike : (p q : List ℕ) → AreAlike p q → AreAlike (gray_pixels p) (gray_pixels q)
gray-alike p q alike =
    let first = chosen p true in
    let second = chosen q true in
    grind (arith, nat_tests, gray-color)

chosen-alike : (p q : List ℕ) (grays : Bool) → AreAlike p q
    → AreAlike (cond grays (gray_pixels p) p) (cond grays (gray_pixels q) q)
chosen-alike p q true alike = gray-alike p q alike
chosen-alike p q false alike = alike

pub source-alike : (mapping : Mapping) (colors : List (List ℕ)) (p q : List ℕ) → AreAlike p q
    → AreAlike (source_pixels mapping colors p) (source_pixels mapping colors q)
source-alike mapping colors p q alike =
    chosen-alike p q (maps_grays mapping.dither mapping.tolerance colors) alike

-- ---- entries that are colors of the image

-- each of the first colors is gray
pub are_gray-each : (colors : List (List ℕ)) (n k : ℕ) → are_gray colors n ≡ true → k < n
    → is_gray (slice_index_or colors k []) ≡ true
unfolding are_gray
are_gray-each colors zero k are l = absurd (omega arith)
are_gray-each colors (suc n) k are l =
    grind (arith, nat_tests, and_parts, cases_lt, are_gray-each colors n k)

-- a gray is its own
gray-own : (p : List ℕ) (pixel : ℕ) → is_gray (color_at p pixel) ≡ true
    → gray_color (color_at p pixel) ≡ color_at p pixel
gray-own p pixel is = grind (arith, nat_tests)

-- an opaque pixel whose color is an entry keeps it
pub chosen-own : (p : List ℕ) (colors : List (List ℕ)) (pixel : ℕ) (grays : Bool)
    → (grays ≡ true → are_gray colors (length colors) ≡ true) → pixel < length p / 4
    → Contains colors (color_at p pixel)
    → color_at (cond grays (gray_pixels p) p) pixel ≡ color_at p pixel
chosen-own p colors pixel false all l held = refl
chosen-own p colors pixel true all l held =
    let place = get_or_default colors held.0 [] (color_at p pixel) held.1 ∙ held.2 in
    gray-color p pixel l
    ∙ gray-own p pixel
    (subst (λ (c : List ℕ). is_gray c ≡ true) place
    (are_gray-each colors (length colors) held.0 (all refl) held.1))

-- then the nearest entries of the source are those of the pixels
pub AreIndices-source : (p s : List ℕ) (colors : List (List ℕ)) (indices : List ℕ) → IsSource p s
    → ((pixel : ℕ) → pixel < length p / 4 → IsOpaque p pixel
    → color_at s pixel ≡ color_at p pixel)
    → AreIndices s colors indices → AreIndices p colors indices
AreIndices-source p s colors indices is own are = grind (arith, nat_tests)

-- ---- indices

-- there is one for each pixel
pub dithered-count : (mapping : Mapping) (width : ℕ) (p : List ℕ) (colors : List (List ℕ))
    (indices : List ℕ) → AreDithered mapping width p colors indices
    → length indices ≡ length p / 4
dithered-count mapping width p colors indices are =
    let s = source_pixels mapping colors p in
    have-count mapping.dither (mapped_of mapping width s colors) indices are
    ∙ (IsSource-pixels mapping colors p).count

-- that of an opaque pixel is the index of an entry
pub dithered-entry : (mapping : Mapping) (width : ℕ) (p : List ℕ) (colors : List (List ℕ))
    (indices : List ℕ) (pixel : ℕ) → AreRowsOf p width
    → AreDithered mapping width p colors indices → pixel < length p / 4 → IsOpaque p pixel
    → slice_index indices pixel < length colors
dithered-entry mapping width p colors indices pixel rows are l light =
    let s = source_pixels mapping colors p in
    let is = IsSource-pixels mapping colors p in
    have-entry mapping.dither (mapped_of mapping width s colors) indices pixel
    (AreRowsOf-source p s width is rows) are (omega (arith, l, is.count))
    (omega (arith, is.alpha pixel l, light))

-- ---- gray colors

pub is-gray : (c : List ℕ) → slice_index c 1 ≡ slice_index c 0 → slice_index c 2 ≡ slice_index c 0
    → is_gray c ≡ true
is-gray c green blue = grind (arith, nat_tests)

-- each channel is the first one
channel-gray : (c : List ℕ) (k : ℕ) → is_gray c ≡ true → k < 3
    → slice_index c k ≡ slice_index c 0
channel-gray c k is l = grind (arith, nat_tests)

-- each entry, and what is past them, is gray
pub entry-gray : (m : Mapped) (entry : ℕ) → AreGrays m
    → is_gray (slice_index_or m.colors entry []) ≡ true
entry-gray m entry grays = grind (arith, nat_tests, are_gray-each, get_or_past)

-- ---- errors

-- these errors are gray
abbrev AreGrayErrors : List (List ℕ) → Type 0
AreGrayErrors errors = All (λ error. is_gray error ≡ true) errors

none-gray : (strength : ℕ) → is_gray (no_error strength) ≡ true
none-gray strength = is-gray (no_error strength) refl refl

-- so a pixel receives the same in each channel
received-gray : (m : Mapped) (errors : List (List ℕ)) (step k : ℕ) → AreGrayErrors errors → k < 3
    → received m errors step k ≡ received m errors step 0
received-gray m errors step k gray l =
    let near =
    neighbors-all (λ error. is_gray error ≡ true) m errors step (none-gray m.strength) gray in
    let before = channel-gray (error_before m errors step) k near.before l in
    let behind = channel-gray (error_behind m errors step) k near.behind l in
    let above = channel-gray (error_above m errors step) k near.above l in
    let beyond = channel-gray (error_beyond m errors step) k near.beyond l in
    rw (before, behind, above, beyond) refl

-- a channel with what it receives
sixteenths-gray : (m : Mapped) (errors : List (List ℕ)) (n k : ℕ) → AreGrays m
    → AreGrayErrors errors → k < 3 → sixteenths m errors n k ≡ sixteenths m errors n 0
sixteenths-gray m errors n k grays gray l = grind (arith, nat_tests, received-gray)

-- the target of a visit, and its error
pub target-gray : (m : Mapped) (errors : List (List ℕ)) (n : ℕ) → AreGrays m → AreGrayErrors errors
    → is_gray (target_of_visit m errors n) ≡ true
target-gray m errors n grays gray = grind (arith, nat_tests, is-gray, sixteenths-gray)

opaque-gray : (m : Mapped) (errors : List (List ℕ)) (n : ℕ) (entry : List ℕ) → AreGrays m
    → AreGrayErrors errors → is_gray entry ≡ true → is_gray (opaque_error m errors n entry) ≡ true
opaque-gray m errors n entry grays gray is = grind (arith, nat_tests, is-gray, channel)
  where
    channel : (k : ℕ) → k < 3
        → passed_on m.strength (sixteenths m errors n k) (slice_index entry k)
        ≡ passed_on m.strength (sixteenths m errors n 0) (slice_index entry 0)
    channel k l = grind (arith, nat_tests, sixteenths-gray, channel-gray)

pub errors-gray : (m : Mapped) (indices : List ℕ) (n : ℕ) → AreGrays m
    → AreGrayErrors (errors_of m indices n)
errors-gray m indices n grays =
    errors-all (λ error. is_gray error ≡ true) m indices n (none-gray m.strength)
    (grind (arith, nat_tests, opaque-gray, entry-gray))

-- ---- bounds

-- the squared distance of two grays
pub distance-gray : (a b : List ℕ) → is_gray a ≡ true → is_gray b ≡ true
    → distance a b
    ≡ 3 * (abs_diff (slice_index a 0) (slice_index b 0)
    * abs_diff (slice_index a 0) (slice_index b 0))
unfolding distance square_gap
distance-gray a b first second = grind (arith, nat_tests)

-- ---- the source
