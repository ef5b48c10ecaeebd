-- One visit of error diffusion: its target, its error, what its pixel receives, and the line of the
-- latest errors.
use Rattle.std.proofs.Common.{◌≡◌, ℕ, ◌+◌, ◌*◌, ◌<◌, List, [], ◌∷◌, length, set, ap, sym, subst}
use Rattle.std.proofs.Common.{◌∙◌, arith, zero, suc, ◌≤◌, refl, inl, inr, replicate}
use Rattle.std.specs.Prelude.{slice_index, slice_index_or, ◌/◌, ◌%◌}
use Rattle.std.proofs.lemmas.{Bool.cases_lt, Bool.Decides.nat_tests, List.get_or-set_other}
use Rattle.std.proofs.lemmas.List.{get_or-set_same, get_or-replicate, length-replicate, length-set}
use Rattle.sixel_palette.specs.Dithering.{IsIndex, Mapped, column_of_step, error_above}
use Rattle.sixel_palette.specs.Dithering.{error_before, error_behind, error_beyond, neighbor_of}
use Rattle.sixel_palette.specs.Dithering.{no_error, opaque_error, serpentine, target_of_visit}
use Rattle.sixel_palette.specs.Dithering.{AreVisited, visit_error, error_back, errors_of}
use Rattle.sixel_palette.specs.Palette.{IsOpaque}
use Rattle.sixel_palette.specs.declared.dithering.diffusion.Neighbors.{Neighbors}
use Rattle.sixel_palette.specs.declared.dithering.mapped.MappedImage.{MappedImage}
use Rattle.sixel_palette.specs.declared.dithering.mapped.Place.{Place}
use Rattle.sixel_palette.specs.inside.Diffusion.{AreReceived, AreSixteenths, AreErrors, IsBeyond}
use Rattle.sixel_palette.specs.inside.Diffusion.{IsLine, IsVisit, channels, color_error}
use Rattle.sixel_palette.specs.inside.Diffusion.{received_of, rounded_color, no_error_lanes}
use Rattle.sixel_palette.specs.inside.Mapped.{IsIndexAt, IsMappable, IsPlace, mapped_value}
use Rattle.sixel_palette.proofs.mapped_images.DitheredIndices.{HasTarget-set, IsIndexAt-dark}
use Rattle.sixel_palette.proofs.mapped_images.DitheredIndices.{IsIndexAt-light, HasTarget-same}
use Rattle.sixel_palette.proofs.mapped_images.Serpentine.{column-apart, column-lt, serpentine-apart}

-- an element that is written, and the others
ruleset writes = (length-set, get_or-set_same, get_or-set_other)

-- errors depend on the indices of the visits so far
pub errors_of-same : (m : Mapped) (old new : List ℕ) (n : ℕ)
    → ((k : ℕ) → k < n
    → slice_index new (serpentine m.width k) ≡ slice_index old (serpentine m.width k))
    → errors_of m new n ≡ errors_of m old n
unfolding errors_of
errors_of-same m old new zero same = refl
errors_of-same m old new (suc n) same = grind (arith, nat_tests, errors_of-same m old new n)

-- so a visit leaves the errors of earlier ones
pub errors_of-visit : (m : Mapped) (old new error : List ℕ) (n k : ℕ) → 0 < m.width → k ≤ n
    → IsVisit m (errors_of m old n) n old new error → errors_of m new k ≡ errors_of m old k
errors_of-visit m old new error n k some most is = grind (arith, errors_of-same, serpentine-apart)

-- and its own is the newest
pub errors_of-more : (m : Mapped) (old new error : List ℕ) (n : ℕ) → 0 < m.width
    → IsVisit m (errors_of m old n) n old new error
    → errors_of m new (n + 1) ≡ channels error ∷ errors_of m old n
unfolding errors_of
errors_of-more m old new error n some is =
    let next : n + 1 ≡ suc n = omega arith in
    ap (errors_of m new) next
    ∙ (grind (arith, nat_tests, errors_of-visit))

-- one more pixel has its index
pub AreVisited-more : (m : Mapped) (old new error : List ℕ) (n : ℕ) → 0 < m.width
    → AreVisited m old n → IsVisit m (errors_of m old n) n old new error
    → AreVisited m new (n + 1)
AreVisited-more m old new error n some visited is = λ k l.
    let kept = errors_of-visit m old new error n k some (omega arith) is in
    elim (cases_lt k n) [
      | inl before ↦
          rw kept
          (HasTarget-same m (target_of_visit m (errors_of m old k) k) old new k some
          (λ j lj. is.others _ (serpentine-apart m.width j n some (omega arith)))
          (visited k before))
      | inr last ↦ let same : k ≡ n = omega arith in rw (kept, same) is.target
    ]

-- ---- the line

-- an error that is one visit further back
error_back-suc : (m : Mapped) (error : List ℕ) (errors : List (List ℕ)) (k j : ℕ) → k ≡ suc j
    → error_back m (error ∷ errors) k ≡ error_back m errors j
error_back-suc m error errors k j same = ap (error_back m (error ∷ errors)) same

-- the line after a step has its error
pub IsLine-more : (m : Mapped) (errors line : List (List ℕ)) (row step : ℕ) (error : List ℕ)
    → step < m.width → AreErrors error → IsLine m errors row step line
    → IsLine m (channels error ∷ errors) row (step + 1)
    (set line (column_of_step m.width row step) error)
IsLine-more m errors line row step error inside lanes is =
    grind (arith, writes, column-lt, column-apart, error_back-suc)

-- before the first row there is no error
pub IsLine-none : (m : Mapped) (indices : List ℕ) (line : List (List ℕ))
    → line ≡ replicate m.width (no_error_lanes m.strength)
    → AreErrors (no_error_lanes m.strength) → IsLine m (errors_of m indices 0) 0 0 line
unfolding errors_of
IsLine-none m indices line same lanes = grind (arith, length-replicate, get_or-replicate, column-lt)

-- the error of an opaque pixel is that of its entry
pub visit_error-opaque : (m : Mapped) (indices : List ℕ) (errors : List (List ℕ)) (n : ℕ)
    → IsOpaque m.pixels (serpentine m.width n)
    → visit_error m indices errors n
    ≡ opaque_error m errors n
    (slice_index_or m.colors (slice_index indices (serpentine m.width n)) [])
visit_error-opaque m indices errors n light = grind (arith, nat_tests)

-- the error of a transparent pixel is none
pub visit_error-transparent : (m : Mapped) (indices : List ℕ) (errors : List (List ℕ)) (n : ℕ)
    → slice_index m.pixels (4 * serpentine m.width n + 3) < 128
    → visit_error m indices errors n ≡ no_error m.strength
visit_error-transparent m indices errors n dark = grind (arith, nat_tests)

-- a visit whose index is stored
pub IsVisit-set : (m : Mapped) (errors : List (List ℕ)) (n index : ℕ) (old error : List ℕ)
    → 0 < m.width → serpentine m.width n < length old
    → IsIndexAt m (target_of_visit m errors n) old n index
    → (IsOpaque m.pixels (serpentine m.width n)
    → channels error ≡ opaque_error m errors n (slice_index_or m.colors index []))
    → (slice_index m.pixels (4 * serpentine m.width n + 3) < 128
    → channels error ≡ no_error m.strength)
    → AreErrors error → IsVisit m errors n old (set old (serpentine m.width n) index) error
IsVisit-set m errors n index old error some inside is light dark lanes =
    grind (arith, writes, HasTarget-set, visit_error-transparent, visit_error-opaque)

-- a visit of a transparent pixel, which has the index 0
pub IsVisit-dark : (image : MappedImage) (errors : List (List ℕ)) (place : Place)
    (old error : List ℕ) → IsMappable image → IsPlace (mapped_value image) place
    → length old ≡ length image.pixels.now / 4
    → slice_index image.pixels.now (4 * place.pixel + 3) < 128
    → error ≡ no_error_lanes image.strength → AreErrors error
    → IsVisit (mapped_value image) errors (place.row * image.width + place.step) old
    (set old place.pixel 0) error
IsVisit-dark image errors place old error is at size dark none lanes =
    let m = mapped_value image in
    let n = place.row * m.width + place.step in
    let hidden = subst (λ (p : ℕ). slice_index m.pixels (4 * p + 3) < 128) (sym at.pixel) dark in
    subst (λ (p : ℕ). IsVisit m errors n old (set old p 0) error) at.pixel
    (IsVisit-set m errors n 0 old error is.whole.wide (rw (at.pixel, size) at.within)
    (IsIndexAt-dark m (target_of_visit m errors n) old n is.some hidden)
    (λ light. absurd (omega (arith, light, hidden))) (λ _. ap channels none) lanes)

-- a visit of an opaque pixel whose entry is stored
pub IsVisit-stored : (image : MappedImage) (errors : List (List ℕ)) (place : Place) (index : ℕ)
    (numbers : ℕ → ℕ) (values target old new error : List ℕ) → IsMappable image
    → IsPlace (mapped_value image) place → length old ≡ length image.pixels.now / 4
    → AreReceived (mapped_value image) errors (place.row * image.width + place.step) numbers
    → AreSixteenths image place.pixel numbers values → IsOpaque image.pixels.now place.pixel
    → target ≡ rounded_color values
    → IsIndex (mapped_value image) target
    (neighbor_of (mapped_value image) target old (place.row * image.width + place.step)) index
    → new ≡ set old place.pixel index
    → channels error
    ≡ color_error image.strength values (slice_index_or image.colors.now index [])
    → AreErrors error
    → IsVisit (mapped_value image) errors (place.row * image.width + place.step) old new error
IsVisit-stored image errors place index numbers values target old new error whole at size are is
    light rounds chosen stored passed lanes =
    let m = mapped_value image in
    let n = place.row * m.width + place.step in
    let shown = subst (IsOpaque m.pixels) (sym at.pixel) light in
    let aim : rounded_color values ≡ target_of_visit m errors n = grind (arith, nat_tests) in
    let mine =
    subst (λ (t : List ℕ). IsIndex m t (neighbor_of m t old n) index) (rounds ∙ aim) chosen in
    let color = slice_index_or image.colors.now index [] in
    let own : color_error image.strength values color ≡ opaque_error m errors n color =
    grind (arith, nat_tests) in
    rw stored
    (subst (λ (p : ℕ). IsVisit m errors n old (set old p index) error) at.pixel
    (IsVisit-set m errors n index old error whole.whole.wide (rw (at.pixel, size) at.within)
    (IsIndexAt-light m (target_of_visit m errors n) old n index shown mine)
    (λ _. passed ∙ own) (λ dark. absurd (omega (arith, shown, dark))) lanes))

-- ---- what a pixel receives

-- the error above the next pixel
pub beyond-line : (m : Mapped) (errors line : List (List ℕ)) (row step : ℕ) (error : List ℕ)
    → step < m.width → IsLine m errors row step line → IsBeyond m line row step error
    → channels error ≡ error_beyond m errors step
beyond-line m errors line row step error inside is beyond = grind (arith, nat_tests)

pub AreErrors-beyond : (m : Mapped) (line : List (List ℕ)) (row step : ℕ) (error : List ℕ)
    → step < m.width → AreErrors (no_error_lanes m.strength)
    → ((k : ℕ) → k < m.width → AreErrors (slice_index_or line k []))
    → IsBeyond m line row step error → AreErrors error
AreErrors-beyond m line row step error inside none lanes beyond =
    grind (arith, nat_tests, column-lt)

-- a channel is that of its lane
lane-channel : (lanes error : List ℕ) → channels lanes ≡ error → (k : ℕ) → k < 3
    → slice_index lanes k ≡ slice_index error k
lane-channel lanes error same k l = grind (arith, nat_tests)

-- all four
pub AreReceived-neighbors : (m : Mapped) (errors : List (List ℕ)) (n step : ℕ)
    (neighbors : Neighbors) → n % m.width ≡ step
    → channels neighbors.before ≡ error_before m errors step
    → channels neighbors.behind ≡ error_behind m errors step
    → channels neighbors.above ≡ error_above m errors step
    → channels neighbors.beyond ≡ error_beyond m errors step
    → AreReceived m errors n (received_of neighbors)
AreReceived-neighbors m errors n step neighbors at before behind above beyond =
    grind (arith, nat_tests, lane-channel)

-- ---- the next step

-- the error before it is the newest
pub before-more : (m : Mapped) (errors : List (List ℕ)) (step : ℕ) (error : List ℕ)
    → error ≡ error_before m (error ∷ errors) (step + 1)
before-more m errors step error = grind (arith, nat_tests)

-- the error behind it was the one above
pub behind-more : (m : Mapped) (errors : List (List ℕ)) (step : ℕ) (error : List ℕ)
    → error_above m errors step ≡ error_behind m (error ∷ errors) (step + 1)
behind-more m errors step error = grind (arith, nat_tests)
