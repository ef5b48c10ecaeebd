-- The laws of error diffusion: errors are bounded, their shares add up to them, and there are none
-- in an image whose colors the palette has.
use Rattle.std.proofs.Common.{◌≡◌, ℕ, zero, suc, ◌+◌, ◌-◌, ◌*◌, ◌<◌, List, [], length, refl, ap}
use Rattle.std.proofs.Common.{subst, ◌∙◌, arith}
use Rattle.std.specs.Prelude.{◌/◌, All, Contains, slice_index, slice_index_or}
use Rattle.std.proofs.lemmas.{Bool.Decides.nat_tests, Grind.common_steps, List.get_or_default}
use Rattle.std.proofs.lemmas.{List.get_or_past, List.Elements.{All-cons, All-nil}}
use Rattle.sixel_palette.specs.Dithering.{AreDiffused, Mapped, error_above, error_back}
use Rattle.sixel_palette.specs.Dithering.{error_before, error_behind, error_beyond, errors_of}
use Rattle.sixel_palette.specs.Dithering.{no_error, opaque_error, passed_on, received, serpentine}
use Rattle.sixel_palette.specs.Dithering.{sixteenths, target_of_visit, visit_error}
use Rattle.sixel_palette.specs.Palette.{AreIndices, IsNearest, IsOpaque, color_at, distance}
use Rattle.sixel_palette.proofs.colors.Distance.{below_three, distance_self, same_from_distance}
use Rattle.sixel_palette.proofs.mapped_images.DitheredIndices.{AreDiffused-exact, AreRows}
use Rattle.sixel_palette.proofs.mapped_images.DitheredIndices.{AreIndices-targets, visit-inside}
use Rattle.sixel_palette.proofs.nearest_entries.Nearest.{nearest-le}

-- ---- bounds

-- ---- no errors

-- what holds of no error and of these errors holds of one that is some visits back
error_back-all : (P : List ℕ → Type 0) (m : Mapped) (errors : List (List ℕ)) (back : ℕ)
    → P (no_error m.strength) → All P errors → P (error_back m errors back)
error_back-all h m errors back none all = grind (arith, nat_tests, get_or_past)

-- so it holds of the errors of a pixel's neighbors
pub record AreNeighbors (P : List ℕ → Type 0) (m : Mapped) (errors : List (List ℕ)) (step : ℕ)
    : Type 0 where
  pub before : P (error_before m errors step)
  pub behind : P (error_behind m errors step)
  pub above : P (error_above m errors step)
  pub beyond : P (error_beyond m errors step)

pub neighbors-all : (P : List ℕ → Type 0) (m : Mapped) (errors : List (List ℕ)) (step : ℕ)
    → P (no_error m.strength) → All P errors → AreNeighbors P m errors step
neighbors-all P m errors step none all = grind (arith, nat_tests, common_steps, error_back-all)

-- and of all errors, if it holds of that of an opaque pixel after those before it
pub errors-all : (P : List ℕ → Type 0) (m : Mapped) (indices : List ℕ) (n : ℕ)
    → P (no_error m.strength)
    → ((k : ℕ) → k < n → All P (errors_of m indices k)
    → IsOpaque m.pixels (serpentine m.width k)
    → P (opaque_error m (errors_of m indices k) k
    (slice_index_or m.colors (slice_index indices (serpentine m.width k)) [])))
    → All P (errors_of m indices n)
unfolding errors_of
errors-all P m indices zero none each = All-nil P
errors-all P m indices (suc n) none each =
    let errors = errors_of m indices n in
    let before = errors-all P m indices n none (λ k l. each k (omega arith)) in
    let own : P (visit_error m indices errors n) = grind (arith, nat_tests) in
    All-cons P (visit_error m indices errors n) errors own before

-- each of these errors is none
abbrev AreNone : Mapped → List (List ℕ) → Type 0
AreNone m errors = All (λ error. error ≡ no_error m.strength) errors

-- so a pixel receives nothing
received-none : (m : Mapped) (errors : List (List ℕ)) (step k : ℕ) → AreNone m errors → k < 3
    → received m errors step k ≡ 512 * m.strength
received-none m errors step k none l =
    let near = neighbors-all (λ error. error ≡ no_error m.strength) m errors step refl none in
    rw (near.before, near.behind, near.above, near.beyond) (grind (arith, nat_tests))

-- the sixteenths of a channel are its own
sixteenths-none : (m : Mapped) (errors : List (List ℕ)) (n k : ℕ) → AreNone m errors → k < 3
    → ((j : ℕ) → slice_index m.pixels j < 256)
    → sixteenths m errors n k ≡ 16 * slice_index m.pixels (4 * serpentine m.width n + k)
sixteenths-none m errors n k none l bytes = grind (arith, nat_tests, received-none)

-- the target is the pixel's color
target-none : (m : Mapped) (errors : List (List ℕ)) (n : ℕ) → AreNone m errors
    → ((j : ℕ) → slice_index m.pixels j < 256)
    → target_of_visit m errors n ≡ color_at m.pixels (serpentine m.width n)
target-none m errors n none bytes = grind (arith, nat_tests, sixteenths-none)

-- the error of a pixel whose entry is its color
error-none : (m : Mapped) (errors : List (List ℕ)) (n : ℕ) (entry : List ℕ) → AreNone m errors
    → ((j : ℕ) → slice_index m.pixels j < 256) → entry ≡ color_at m.pixels (serpentine m.width n)
    → opaque_error m errors n entry ≡ no_error m.strength
error-none m errors n entry none bytes is = grind (arith, nat_tests, channel)
  where
    channel : (k : ℕ) → k < 3
        → passed_on m.strength (sixteenths m errors n k) (slice_index entry k) ≡ 512 * m.strength
    channel k l =
        let value = slice_index m.pixels (4 * serpentine m.width n + k) in
        let own : slice_index entry k ≡ value = grind (arith, nat_tests, below_three) in
        let gap : 16 * value + 4096 - 16 * value ≡ 4096 = omega arith in
        rw (sixteenths-none m errors n k none l bytes, own)
        (ap (λ g. g * m.strength / 8) gap ∙ omega arith)

-- ---- an image whose colors the palette has

-- the nearest entry of a color that is an entry is the color
pub nearest-own : (entries : List (List ℕ)) (c : List ℕ) (i : ℕ) → All (λ p. length p ≡ 3) entries
    → length c ≡ 3 → Contains entries c → IsNearest entries c i → slice_index_or entries i [] ≡ c
nearest-own entries c i three long held near =
    let place = get_or_default entries held.0 [] c held.1 ∙ held.2 in
    let none : distance (slice_index_or entries held.0 []) c ≡ 0 =
    ap (λ p. distance p c) place ∙ distance_self c in
    same_from_distance (slice_index_or entries i []) c (three i [] near.entry) long
    (omega (arith, near.least held.0 held.1))

-- the channels of pixels and entries
pub record AreColors (m : Mapped) : Type 0 where
  pub three : All (λ p. length p ≡ 3) m.colors
  pub bytes : (j : ℕ) → slice_index m.pixels j < 256

-- so none has, if each opaque pixel's entry is its color
errors-own : (m : Mapped) (indices : List ℕ) (n : ℕ) → AreColors m
    → ((k : ℕ) → k < n → AreNone m (errors_of m indices k)
    → IsOpaque m.pixels (serpentine m.width k)
    → slice_index_or m.colors (slice_index indices (serpentine m.width k)) []
    ≡ color_at m.pixels (serpentine m.width k))
    → AreNone m (errors_of m indices n)
errors-own m indices n exact own =
    errors-all (λ error. error ≡ no_error m.strength) m indices n refl
    (grind (arith, nat_tests, error-none))

-- the color of each opaque pixel is an entry
abbrev pub AreHeld : Mapped → Type 0
AreHeld m =
    (pixel : ℕ) → pixel < length m.pixels / 4 → IsOpaque m.pixels pixel
    → Contains m.colors (color_at m.pixels pixel)

-- without a tolerance its pixels have the indices of their nearest entries
pub AreIndices-exact : (m : Mapped) (indices : List ℕ) → AreRows m → AreColors m → AreHeld m
    → m.tolerance ≡ 0 → AreDiffused m indices → AreIndices m.pixels m.colors indices
AreIndices-exact m indices rows exact held none are =
    AreIndices-targets m _ indices rows none are.one_each are.each (λ n l light.
    target-none m (errors_of m indices n) n
    (errors-own m indices n exact
    (λ k lk before lit.
    let at = serpentine m.width k in
    let inside : k < length m.pixels / 4 = omega arith in
    nearest-own m.colors (color_at m.pixels at) (slice_index indices at) exact.three refl
    (held at (visit-inside m k rows.rows inside) lit)
    (subst (λ (c : List ℕ). IsNearest m.colors c (slice_index indices at))
    (target-none m (errors_of m indices k) k before exact.bytes)
    (grind (arith, nat_tests, nearest-le)))))
    exact.bytes)

-- and the other way round
pub AreDiffused-held : (m : Mapped) (indices : List ℕ) → AreRows m → AreColors m → AreHeld m
    → m.tolerance ≡ 0 → AreIndices m.pixels m.colors indices → AreDiffused m indices
AreDiffused-held m indices rows exact held none are =
    AreDiffused-exact m indices rows none are (λ n l light.
    target-none m (errors_of m indices n) n
    (grind (arith, nat_tests, errors-own, visit-inside, nearest-own))
    exact.bytes)
