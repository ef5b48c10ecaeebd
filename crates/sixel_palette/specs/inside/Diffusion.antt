-- The state of error diffusion between two visits: which pixels have their index, and the line of
-- the latest errors, one a column. It only saves space: the definitions list all errors.
use Rattle.std.specs.Prelude.{◌≡◌, ◌≢◌, ℕ, ◌+◌, ◌-◌, ◌*◌, ◌%◌, ◌<◌, ◌≤◌, ◌==◌, if◌then◌else◌, List}
use Rattle.std.specs.Prelude.{[], ◌∷◌, length, slice_index, slice_index_or, Some}
use Rattle.sixel_palette.specs.declared.dithering.diffusion.Entries.{Entries}
use Rattle.sixel_palette.specs.declared.dithering.diffusion.Neighbors.{Neighbors}
use Rattle.sixel_palette.specs.declared.dithering.mapped.MappedImage.{MappedImage}
use Rattle.sixel_palette.specs.declared.dithering.sixteen_entries.SixteenEntries.{SixteenEntries}
use Rattle.sixel_palette.specs.inside.{Keys.IsSearchOf, SixteenEntries.AreSixteen}
use Rattle.sixel_palette.specs.Dithering.{Mapped, HasTarget, before_share, below_share}
use Rattle.sixel_palette.specs.Dithering.{column_of_step, error_back, next_share, passed_on}
use Rattle.sixel_palette.specs.Dithering.{received, rest_share, rounded_sixteenths, serpentine}
use Rattle.sixel_palette.specs.Dithering.{target_of_visit, visit_error, with_received}

-- there are four lanes, and each is that of the function
pub record AreLanes (lanes : List ℕ) (f : ℕ → ℕ) : Type 0 where
  pub four : length lanes ≡ 4
  pub each : (k : ℕ) → k < 4 → slice_index lanes k ≡ f k

-- the channels of four lanes, of which the last one has no meaning
abbrev pub channels : List ℕ → List ℕ
channels lanes = slice_index lanes 0 ∷ slice_index lanes 1 ∷ slice_index lanes 2 ∷ []

-- no error is greater: that of a channel of 4080 sixteenths and an entry of 0
abbrev pub error_limit : ℕ
error_limit = 8176

pub record AreErrors (lanes : List ℕ) : Type 0 where
  pub four : length lanes ≡ 4
  pub small : (k : ℕ) → slice_index lanes k ≤ error_limit

-- no error in each lane
abbrev pub no_error_lanes : ℕ → List ℕ
no_error_lanes strength =
    512 * strength ∷ 512 * strength ∷ 512 * strength ∷ 512 * strength ∷ []

-- Before a step of a row the line has the errors of this row's earlier steps, and in the other
-- columns those of the row above.
pub record IsLine (m : Mapped) (errors : List (List ℕ)) (row step : ℕ) (line : List (List ℕ))
    : Type 0 where
  pub whole : length line ≡ m.width
  pub this : (j : ℕ) → j < step
      → channels (slice_index_or line (column_of_step m.width row j) [])
      ≡ error_back m errors (step - 1 - j)
  pub above : (j : ℕ) → step ≤ j → j < m.width
      → channels (slice_index_or line (column_of_step m.width row j) [])
      ≡ error_back m errors (step + j)
  pub lanes : (k : ℕ) → k < m.width → AreErrors (slice_index_or line k [])

-- the error is that above the next pixel of the row, in a line
abbrev pub IsBeyond : Mapped → List (List ℕ) → ℕ → ℕ → List ℕ → Type 0
IsBeyond m line row step error =
    error
    ≡ (if step + 1 == m.width then no_error_lanes m.strength
    else slice_index_or line (column_of_step m.width row (step + 1)) [])

-- what neighbors pass on in a channel
abbrev pub received_of : Neighbors → ℕ → ℕ
received_of neighbors channel =
    next_share (slice_index neighbors.before channel)
    + before_share (slice_index neighbors.behind channel)
    + below_share (slice_index neighbors.above channel)
    + rest_share (slice_index neighbors.beyond channel)

-- the errors of all neighbors are errors
pub record HaveErrors (neighbors : Neighbors) : Type 0 where
  pub before : AreErrors neighbors.before
  pub behind : AreErrors neighbors.behind
  pub above : AreErrors neighbors.above
  pub beyond : AreErrors neighbors.beyond

-- these are received by the pixel of a visit
abbrev pub AreReceived : Mapped → List (List ℕ) → ℕ → (ℕ → ℕ) → Type 0
AreReceived m errors n numbers =
    (k : ℕ) → k < 3 → numbers k ≡ received m errors (n % m.width) k

-- the channels of a pixel with these numbers received
pub record AreSixteenths (image : MappedImage) (pixel : ℕ) (numbers : ℕ → ℕ) (values : List ℕ)
    : Type 0 where
  pub four : length values ≡ 4
  pub each : (k : ℕ) → k < 3
      → slice_index values k
      ≡ with_received image.strength (slice_index image.pixels.now (4 * pixel + k))
      (numbers k)
  pub small : (k : ℕ) → slice_index values k ≤ 4080

-- sixteenths as a color
abbrev pub rounded_color : List ℕ → List ℕ
rounded_color values =
    rounded_sixteenths (slice_index values 0) ∷ rounded_sixteenths (slice_index values 1)
    ∷ rounded_sixteenths (slice_index values 2) ∷ []

-- the error of a pixel of these sixteenths that has this entry
abbrev pub color_error : ℕ → List ℕ → List ℕ → List ℕ
color_error strength values entry =
    passed_on strength (slice_index values 0) (slice_index entry 0)
    ∷ passed_on strength (slice_index values 1) (slice_index entry 1)
    ∷ passed_on strength (slice_index values 2) (slice_index entry 2) ∷ []

-- a visit gives its pixel an index, leaves the others, and has this error
pub record IsVisit (m : Mapped) (errors : List (List ℕ)) (n : ℕ) (old new error : List ℕ)
    : Type 0 where
  pub others : (k : ℕ) → k ≢ serpentine m.width n → slice_index new k ≡ slice_index old k
  pub target : HasTarget m (target_of_visit m errors n) new n
  pub passed : channels error ≡ visit_error m new errors n
  pub lanes : AreErrors error

-- what an entry takes from an error: its sixteenths by the strength
pub record IsPart (strength : ℕ) (color lanes : List ℕ) : Type 0 where
  pub four : length lanes ≡ 4
  pub bytes : (k : ℕ) → k < 3 → slice_index color k < 256
  pub each : (k : ℕ) → k < 3 → slice_index lanes k ≡ 16 * slice_index color k * strength
  pub small : (k : ℕ) → slice_index lanes k ≤ 4080 * strength

-- what each entry takes
pub record AreParts (image : MappedImage) (parts : List (List ℕ)) : Type 0 where
  pub size : length parts ≡ length image.colors.now
  pub each : (k : ℕ) → k < length image.colors.now
      → IsPart image.strength (slice_index_or image.colors.now k []) (slice_index_or parts k [])

-- the entries are prepared for visits
pub record ArePrepared (image : MappedImage) (entries : Entries) : Type 0 where
  pub search : IsSearchOf image.colors.now entries.search
  pub sixteen : (sixteen : SixteenEntries) → entries.sixteen ≡ Some sixteen
      → (length image.colors.now ≡ 16) × AreSixteen image.colors.now image.tolerance sixteen
  pub parts : AreParts image entries.parts.items
