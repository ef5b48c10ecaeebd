-- What color a pixel has: that which was selected when the last sixel that covers it was read, else
-- the background. A register has its last definition, else the color that it had when the picture
-- began. The host may set which register is selected first, which is this library's own.
use Rattle.std.specs.Prelude.{ℕ, ◌+◌, ◌*◌, ◌==◌, nat_le, min, max, Bool, ◌&&◌, ◌||◌, if◌then◌else◌}
use Rattle.std.specs.Prelude.{List, [], ◌∷◌, ◌++◌, length, slice_set, slice_index_or}
use Rattle.sixel_base.specs.declared.settings.BackgroundMode.{BackgroundMode}
use Rattle.sixel_base.specs.declared.settings.BackgroundMode.TheVariants.{Opaque, Transparent}
use Rattle.sixel_base.specs.declared.settings.PixelAspectRatio.{PixelAspectRatio}
use Rattle.sixel_base.specs.declared.settings.PixelAspectRatio.TheVariants.{Ratio5To1, Ratio3To1}
use Rattle.sixel_base.specs.declared.settings.PixelAspectRatio.TheVariants.{Ratio2To1, Square}
use Rattle.sixel_base.specs.{Color.{rgb, hls}, Fields.{fields, field}, History.{Sixel, Raster}}
use Rattle.sixel_base.specs.{History.{Color, History}, Limits.Limit, Picture.covers, Place.span}
use Rattle.sixel_base.specs.{Place.{across, down}, Settings.{Settings, mode_of}}

-- the register that a color introducer selects
abbrev pub named_by : List ℕ → ℕ
named_by text = min (field text 0) 255

-- whether it also defines that register: five fields, the second 1 for hue or 2 for red, green and
-- blue
abbrev pub is_definition : List ℕ → Bool
is_definition text = nat_le 5 (length (fields text)) && (field text 1 == 1 || field text 1 == 2)

-- the color that it defines
abbrev pub definition : List ℕ → List ℕ
definition text =
    if field text 1 == 1 then hls (field text 2) (field text 3) (field text 4)
    else rgb (field text 2) (field text 3) (field text 4)

-- the register that the next sixel is drawn in, where this one is selected first
abbrev pub selected : ℕ → History → ℕ
selected first [] = first
selected first (Color text ∷ older) = named_by text
selected first (_ ∷ older) = selected first older

-- each register's last definition, else its color at the start
abbrev pub registers : List (List ℕ) → History → List (List ℕ)
registers start [] = start
registers start (Color text ∷ older) =
    if is_definition text then slice_set (registers start older) (named_by text) (definition text)
    else registers start older
registers start (_ ∷ older) = registers start older

-- what a picture begins from: the registers, the settings, whether it is cropped to its raster
-- attributes, and which pixels it may have
pub record Origin : Type 0 where
  pub registers : List (List ℕ)
  pub settings : Settings
  pub raster_crop : Bool
  pub pixel_limit : Limit

-- the color that the next sixel is drawn in
abbrev pub color : Origin → History → List ℕ
color origin history =
    slice_index_or (registers origin.registers history)
    (selected origin.pixel_limit.first_register history) []

-- a pixel where nothing was drawn: transparent, or register 0 as the picture began
abbrev pub background_of : List (List ℕ) → BackgroundMode → List ℕ
background_of start Opaque = slice_index_or start 0 [] ++ 255 ∷ []
background_of start Transparent = 0 ∷ 0 ∷ 0 ∷ 0 ∷ []

-- where the host asks for a transparent background, else by P2
abbrev pub background : Origin → List ℕ
background origin =
    if origin.pixel_limit.transparent then background_of origin.registers Transparent
    else background_of origin.registers (mode_of origin.settings)

-- the pixel that the last sixel that covers it gives, else the background
abbrev pub pixel : Origin → History → ℕ → ℕ → List ℕ
pixel origin [] column row = background origin
pixel origin (Sixel bits ∷ older) column row =
    if covers (across older) (across older + span older) (down older) bits column row
    then color origin older ++ 255 ∷ []
    else pixel origin older column row
pixel origin (_ ∷ older) column row = pixel origin older column row

-- the shape of a pixel as high as this against as wide as that, where it is one of the four
abbrev pub ratio_from : PixelAspectRatio → ℕ → ℕ → PixelAspectRatio
ratio_from other vertical horizontal =
    if vertical == horizontal then Square
    else if vertical == 2 * horizontal then Ratio2To1
    else if vertical == 3 * horizontal then Ratio3To1
    else if vertical == 5 * horizontal then Ratio5To1
    else other

-- the shape of a pixel: by the last raster attributes of two fields or more, where 0 means 1, else
-- by the settings
abbrev pub ratio : PixelAspectRatio → History → PixelAspectRatio
ratio other [] = other
ratio other (Raster text ∷ older) =
    if nat_le 2 (length (fields text))
    then ratio_from other (max 1 (field text 0)) (max 1 (field text 1))
    else ratio other older
ratio other (_ ∷ older) = ratio other older
