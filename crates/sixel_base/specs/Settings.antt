-- The parameters P1 to P3 of a SIXEL sequence: which background and which shape of a pixel they
-- select. The tables are those of DEC's terminals, where a P1 that DEC leaves open and a
-- missing one mean square pixels.
use Rattle.std.specs.Prelude.{ℕ, ◌==◌, ◌||◌, if◌then◌else◌, Option, Some, None}
use Rattle.sixel_base.specs.declared.settings.BackgroundMode.{BackgroundMode}
use Rattle.sixel_base.specs.declared.settings.BackgroundMode.TheVariants.{Opaque, Transparent}
use Rattle.sixel_base.specs.declared.settings.PixelAspectRatio.{PixelAspectRatio}
use Rattle.sixel_base.specs.declared.settings.PixelAspectRatio.TheVariants.{Ratio5To1, Ratio3To1}
use Rattle.sixel_base.specs.declared.settings.PixelAspectRatio.TheVariants.{Ratio2To1, Square}

-- the parameters that were given: P1, P2 and P3
pub record Settings : Type 0 where
  pub aspect_ratio : Option ℕ
  pub zero_color : Option ℕ
  pub grid_size : Option ℕ

-- the background that P2 asks for
abbrev pub mode_of_p2 : ℕ → BackgroundMode
mode_of_p2 p2 = if p2 == 1 then Transparent else Opaque

-- the P2 that is written for a background
abbrev pub p2_of : BackgroundMode → ℕ
p2_of Opaque = 0
p2_of Transparent = 1

-- the shape that P1 asks for
abbrev pub ratio_of_p1 : ℕ → PixelAspectRatio
ratio_of_p1 p1 =
    if p1 == 0 || p1 == 1 || p1 == 5 || p1 == 6 then Ratio2To1
    else if p1 == 2 then Ratio5To1
    else if p1 == 3 || p1 == 4 then Ratio3To1
    else Square

-- the P1 that is written for a shape
abbrev pub p1_of : PixelAspectRatio → ℕ
p1_of Ratio5To1 = 2
p1_of Ratio3To1 = 3
p1_of Ratio2To1 = 0
p1_of Square = 9

-- how many times as high as wide a pixel is
abbrev pub pad_of : PixelAspectRatio → ℕ
pad_of Ratio5To1 = 5
pad_of Ratio3To1 = 3
pad_of Ratio2To1 = 2
pad_of Square = 1

-- the background of an image: transparent exactly where P2 is 1
abbrev pub mode_of : Settings → BackgroundMode
mode_of settings = mode_from settings.zero_color
  where
    mode_from : Option ℕ → BackgroundMode
    mode_from None = Opaque
    mode_from (Some p2) = mode_of_p2 p2

-- the shape of an image's pixels, where the data do not say otherwise
abbrev pub ratio_of : Settings → PixelAspectRatio
ratio_of settings = ratio_from settings.aspect_ratio
  where
    ratio_from : Option ℕ → PixelAspectRatio
    ratio_from None = Square
    ratio_from (Some p1) = ratio_of_p1 p1
