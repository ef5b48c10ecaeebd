-- Colors as three bytes, and how a color introducer defines one: percentages of red, green and
-- blue, or hue, lightness and saturation as DEC's terminals place them (blue at 0 degrees), here as
-- exact fractions, rounded half up. And the table of 256 registers that a terminal starts with:
-- DEC's sixteen, then a color cube in steps of 20 percent, and grays from black to white.
use Rattle.std.specs.{List.range_with_len, Prelude.{ℕ, ◌+◌, ◌-◌, ◌*◌, ◌/◌, ◌%◌, min, nat_lt, ◌==◌}}
use Rattle.std.specs.Prelude.{if◌then◌else◌, List, [], ◌∷◌, map, slice_index_or}

-- a percentage as a byte
abbrev pub byte_of : ℕ → ℕ
byte_of percent = (min percent 100 * 255 + 50) / 100

-- three percentages as a color
abbrev pub rgb : ℕ → ℕ → ℕ → List ℕ
rgb red green blue = byte_of red ∷ byte_of green ∷ byte_of blue ∷ []

-- Lightness and saturation in percent give the two ends between which each channel lies, in
-- ten-thousandths.
abbrev pub high_end : ℕ → ℕ → ℕ
high_end lightness saturation =
    if nat_lt lightness 50 then lightness * (100 + saturation)
    else 100 * lightness + 100 * saturation - lightness * saturation

abbrev pub low_end : ℕ → ℕ → ℕ
low_end lightness saturation = 200 * lightness - high_end lightness saturation

-- where a channel lies between its ends at an angle below 360, in six-hundred-thousandths
abbrev pub channel_at : ℕ → ℕ → ℕ → ℕ
channel_at low high angle =
    if nat_lt angle 60 then 60 * low + (high - low) * angle
    else if nat_lt angle 180 then 60 * high
    else if nat_lt angle 240 then 60 * low + (high - low) * (240 - angle)
    else 60 * low

-- a channel as a byte, at an angle
abbrev pub channel : ℕ → ℕ → ℕ → ℕ
channel lightness saturation angle =
    (255 * channel_at (low_end lightness saturation) (high_end lightness saturation) (angle % 360)
    + 300000) / 600000

-- DEC's hue 0 is blue, which is at 240 on the common circle. By a hue on that circle the angle of
-- red is 120 more, that of green is the same, and that of blue is 240 more.
abbrev pub hls_circle : ℕ → ℕ → ℕ → List ℕ
hls_circle hue lightness saturation =
    channel lightness saturation (hue + 120)
    ∷ channel lightness saturation hue
    ∷ channel lightness saturation (hue + 240)
    ∷ []

-- hue in degrees, lightness and saturation in percent, as a color; with no saturation it is a gray
abbrev pub hls : ℕ → ℕ → ℕ → List ℕ
hls hue lightness saturation =
    if saturation == 0 then rgb lightness lightness lightness
    else hls_circle ((hue + 240) % 360) (min lightness 100) (min saturation 100)

-- DEC's sixteen
abbrev pub first_sixteen : List (List ℕ)
first_sixteen =
    rgb 0 0 0 ∷ rgb 20 20 80 ∷ rgb 80 13 13 ∷ rgb 20 80 20
    ∷ rgb 80 20 80 ∷ rgb 20 80 80 ∷ rgb 80 80 20 ∷ rgb 53 53 53
    ∷ rgb 26 26 26 ∷ rgb 33 33 60 ∷ rgb 60 26 26 ∷ rgb 33 60 33
    ∷ rgb 60 33 60 ∷ rgb 33 60 60 ∷ rgb 60 60 33 ∷ rgb 80 80 80 ∷ []

-- the color cube, six steps a channel
abbrev pub cube_color : ℕ → List ℕ
cube_color n = rgb (20 * (n / 36)) (20 * (n / 6 % 6)) (20 * (n % 6))

-- twenty-four grays
abbrev pub gray : ℕ → List ℕ
gray n = rgb (n * 100 / 23) (n * 100 / 23) (n * 100 / 23)

-- the color of a register of a new decoder
abbrev pub default_color : ℕ → List ℕ
default_color n =
    if nat_lt n 16 then slice_index_or first_sixteen n []
    else if nat_lt n 232 then cube_color (n - 16)
    else gray (n - 232)

-- the 256 registers of a new decoder
unfoldable pub default_registers : List (List ℕ)
default_registers = map default_color (range_with_len 0 256)
