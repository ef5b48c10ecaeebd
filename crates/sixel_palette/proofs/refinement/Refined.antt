-- The refined palette: colors that registers show, and its certificate.
use Rattle.std.proofs.{Common.{◌≡◌, ℕ, ◌<◌, List, [], length, arith}, lemmas.Bool.Decides.nat_tests}
use Rattle.std.specs.List.{All}
use Rattle.sixel_palette.specs.{Palette.{nearest, IsShown, no_entry}, PaletteBound.AreApart}
use Rattle.sixel_palette.specs.{PaletteBound.NoListIsBetter, Refined.IsRegisterColor}
use Rattle.sixel_palette.specs.Refined.{register_color}
use Rattle.sixel_palette.proofs.{traversal.Apart.far_from_others, colors.Colors.IsColor}
use Rattle.sixel_palette.proofs.{colors.Colors.distance-lt, nearest_entries.Nearest.nearest-le}

-- a register shows the color that it shows for a color
pub register_color-shown : (c : List ℕ) → IsRegisterColor (register_color c)
register_color-shown c = grind (arith, nat_tests)

-- and a color that a register shows stays
pub register_color-own : (c : List ℕ) → IsRegisterColor c → register_color c ≡ c
register_color-own c is = grind (arith, nat_tests)

-- what a register shows is a color
IsColor-register : (c : List ℕ) → IsRegisterColor c → IsColor c
IsColor-register c h = grind (arith, nat_tests)

-- with an entry each color has a nearest one
pub nearest_entry-lt : (entries : List (List ℕ)) (c : List ℕ) → 0 < length entries
    → All IsRegisterColor entries → IsColor c → nearest entries c < no_entry
nearest_entry-lt entries c some shown color =
    grind (arith, nat_tests, nearest-le entries c 0 [], distance-lt, IsColor-register, shown 0 [])

-- no list of fewer colors is near to all colors of opaque pixels that lie apart
pub bound_of_shown : (pixels : List ℕ) (witnesses : List (List ℕ)) (least n : ℕ)
    → AreApart witnesses least → All (IsShown pixels) witnesses → n < length witnesses
    → NoListIsBetter (IsShown pixels) n least
bound_of_shown pixels witnesses least n apart members l = λ others m.
    far_from_others (IsShown pixels) least others witnesses apart members (omega arith)
