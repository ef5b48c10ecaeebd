-- Which bands of a drawing are used: those with a pixel that has an entry.
use Rattle.std.proofs.Common.{get_or, length, arith, false, None, Some, List, drop, take, true, ◌/◌}
use Rattle.std.proofs.Common.{◌%◌, ◌*◌, ◌+◌, ◌-◌, ◌<◌, ◌∙◌, ◌≡◌, ap, ℕ}
use Rattle.std.proofs.{lemmas.Bool.Decides.nat_tests, lemmas.List.{get_or_default, get_or-drop}}
use Rattle.std.proofs.lemmas.List.{get_or-take, get_or_past, length-drop, length-take}
use Rattle.std.proofs.lemmas.List.Folds.{Any-from_list_any, list_any_none, list_any_at}
use Rattle.std.proofs.{lemmas.List.FromFn.get_or-map-range_with_len, lemmas.Nat.mul-add-lt}
use Rattle.std.proofs.lemmas.Nat.{div_below, mod_below, mul-le}
use Rattle.std.specs.{List.list_any, Prelude.{is_some, Option}}
use Rattle.sixel_encoder.specs.{Text.{Drawing, entry_at, has_dot, row_of}, Trip.IsWritable}
use Rattle.sixel_encoder.specs.Trip.{is_used}
use Rattle.sixel_encoder.proofs.{MaskBits.mask-nothing, band_rows.EntryRows.length-row_of}

-- ---- where a part of a list has a value

-- one value in a part of the list
pub window-any : (xs : List (Option ℕ)) (from n i entry : ℕ) → i < n → from + i < length xs
    → get_or xs (from + i) None ≡ Some entry → list_any is_some (take n (drop from xs)) ≡ true
window-any xs from n i entry l inside e =
    grind (arith, nat_tests, list_any_at, length-take, length-drop, get_or-take, get_or-drop)

-- a value that is there
some_value : (place : Option ℕ) → is_some place ≡ true → (entry : ℕ) × (place ≡ Some entry)
some_value place is = grind (arith, nat_tests)

-- some value in a part of the list
pub window-some : (xs : List (Option ℕ)) (from n : ℕ)
    → list_any is_some (take n (drop from xs)) ≡ true
    → (i : ℕ) × (i < n) × (from + i < length xs)
    × ((entry : ℕ) × (get_or xs (from + i) None ≡ Some entry))
window-some xs from n some =
    let found = Any-from_list_any is_some (take n (drop from xs)) some in
    let count = length-take n (drop from xs) in
    grind (arith, nat_tests, length-drop, get_or-take, get_or-drop, get_or_default, some_value)

-- ---- bands with no entry, and bands with one

-- the places of a band's bit, from the band's first place
place-in_band : (band bit width column : ℕ)
    → (6 * band + bit) * width + column ≡ 6 * band * width + (bit * width + column)
place-in_band band bit width column = omega arith

-- in a band that is not used no pixel has an entry
pub unused-places : (drawing : Drawing) (band bit column : ℕ) → is_used drawing band ≡ false
    → bit < 6 → column < drawing.width → entry_at drawing column (6 * band + bit) ≡ None
unused-places drawing band bit column none lb lc =
    let place = place-in_band band bit drawing.width column in
    grind (arith, nat_tests, get_or_past, window-any, mul-add-lt bit drawing.width column 6)

-- so no entry has a dot there
pub unused-dots : (drawing : Drawing) (band entry : ℕ) → is_used drawing band ≡ false
    → has_dot (row_of drawing band entry) ≡ false
unused-dots drawing band entry none =
    let long = length-row_of drawing band entry in
    grind (arith, list_any_none, get_or-map-range_with_len, mask-nothing, unused-places)

-- a pixel within the area is within the height
row-below : (row width column height : ℕ) → row * width + column < width * height → row < height
row-below row width column height l = grind (arith, nat_tests, mul-le)

-- a band that is used has a pixel with an entry
pub used-pixel : (drawing : Drawing) (band : ℕ) → IsWritable drawing → is_used drawing band ≡ true
    → (column : ℕ) × (line : ℕ) × (entry : ℕ) × (column < drawing.width) × (line < drawing.height)
    × (line / 6 ≡ band) × (entry_at drawing column line ≡ Some entry)
used-pixel drawing band is used =
    let (i, low, inside, known) =
    window-some drawing.entries (6 * band * drawing.width) (6 * drawing.width) used in
    let w = drawing.width in
    let some : 0 < w = omega (arith, is.some_width) in
    let bit = div_below i w 6 some low in
    let place : (6 * band + i / w) * w + i % w ≡ 6 * band * w + i = grind (arith, nat_tests) in
    let below =
    row-below (6 * band + i / w) w (i % w) drawing.height
    (omega (arith, place, inside, is.pixels)) in
    let at = ap (λ n. get_or drawing.entries n None) place ∙ known.1 in
    (i % w, 6 * band + i / w, known.0, mod_below i w some, below, omega arith, at)

-- a band with a pixel that has an entry is used
pub used-here : (drawing : Drawing) (column line entry : ℕ) → IsWritable drawing
    → column < drawing.width → line < drawing.height → entry_at drawing column line ≡ Some entry
    → is_used drawing (line / 6) ≡ true
used-here drawing column line entry is lc ll e =
    let bit : ℕ = line - 6 * (line / 6) in
    let here : 6 * (line / 6) + bit ≡ line = omega arith in
    let place = place-in_band (line / 6) bit drawing.width column in
    grind (arith, nat_tests, mul-add-lt, window-any)
