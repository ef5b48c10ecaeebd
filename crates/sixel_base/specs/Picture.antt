-- What a picture is: a pixel for each column and row, and the bytes of a whole picture, row by row
-- from the top, each row from the left, red, green, blue and alpha a pixel. A sixel is a column of
-- six pixels, its least bit the top one.
use Rattle.std.specs.Prelude.{ℕ, zero, suc, ◌+◌, ◌-◌, ◌/◌, ◌%◌, ◌^◌, ◌==◌, nat_lt, nat_le, Bool}
use Rattle.std.specs.Prelude.{◌&&◌, List, [], ◌++◌}

-- f 0, f 1, .. up to before n, joined
unfoldable pub joined : {A : Type 0} → (ℕ → List A) → ℕ → List A
joined f zero = []
joined f (suc n) = joined f n ++ f n

-- f 0 + f 1 + .., up to before n
unfoldable pub total : (ℕ → ℕ) → ℕ → ℕ
total f zero = 0
total f (suc n) = total f n + f n

-- the bytes of the picture with these pixels
unfoldable pub picture : (ℕ → ℕ → List ℕ) → ℕ → ℕ → List ℕ
picture pixel width height = joined (λ row. joined (λ column. pixel column row) width) height

-- whether pixel k of a sixel is set, counted from the top
abbrev pub is_set : ℕ → ℕ → Bool
is_set bits k = (bits / 2 ^ k) % 2 == 1

-- whether a sixel with these bits, whose top row is top, sets a pixel of the row
abbrev pub is_struck : ℕ → ℕ → ℕ → Bool
is_struck top bits row = nat_le top row && nat_lt row (top + 6) && is_set bits (row - top)

-- whether a sixel drawn over the columns from .. up to before to covers the pixel
abbrev pub covers : ℕ → ℕ → ℕ → ℕ → ℕ → ℕ → Bool
covers from to top bits column row =
    nat_le from column && nat_lt column to && is_struck top bits row
