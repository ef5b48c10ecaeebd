-- The pixels that bytes are: how many, which of them, and those of bytes that were put together.
use Rattle.std.proofs.Common.{◌≡◌, ℕ, zero, suc, ◌+◌, ◌-◌, ◌*◌, ◌≤◌, List, [], ◌∷◌, ◌++◌, length}
use Rattle.std.proofs.Common.{get_or, take, drop, replicate, refl, ap, ◌∙◌, arith, length-take}
use Rattle.std.{proofs.Common.{length-append, length-drop, sym}, specs.List.flat_map}
use Rattle.sixel_canvas.{specs.Row.{IsThrifty, row_state}, specs.inside.Pixels.pixels_of}
use Rattle.sixel_base.{proofs.PictureBytes.{joined-front, length-joined}, specs.Picture.joined}

four_more : (n : ℕ) → 4 * suc n ≡ suc (suc (suc (suc (4 * n))))
four_more n = omega arith

-- four bytes are one pixel
pub pixels_of-one : (color bytes : List ℕ) → length color ≡ 4
    → pixels_of (color ++ bytes) ≡ color ∷ pixels_of bytes
pixels_of-one (r ∷ g ∷ b ∷ a ∷ []) bytes four = refl
pixels_of-one _ bytes four = absurd (omega arith)

-- how many pixels they are
pub length-pixels_of : (bytes : List ℕ) (n : ℕ) → length bytes ≡ 4 * n
    → length (pixels_of bytes) ≡ n
length-pixels_of [] zero long = refl
length-pixels_of (r ∷ g ∷ b ∷ a ∷ bytes) (suc n) long =
    ap suc (length-pixels_of bytes n (omega (arith, long)))
length-pixels_of _ n long = absurd (omega (arith, long))

-- the pixels of whole ones and of bytes after them
pub pixels_of-append : (xs ys : List ℕ) (n : ℕ) → length xs ≡ 4 * n
    → pixels_of (xs ++ ys) ≡ pixels_of xs ++ pixels_of ys
pixels_of-append [] ys n long = refl
pixels_of-append (r ∷ g ∷ b ∷ a ∷ xs) ys (suc n) long =
    ap (λ ps. (r ∷ g ∷ b ∷ a ∷ []) ∷ ps) (pixels_of-append xs ys n (omega (arith, long)))
pixels_of-append _ ys n long = absurd (omega (arith, long))

-- the pixels of one color
pub pixels_of-joined : (color : List ℕ) (n : ℕ) → length color ≡ 4
    → pixels_of (joined (λ _. color) n) ≡ replicate n color
unfolding joined
pixels_of-joined color zero four = refl
pixels_of-joined color (suc n) four =
    ap pixels_of (joined-front (λ _. color) n)
    ∙ pixels_of-one color (joined (λ _. color) n) four
    ∙ ap (λ ps. color ∷ ps) (pixels_of-joined color n four)

-- the first ones, and those after them
pub pixels_of-take : (bytes : List ℕ) (n : ℕ)
    → pixels_of (take (4 * n) bytes) ≡ take n (pixels_of bytes)
pixels_of-take bytes zero = refl
pixels_of-take (r ∷ g ∷ b ∷ a ∷ bytes) (suc n) =
    rw (four_more n) (ap (λ ps. (r ∷ g ∷ b ∷ a ∷ []) ∷ ps) (pixels_of-take bytes n))
pixels_of-take _ (suc n) = rw (four_more n) refl

pub pixels_of-drop : (bytes : List ℕ) (n : ℕ)
    → pixels_of (drop (4 * n) bytes) ≡ drop n (pixels_of bytes)
pixels_of-drop bytes zero = refl
pixels_of-drop (r ∷ g ∷ b ∷ a ∷ bytes) (suc n) =
    rw (four_more n) (pixels_of-drop bytes n)
pixels_of-drop _ (suc n) = rw (four_more n) refl

-- one of them, by its four bytes
pub pixel_bytes : (bytes : List ℕ) (i w x y z : ℕ) (d : List ℕ) → 4 * i + 4 ≤ length bytes
    → w ≡ get_or bytes (4 * i) w → x ≡ get_or bytes (4 * i + 1) x
    → y ≡ get_or bytes (4 * i + 2) y → z ≡ get_or bytes (4 * i + 3) z
    → w ∷ x ∷ y ∷ z ∷ [] ≡ get_or (pixels_of bytes) i d
pixel_bytes (r ∷ g ∷ b ∷ a ∷ bytes) zero w x y z d inside first second third last = grind (arith)
pixel_bytes (r ∷ g ∷ b ∷ a ∷ bytes) (suc i) w x y z d inside first second third last =
    let all = r ∷ g ∷ b ∷ a ∷ bytes in
    let on : (k : ℕ) → 4 * suc i + k ≡ suc (suc (suc (suc (4 * i + k)))) = λ k. omega arith in
    pixel_bytes bytes i w x y z d (omega (arith, inside))
    (first ∙ ap (λ k. get_or all k w) (four_more i))
    (second ∙ ap (λ k. get_or all k x) (on 1))
    (third ∙ ap (λ k. get_or all k y) (on 2))
    (last ∙ ap (λ k. get_or all k z) (on 3))
pixel_bytes _ i w x y z d inside first second third last = absurd (omega (arith, inside))

-- whole pixels are their bytes, one after another
pub flat_map-pixels_of : (bytes : List ℕ) (n : ℕ) → length bytes ≡ 4 * n
    → flat_map (λ x. x) (pixels_of bytes) ≡ bytes
flat_map-pixels_of [] n long = refl
flat_map-pixels_of (r ∷ g ∷ b ∷ a ∷ bytes) (suc n) long =
    ap (λ xs. r ∷ g ∷ b ∷ a ∷ xs) (flat_map-pixels_of bytes n (omega (arith, long)))
flat_map-pixels_of _ n long = absurd (omega (arith, long))

-- bytes of which a part was painted
pub pixels_of-painted : (bytes color : List ℕ) (from to n : ℕ) → from ≤ to → to ≤ n
    → length bytes ≡ 4 * n → length color ≡ 4
    → pixels_of (take (4 * from) bytes ++ joined (λ _. color) (to - from) ++ drop (4 * to) bytes)
    ≡ take from (pixels_of bytes) ++ replicate (to - from) color ++ drop to (pixels_of bytes)
pixels_of-painted bytes color from to n order held long four =
    let front = take (4 * from) bytes in
    let middle = joined (λ _. color) (to - from) in
    let front_long : length front ≡ 4 * from = grind (arith, length-take) in
    let middle_long = length-joined (λ _. color) 4 (to - from) (λ _. four) in
    rw (
      pixels_of-append (front ++ middle) (drop (4 * to) bytes) to (grind (arith, length-append)),
      pixels_of-append front middle from front_long,
      pixels_of-take bytes from,
      pixels_of-joined color (to - from) four,
      pixels_of-drop bytes to,
    ) refl

-- bytes to which pixels of one color were added
pub pixels_of-added : (bytes color : List ℕ) (n more : ℕ) → length bytes ≡ 4 * n
    → length color ≡ 4
    → pixels_of (bytes ++ joined (λ _. color) more) ≡ pixels_of bytes ++ replicate more color
pixels_of-added bytes color n more long four =
    pixels_of-append bytes (joined (λ _. color) more) n long
    ∙ ap (λ ps. pixels_of bytes ++ ps) (pixels_of-joined color more four)

-- how many bytes they are
pub length-painted_bytes : (bytes color : List ℕ) (from to n : ℕ) → from ≤ to → to ≤ n
    → length bytes ≡ 4 * n → length color ≡ 4
    → length (take (4 * from) bytes ++ joined (λ _. color) (to - from) ++ drop (4 * to) bytes)
    ≡ 4 * n
length-painted_bytes bytes color from to n order held long four =
    let middle = length-joined (λ _. color) 4 (to - from) (λ _. four) in
    grind (arith, length-append, length-take, length-drop)

-- the bytes of some pixels
pub flat_map-part : (bytes : List ℕ) (begin held n : ℕ) → length bytes ≡ 4 * n
    → begin + held ≤ n
    → flat_map (λ x. x) (take held (drop begin (pixels_of bytes)))
    ≡ take (4 * held) (drop (4 * begin) bytes)
flat_map-part bytes begin held n long inside =
    let part = take (4 * held) (drop (4 * begin) bytes) in
    let is : pixels_of part ≡ take held (drop begin (pixels_of bytes)) =
    pixels_of-take (drop (4 * begin) bytes) held ∙ ap (take held) (pixels_of-drop bytes begin) in
    sym (ap (flat_map (λ x. x)) is)
    ∙ flat_map-pixels_of part held
    (grind (arith, length-take, length-drop))

-- a row whose bytes were written over is as thrifty, and has whole pixels
pub thrifty_written : (background old new bytes : List ℕ) (room writes n : ℕ) → bytes ≡ new
    → length old ≡ 4 * n → length new ≡ 4 * n
    → IsThrifty (row_state background (pixels_of old) room writes)
    → (length bytes ≡ 4 * length (pixels_of bytes))
    × IsThrifty (row_state background (pixels_of bytes) room writes)
thrifty_written background old new bytes room writes n same old_long new_long is =
    let before = length-pixels_of old n old_long in
    let long = ap length same ∙ new_long in
    let after : length (pixels_of bytes) ≡ n = length-pixels_of bytes n long in grind (arith)
