-- The bytes of rows of pixels: which pixel stands at an index, and the picture that they are.
use Rattle.std.proofs.Common.{get_or, ◌≡◌, ℕ, zero, suc, ◌+◌, ◌-◌, ◌*◌, ◌<◌, ◌≤◌, List, [], ◌∷◌}
use Rattle.std.proofs.Common.{◌++◌, length, take, drop, refl, sym, ap, ◌∙◌, inl, inr, length-drop}
use Rattle.std.proofs.Common.{length-take, length-append, take_all, arith}
use Rattle.std.{proofs.Math.Seq.{drop-append-add, take-append_seam}, proofs.lemmas.Bool.cases_lt}
use Rattle.std.{proofs.lemmas.Bool.cases_order, proofs.lemmas.Bool.Decides.nat_tests}
use Rattle.std.{proofs.lemmas.Grind.common_steps, proofs.lemmas.List.{drop-take, get_or_past}}
use Rattle.std.proofs.lemmas.List.{take-append-drop, take-append-le, drop-append-le, get_or_default}
use Rattle.std.{proofs.lemmas.Nat.{mul-le, row_fits}, specs.List.flat_map, specs.Prelude.min}
use Rattle.std.specs.Prelude.{nat_lt, ◌==◌, ◌&&◌, if◌then◌else◌, Result, IsOk, OnOk}
use Rattle.sixel_base.proofs.PictureBytes.{joined-add, joined-front, length-joined}
use Rattle.sixel_base.specs.Picture.{joined, picture}
use Rattle.sixel_canvas.{proofs.Pixels.joined-row, specs.Layout.pixel_at}
use Rattle.sixel_canvas.specs.inside.RowsState.{final, rows_state}

-- a pixel of the first bytes, and one of those after them
pub pixel_left : (xs ys : List ℕ) (n i : ℕ) → length xs ≡ 4 * n → i < n →
    pixel_at (xs ++ ys) i ≡ pixel_at xs i
pixel_left xs ys n i len inside =
    ap (take 4) (drop-append-le (4 * i) xs ys (omega (arith, len, inside)))
    ∙ take-append-le 4 (drop (4 * i) xs) ys (omega (arith, length-drop (4 * i) xs, len, inside))

pub pixel_right : (xs ys : List ℕ) (n i : ℕ) → length xs ≡ 4 * n →
    pixel_at (xs ++ ys) (n + i) ≡ pixel_at ys i
pixel_right xs ys n i len = grind (arith, drop-append-add)

take_front : (x rest : List ℕ) → length x ≡ 4 → take 4 (x ++ rest) ≡ x
take_front x rest four = ap (λ n. take n (x ++ rest)) (sym four) ∙ take-append_seam x rest

-- a pixel of a row
pub pixel_joined : (f : ℕ → List ℕ) (n i : ℕ) → ((k : ℕ) → length (f k) ≡ 4) → i < n →
    pixel_at (joined f n) i ≡ f i
pixel_joined f n i four inside =
    let m = n - suc i in
    let rest = joined (λ k. f (i + suc k)) m in
    let parts : joined f n ≡ joined f i ++ (f (i + 0) ++ rest) =
    ap (joined f) (omega (arith, inside)) ∙ joined-add f i (suc m)
    ∙ ap (λ xs. joined f i ++ xs) (joined-front (λ k. f (i + k)) m) in
    grind (arith, pixel_right, length-joined, take_front)

take-take_less : (n m : ℕ) (xs : List ℕ) → n ≤ m → take n (take m xs) ≡ take n xs
take-take_less n m xs less = grind (arith, common_steps, nat_tests)

drop-drop_sum : (n m k : ℕ) (xs : List ℕ) → k ≡ n + m → drop m (drop n xs) ≡ drop k xs
drop-drop_sum n m k xs sum = grind (arith, common_steps, nat_tests)

-- a pixel of some bytes from a pixel on
pub pixel_part : (bytes : List ℕ) (from n i : ℕ) → i < n →
    pixel_at (take (4 * n) (drop (4 * from) bytes)) i ≡ pixel_at bytes (from + i)
pixel_part bytes from n i inside =
    let rest = drop (4 * from) bytes in
    let more : 4 * n ≡ 4 * i + 4 * (n - i) = omega (arith, inside) in
    let at : 4 * (from + i) ≡ 4 * from + 4 * i = omega arith in
    ap (λ m. take 4 (drop (4 * i) (take m rest))) more
    ∙ ap (take 4) (drop-take (4 * i) (4 * (n - i)) rest)
    ∙ take-take_less 4 (4 * (n - i)) (drop (4 * i) rest) (omega (arith, inside))
    ∙ ap (take 4) (drop-drop_sum (4 * from) (4 * i) (4 * (from + i)) bytes at)

-- bytes are their pixels, one after another
pub pixels_joined : (f : ℕ → List ℕ) (bytes : List ℕ) (n : ℕ) → length bytes ≡ 4 * n →
    ((i : ℕ) → i < n → pixel_at bytes i ≡ f i) → bytes ≡ joined f n
unfolding joined
pixels_joined f [] zero len same = refl
pixels_joined f (x ∷ bytes) zero len same = absurd (omega (arith, len))
pixels_joined f bytes (suc n) len same =
    let front = take (4 * n) bytes in
    let last = drop (4 * n) bytes in
    let parts : front ++ last ≡ bytes = take-append-drop (4 * n) bytes in
    let long : length front ≡ 4 * n = omega (arith, length-take (4 * n) bytes, len) in
    let is_front =
    pixels_joined f front n long
    (λ i h.
    sym (pixel_left front last n i long h) ∙ ap (λ xs. pixel_at xs i) parts
    ∙ same i (omega (arith, h))) in
    let is_last : last ≡ f n =
    sym (take_all 4 last (omega (arith, length-drop (4 * n) bytes, len))) ∙ same n (omega arith) in
    sym parts ∙ ap (λ xs. xs ++ last) is_front ∙ ap (λ xs. joined f n ++ xs) is_last

-- bytes are a picture where each of their pixels is the picture's
pub pixels_picture : (p : ℕ → ℕ → List ℕ) (bytes : List ℕ) (width height : ℕ) →
    length bytes ≡ 4 * (height * width) →
    ((column row : ℕ) → column < width → row < height
    → pixel_at bytes (row * width + column) ≡ p column row) →
    bytes ≡ picture p width height
unfolding joined picture
pixels_picture p [] width zero len same = refl
pixels_picture p (x ∷ bytes) width zero len same = absurd (omega (arith, len))
pixels_picture p bytes width (suc height) len same =
    let n = height * width in
    let front = take (4 * n) bytes in
    let last = drop (4 * n) bytes in
    let parts : front ++ last ≡ bytes = take-append-drop (4 * n) bytes in
    let long : length front ≡ 4 * n = grind (arith, length-take (4 * n) bytes) in
    let is_front = pixels_picture p front width height long
    (λ column row inside above.
    sym (pixel_left front last n (row * width + column) long
    (omega (arith, inside, row_fits row width height width above (omega arith))))
    ∙ ap (λ xs. pixel_at xs (row * width + column)) parts
    ∙ same column row inside (omega (arith, above))) in
    let is_last =
    pixels_joined (λ column. p column height) last width
    (grind (arith, length-drop (4 * n) bytes))
    (λ column inside.
    sym (pixel_right front last n column long) ∙ ap (λ xs. pixel_at xs (n + column)) parts
    ∙ same column height inside (omega arith)) in
    sym parts ∙ ap (λ xs. xs ++ last) is_front ∙ ap (λ xs. picture p width height ++ xs) is_last

-- `n` background pixels, or those of a row and background to their right
background-pixel : (background : List ℕ) (n i : ℕ) → length background ≡ 4 → i < n →
    pixel_at (joined (λ _. background) n) i ≡ background
background-pixel background n i four inside = pixel_joined (λ _. background) n i (λ _. four) inside

row-pixel-len : (pixels : List (List ℕ)) (background : List ℕ) (k : ℕ) → length background ≡ 4 →
    ((i : ℕ) → i < length pixels → length (get_or pixels i []) ≡ 4) →
    length (get_or pixels k background) ≡ 4
row-pixel-len pixels background k four all = grind (arith, get_or_past, get_or_default pixels k)

row-is : (pixels : List (List ℕ)) (background : List ℕ) (width : ℕ) → length pixels ≤ width →
    flat_map (λ x. x) pixels ++ joined (λ _. background) (width - length pixels)
    ≡ joined (λ column. get_or pixels column background) width
row-is pixels background width few =
    sym (joined-row pixels background (length pixels) width (omega (arith, few))
    ∙ ap (λ xs. flat_map (λ x. x) xs ++ joined (λ _. background) (width - length pixels))
    (take_all (length pixels) pixels (omega arith)))

-- one row more, of these pixels and background to their right
pub row_len : (bytes part new background : List ℕ) (width rows held : ℕ) → held ≤ width →
    length background ≡ 4 → length bytes ≡ 4 * (rows * width) → length part ≡ 4 * held →
    new ≡ bytes ++ (part ++ joined (λ _. background) (width - held)) →
    length new ≡ 4 * ((rows + 1) * width)
row_len bytes part new background width rows held few four len part_len is =
    let filler = length-joined (λ _. background) 4 (width - held) (λ _. four) in
    ap length is ∙ grind (arith, length-append, few, filler)

pub row_appended :
    (bytes part new background : List ℕ) (pixels : List (List ℕ))
    (width rows room room' moved shifts : ℕ) → length pixels ≤ width → length background ≡ 4 →
    ((i : ℕ) → i < length pixels → length (get_or pixels i []) ≡ 4) →
    length bytes ≡ 4 * (rows * width) → part ≡ flat_map (λ x. x) pixels →
    new ≡ bytes ++ (part ++ joined (λ _. background) (width - length pixels)) → (column row : ℕ) →
    final (rows_state background new width (rows + 1) room' moved shifts) column row
    ≡ (if row == rows then get_or pixels column background
    else final (rows_state background bytes width rows room moved shifts) column row)
row_appended bytes part new background pixels width rows room room' moved shifts few four all len
    flat is column row =
    let f = λ (k : ℕ). get_or pixels k background in
    let next : new ≡ bytes ++ joined f width = grind (arith, row-is) in
    elim (cases_lt column width) [
      | inr right ↦ grind (arith, get_or_past)
      | inl inside ↦ elim (cases_order row rows) [
        | inl same ↦ grind (arith, pixel_right, pixel_joined, row-pixel-len)
        | inr (inl above) ↦
            let place = row_fits row width rows width above (omega arith) in
            grind (arith, pixel_left bytes (joined f width) (rows * width) (row * width + column))
        | inr (inr below) ↦ grind (arith)
      ]
    ]

pub part_len_is : (old part : List ℕ) (held width row rows kept : ℕ) → kept ≡ min width held →
    row < rows → length old ≡ 4 * (rows * held) →
    part ≡ take (4 * kept) (drop (4 * (row * held)) old) → length part ≡ 4 * kept
part_len_is old part held width row rows kept least inside len cut =
    grind (arith, nat_tests, length-drop, length-take, row_fits)

-- one row more was copied to rows of another width
pub row_copied : (old bytes part new background : List ℕ) (held width row rows kept : ℕ) →
    kept ≡ min width held → length background ≡ 4 → row < rows → length old ≡ 4 * (rows * held) →
    length bytes ≡ 4 * (row * width) → part ≡ take (4 * kept) (drop (4 * (row * held)) old) →
    new ≡ bytes ++ (part ++ joined (λ _. background) (width - kept)) →
    ((column r : ℕ) → column < width → r < row
    → pixel_at bytes (r * width + column)
    ≡ (if nat_lt column held then pixel_at old (r * held + column) else background)) →
    (column r : ℕ) → column < width → r < row + 1 →
    pixel_at new (r * width + column)
    ≡ (if nat_lt column held then pixel_at old (r * held + column) else background)
row_copied old bytes part new background held width row rows kept least four inside_rows len
    bytes_len cut is before column r inside up =
    let rest = joined (λ _. background) (width - kept) in
    let part_len : length part ≡ 4 * kept =
    part_len_is old part held width row rows kept least inside_rows len cut in
    ap (λ xs. pixel_at xs (r * width + column)) is ∙ elim (cases_lt r row) [
      | inl above ↦
          pixel_left bytes (part ++ rest) (row * width) (r * width + column) bytes_len
          (omega (arith, inside, row_fits r width row width above (omega arith)))
          ∙ before column r inside above
      | inr here ↦
          let same : r ≡ row = omega (arith, here, up) in
          rw same
          (pixel_right bytes (part ++ rest) (row * width) column bytes_len
          ∙ elim (cases_lt column kept) [
            | inl old_one ↦
                let own = pixel_part old (row * held) kept column old_one in
                grind (arith, pixel_left part rest kept column part_len old_one)
            | inr past ↦
                let on : kept + (column - kept) ≡ column = omega (arith, past) in
                grind (arith, pixel_right, background-pixel)
          ])
    ]

pub products : (a b n : ℕ) → a ≤ b → b * n ≡ a * n + (b - a) * n
products a b n le = grind (arith, nat_tests)

-- bytes cut to a height, and filled up with background, are the picture of what they show
pub taken_len : (bytes cut new background : List ℕ) (width height rows : ℕ) →
    length background ≡ 4 → length bytes ≡ 4 * (rows * width) →
    cut ≡ take (4 * (height * width)) bytes →
    new ≡ cut ++ joined (λ _. background) ((height - rows) * width) →
    length new ≡ 4 * (height * width)
taken_len bytes cut new background width height rows four len is filled =
    let rest = joined (λ _. background) ((height - rows) * width) in
    let cut_len : length cut ≡ min (4 * (height * width)) (4 * (rows * width)) =
    ap length is ∙ length-take (4 * (height * width)) bytes ∙ ap (min (4 * (height * width))) len in
    let filler = length-joined (λ _. background) 4 ((height - rows) * width) (λ _. four) in
    ap length filled ∙ length-append cut rest ∙ elim (cases_lt rows height) [
      | inl less ↦ omega (arith, cut_len, filler, products rows height width (omega (arith, less)))
      | inr more ↦
          let fits = mul-le height width rows width more (omega arith) in
          grind (arith, cut_len, filler)
    ]

pub taken : (p : ℕ → ℕ → List ℕ) (bytes cut new background : List ℕ) (width height rows : ℕ) →
    length background ≡ 4 → length bytes ≡ 4 * (rows * width) →
    cut ≡ take (4 * (height * width)) bytes →
    new ≡ cut ++ joined (λ _. background) ((height - rows) * width) →
    ((column row : ℕ) → column < width
    → p column row
    ≡ (if nat_lt column width && nat_lt row rows then pixel_at bytes (row * width + column)
    else background)) →
    new ≡ picture p width height
taken p bytes cut new background width height rows four len is filled shown =
    let rest = joined (λ _. background) ((height - rows) * width) in
    let n = min (height * width) (rows * width) in
    let cut_len : length cut ≡ 4 * n =
    ap length is ∙ length-take (4 * (height * width)) bytes ∙ omega (arith, len) in
    pixels_picture p new width height
    (taken_len bytes cut new background width height rows four len is filled)
    (λ column row inside above.
    let i = row * width + column in
    let before : i < height * width =
    omega (arith, inside, row_fits row width height width above (omega arith)) in
    ap (λ xs. pixel_at xs i) filled ∙ elim (cases_lt row rows) [
      | inl stored ↦
          let early : i < rows * width =
          omega (arith, inside, row_fits row width rows width stored (omega arith)) in
          let own = pixel_part bytes 0 (height * width) i before in
          grind (arith, pixel_left cut rest n i cut_len)
      | inr past ↦
          let all : height * width ≡ rows * width + (height - rows) * width =
          products rows height width (omega (arith, past, above)) in
          let down : row * width ≡ rows * width + (row - rows) * width =
          products rows row width past in
          let j = (row - rows) * width + column in
          let on : i ≡ n + j = omega (arith, all, down) in
          grind (arith, pixel_right, background-pixel)
    ])

-- what holds of a result that is a value
pub when_ok : {A E : Type 0} {P : Type 0} (r : Result A E) → IsOk r → OnOk r P → P
when_ok r is holds = grind (arith, nat_tests)
