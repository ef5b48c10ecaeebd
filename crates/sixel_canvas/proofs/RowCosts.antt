-- What a canvas of rows has cost, against the runs that were drawn on it.
use Rattle.std.proofs.Common.{◌≡◌, ℕ, zero, suc, ◌+◌, ◌*◌, ◌/◌, ◌%◌, ◌<◌, ◌≤◌, List, [], ◌∷◌, All}
use Rattle.std.{proofs.Common.{length, get_or, max, sym, ap, ◌∙◌, arith}, specs.List.sum_by}
use Rattle.std.proofs.lemmas.List.Elements.{All-head, All-nil, All-tail}
use Rattle.std.{proofs.lemmas.List.Sums.{sum_by-cons, sum_by-le}, proofs.lemmas.Bool.cases_lt}
use Rattle.std.{proofs.lemmas.List.get_or_past, proofs.lemmas.Bool.Decides.nat_tests}
use Rattle.sixel_base.specs.Picture.{total}
use Rattle.sixel_canvas.proofs.Totals.{total-add, total-front, total-past, total-same, total-zero}
use Rattle.sixel_canvas.{specs.Drawn.Run, specs.inside.RowBand.{IsRowBand, least, line_in}}
use Rattle.sixel_canvas.specs.inside.RowCanvas.{RowCanvasState, HasCost, IsDrawnBy, IsRowCanvas}
use Rattle.sixel_canvas.specs.inside.RowCanvas.{row_canvas_work, row_edge, row_len}
use Rattle.sixel_canvas.specs.inside.TaggedRow.{TaggedRowState, IsTaggedRow, empty_tagged_row}

-- ---- sums over the rows

-- the pixels that some rows have
abbrev pixels_in : List TaggedRowState → ℕ
pixels_in rows = sum_by (λ line. length line.row.pixels) rows

-- the total over the places is the sum over the rows
total-lines : (rows : List TaggedRowState) (background : List ℕ) (n : ℕ) → length rows ≤ n
    → total (λ k. length (line_in rows background k).row.pixels) n ≡ pixels_in rows
total-lines [] background n enough = total-zero n
total-lines (line ∷ rows) background zero enough = absurd (omega arith)
total-lines (line ∷ rows) background (suc n) enough =
    total-front (λ k. length (line_in (line ∷ rows) background k).row.pixels) n
    ∙ ap (λ m. length line.row.pixels + m) (total-lines rows background n (omega arith))
    ∙ sym (sum_by-cons (λ (l : TaggedRowState). length l.row.pixels) line rows)

-- a sum against another one, where each number is at most so many times the other
sum_by-times : {X : Type 0} (f g : X → ℕ) (n : ℕ) (xs : List X) → All (λ x. f x ≤ n * g x) xs
    → sum_by f xs ≤ n * sum_by g xs
sum_by-times f g n [] most = omega arith
sum_by-times f g n (x ∷ xs) most =
    rw (sum_by-cons f x xs, sum_by-cons g x xs)
    (let rest = sum_by-times f g n xs (λ k d l. most (suc k) d (omega arith)) in
    omega (arith, most 0 x (omega arith), rest))

-- the same over the rows of all bands
sum_bands : (f g : TaggedRowState → ℕ) (n : ℕ) (bands : List (List TaggedRowState))
    → All IsRowBand bands → ((line : TaggedRowState) → IsTaggedRow line → f line ≤ n * g line)
    → sum_by (sum_by f) bands ≤ n * sum_by (sum_by g) bands
sum_bands f g n bands sound each = grind (arith, nat_tests, sum_by-times)

-- a band has at most six rows
pub six_rows : (rows : List TaggedRowState) → IsRowBand rows → length rows ≤ 6
six_rows rows sound = grind (arith, nat_tests)

-- the total over the places is the sum over the rows that were made
total-bands : (bands : List (List TaggedRowState)) (background : List ℕ) (n : ℕ)
    → All IsRowBand bands → length bands ≤ n
    → total (λ k. length (line_in (get_or bands (k / 6) []) background (k % 6)).row.pixels) (6 * n)
    ≡ sum_by pixels_in bands
unfolding total
total-bands [] background n sound enough = total-zero (6 * n)
total-bands (rows ∷ bands) background zero sound enough = absurd (omega arith)
total-bands (rows ∷ bands) background (suc n) sound enough =
    let pixels = λ (k : ℕ).
    length (line_in (get_or (rows ∷ bands) (k / 6) []) background (k % 6)).row.pixels in
    let below = λ (k : ℕ).
    length (line_in (get_or bands (k / 6) []) background (k % 6)).row.pixels in
    let shift : (k : ℕ) → pixels (6 + k) ≡ below k = grind (arith) in
    let first : total pixels 6 ≡ pixels_in rows =
    total-lines rows background 6
    (six_rows rows (All-head IsRowBand rows bands sound)) in
    let rest =
    total-same (λ k. pixels (6 + k)) below (6 * n) shift
    ∙ total-bands bands background n (All-tail IsRowBand rows bands sound)
    (omega (arith, enough)) in
    ap (total pixels) (omega arith) ∙ total-add pixels 6 (6 * n)
    ∙ ap (λ m. m + total (λ k. pixels (6 + k)) (6 * n)) first ∙ ap (λ m. pixels_in rows + m) rest
    ∙ sym (sum_by-cons pixels_in rows bands)

-- ---- a canvas

-- What a canvas has cost follows from its runs.
pub drawn_cost : (canvas : RowCanvasState) (runs : List Run) (n : ℕ) → IsDrawnBy canvas runs
    → ((row : ℕ) → n ≤ row → row_edge runs row ≡ 0) → HasCost (row_canvas_work canvas) runs n
drawn_cost canvas runs n is none =
    let bands = max (length canvas.bands) n in
    let same = total-same (row_len canvas) (row_edge runs) (6 * bands) is.edges in
    let past = total-past (row_edge runs) n (6 * bands) none (omega arith) in
    let held = total-bands canvas.bands canvas.background bands is.sound.bands (omega arith) in
    let pixels = λ (line : TaggedRowState). length line.row.pixels in
    let writes = λ (line : TaggedRowState). line.row.writes in
    let at_least = sum_bands pixels writes 1 canvas.bands is.sound.bands (λ line h. omega arith) in
    let at_most = sum_bands writes pixels 3 canvas.bands is.sound.bands (λ line h. omega arith) in
    let room = sum_bands (λ line. line.row.room) pixels 2 canvas.bands is.sound.bands
    (λ line h. omega arith) in
    let appended = sum_bands (λ line. line.appended) pixels 1 canvas.bands is.sound.bands
    (λ line h. omega arith) in
    grind (arith, is.least, is.most)

-- the least of some numbers is at most each
pub least-each : (f : ℕ → ℕ) (n k : ℕ) → k < n → least f n ≤ f k
least-each f zero k inside = absurd (omega (arith, inside))
least-each f (suc n) k inside = grind (arith, nat_tests, cases_lt, least-each f n k)

-- it grows with them
pub least-grown : (f g : ℕ → ℕ) (n : ℕ) → ((k : ℕ) → k < n → f k ≤ g k) → least f n ≤ least g n
least-grown f g zero more = omega arith
least-grown f g (suc n) more =
    grind (arith, least-grown f g n (λ k inside. more k (omega (arith, inside))))

-- a row with no pixel is sound
pub empty_line : (background : List ℕ) → IsTaggedRow (empty_tagged_row background)
empty_line background = grind (arith, nat_tests)

-- a band without rows is sound
pub empty_band : IsRowBand []
empty_band = record { whole = λ some. absurd (omega (arith, some)); rows = All-nil IsTaggedRow }

-- what the rows of a band have written, and what wide runs have painted on them, fit a number
pub rows_write : (rows : List TaggedRowState) → IsRowBand rows
    → sum_by (λ (line : TaggedRowState). line.row.writes) rows ≤ 18000000
rows_write rows is =
    let each = sum_by-le (λ (line : TaggedRowState). line.row.writes) 3000000 rows
    (λ k d l. let line = is.rows k d l in omega (arith, line.row)) in
    omega (arith, each, six_rows rows is)

pub rows_appended : (rows : List TaggedRowState) → IsRowBand rows
    → sum_by (λ (line : TaggedRowState). line.appended) rows ≤ 6000000
rows_appended rows is =
    let each = sum_by-le (λ (line : TaggedRowState). line.appended) 1000000 rows
    (λ k d l. let line = is.rows k d l in omega (arith, line.row, line.appended)) in
    omega (arith, each, six_rows rows is)

-- those of all bands
pub band_writes_most : (canvas : RowCanvasState) → IsRowCanvas canvas
    → sum_by (sum_by (λ (line : TaggedRowState). line.row.writes)) canvas.bands ≤ 3000000000000
band_writes_most canvas is =
    let each = sum_by-le (sum_by (λ (line : TaggedRowState). line.row.writes)) 18000000 canvas.bands
    (λ k d l. rows_write _ (is.bands k d l)) in
    omega (arith, each, is.few)

pub band_appended_most : (canvas : RowCanvasState) → IsRowCanvas canvas
    → sum_by (sum_by (λ (line : TaggedRowState). line.appended)) canvas.bands ≤ 1000000000000
band_appended_most canvas is =
    let each = sum_by-le (sum_by (λ (line : TaggedRowState). line.appended)) 6000000 canvas.bands
    (λ k d l. rows_appended _ (is.bands k d l)) in
    omega (arith, each, is.few)

-- a band with rows was made
pub band_made : (bands : List (List TaggedRowState)) (band : ℕ)
    → 0 < length (get_or bands band []) → band < length bands
band_made bands band some = grind (arith, nat_tests, get_or_past)
