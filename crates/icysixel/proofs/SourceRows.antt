-- Rows in the caller's memory: without gaps, read one below the other, and in RGBA.
use Rattle.std.proofs.Common.{◌≡◌, ℕ, zero, suc, ◌+◌, ◌-◌, ◌*◌, List, ◌++◌, take, drop, ap, ◌∙◌}
use Rattle.std.proofs.{Common.{arith, ◌≤◌, add-one, true, length, sym}, Math.Seq.take-add}
use Rattle.std.proofs.{lemmas.Bool.false≢true, lemmas.Bool.Decides.nat_tests, lemmas.List.take_all}
use Rattle.sixel_base.specs.Picture.{joined}
use Rattle.icysixel.specs.{Formats.{is_rgba, rgba_pixels}, Rows.{rows_of}}
use Rattle.icysixel.specs.{Rows.wanted, declared.format.Format.Format}
use Rattle.icysixel.specs.declared.format.Format.TheVariants.{Rgba, Bgra, Rgb, Bgr, Indexed}
use Rattle.std.specs.Prelude.{Some, slice_range}

-- they are the bytes from the first on
pub dense_rows : (wide height : ℕ) (bytes : List ℕ)
    → take (height * wide) bytes ≡ rows_of wide wide height bytes
unfolding joined
dense_rows wide zero bytes =
    let none : 0 * wide ≡ 0 = omega arith in
    ap (λ m. take m bytes) none
dense_rows wide (suc n) bytes =
    let product : suc n * wide ≡ n * wide + wide = omega arith in
    let width : wide ≡ n * wide + wide - n * wide = omega arith in
    ap (λ m. take m bytes) product
    ∙ (take-add (n * wide) wide bytes
    ∙ (ap (λ m. take (n * wide) bytes ++ take m (drop (n * wide) bytes)) width
    ∙ ap
    (λ first. first ++ take (n * wide + wide - n * wide) (drop (n * wide) bytes))
    (dense_rows wide n bytes)))

-- all of them are the rows before the last one, and that one
pub rows_more : (stride wide n : ℕ) (xs : List ℕ)
    → rows_of stride wide (n + 1) xs
    ≡ rows_of stride wide n xs ++ slice_range xs (n * stride) (n * stride + wide)
unfolding joined
rows_more stride wide n xs = ap (λ m. rows_of stride wide m xs) (add-one n)

-- pixels stay as they are
pub rgba_same : (format : Format) (bytes : List ℕ) (count : ℕ) → is_rgba format ≡ true
    → length bytes ≡ 4 * count → bytes ≡ rgba_pixels format bytes count
rgba_same Rgba bytes count is long =
    sym (take_all (count * 4) bytes (omega (arith, long))) ∙ dense_rows 4 count bytes
rgba_same Bgra bytes count is long = absurd (false≢true is)
rgba_same Rgb bytes count is long = absurd (false≢true is)
rgba_same Bgr bytes count is long = absurd (false≢true is)
rgba_same (Indexed transparent) bytes count is long = absurd (false≢true is)

-- rows without gaps take as many bytes as they have, and are these bytes
pub dense_size : (wide height size : ℕ) → 1 ≤ height → wanted wide wide height ≡ Some size
    → size ≡ wide * height
dense_size wide zero size some is = absurd (omega (arith, some))
dense_size wide (suc n) size some is = grind (arith, nat_tests)

pub dense_taken : (wide height size : ℕ) (bytes : List ℕ) → 1 ≤ height
    → wanted wide wide height ≡ Some size → take size bytes ≡ rows_of wide wide height bytes
dense_taken wide height size bytes some is =
    let all : size ≡ height * wide = omega (arith, dense_size wide height size some is) in
    rw all (dense_rows wide height bytes)
