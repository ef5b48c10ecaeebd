-- What a caller's memory has once one more row of pixels was copied there.
use Rattle.std.proofs.Common.{◌≡◌, ℕ, ◌+◌, ◌-◌, ◌*◌, ◌/◌, ◌%◌, ◌<◌, ◌≤◌, List, length, get_or, take}
use Rattle.std.proofs.Common.{drop, arith, length-take, length-drop}
use Rattle.std.{proofs.lemmas.Nat.mul-le, specs.Prelude.{nat_le, nat_lt, ◌==◌, ◌&&◌, if◌then◌else◌}}
use borrow.Rule.Slice.PartMut.{put_mid}
use Rattle.sixel_canvas.{proofs.RowPixels.parts}
use Rattle.sixel_canvas.{proofs.BandRows.within_row, specs.Layout.{AreCopied, AreRowsIn, in_order}}
use Rattle.sixel_canvas.specs.declared.channels.RowLayout.{RowLayout}

-- bytes with a part of them written over
spliced : (a k : ℕ) (xs ys : List ℕ) (i : ℕ) → a + k ≤ length xs → length ys ≡ k →
    get_or (put_mid a k xs ys) i 0
    ≡ (if nat_le a i && nat_lt i (a + k) then get_or ys (i - a) 0 else get_or xs i 0)
spliced a k xs ys i fits len =
    grind (arith, parts)

-- one row more was copied
pub copied_row :
    (shown : ℕ → ℕ → List ℕ) (first rows k n : ℕ) (layout : RowLayout) (old mid part : List ℕ) →
    AreRowsIn layout rows (length mid) → k < rows → n ≡ 4 * layout.columns →
    length part ≡ length (take n (drop (k * layout.stride) mid)) →
    ((i : ℕ) → i < length (take n (drop (k * layout.stride) mid))
    → get_or part i 0
    ≡ get_or (in_order layout.order (shown (i / 4) (first + k))) (i % 4) 0) →
    AreCopied shown first k layout old mid →
    AreCopied shown first (k + 1) layout old (put_mid (k * layout.stride) n mid part)
copied_row shown first rows k n layout old mid part fits less is len copied before row byte inside =
    let stride = layout.stride in
    let wide = 4 * layout.columns in
    let start = k * stride in
    let at = row * stride + byte in
    let above : start ≤ (rows - 1) * stride =
    mul-le k stride (rows - 1) stride (omega (arith, less)) (omega arith) in
    let within : start + n ≤ length mid =
    omega (arith, above, fits.within (omega (arith, less)), is) in
    let cut : length (take n (drop start mid)) ≡ n =
    omega (arith, length-take n (drop start mid), length-drop start mid, within) in
    let base : start ≡ start + 0 = omega arith in
    let hit : (nat_le start at && nat_lt at (start + n)) ≡ (row == k && nat_lt byte wide) =
    grind (arith, within_row) in
    grind (arith, spliced)
