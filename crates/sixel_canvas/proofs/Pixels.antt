use Rattle.std.proofs.Common.{◌≡◌, ℕ, zero, suc, ◌+◌, ◌-◌, ◌*◌, ◌<◌, ◌≤◌, min, List, [], ◌∷◌, ◌++◌}
use Rattle.std.proofs.Common.{length, get_or, take, drop, refl, ap, ◌∙◌, take_all, get_or-drop}
use Rattle.std.proofs.{Common.{length-drop, arith}, lemmas.Bool.Decides.nat_tests}
use Rattle.std.proofs.{lemmas.List.{append-nil, drop_all, get_or_past}, lemmas.Slice.put_mid-paste}
use Rattle.std.specs.List.{flat_map}
use borrow.Rule.Slice.PartMut.{put_mid}
use Rattle.sixel_base.specs.Picture.{joined}
use Rattle.sixel_base.proofs.PictureBytes.{joined-front, joined-same, joined-add, length-joined}
use Rattle.sixel_canvas.proofs.Spans.{IsColored}

-- a span in one color is that color's bytes, over and over
joined-colored : (color span : List ℕ) (n : ℕ) → length color ≡ 4 → length span ≡ 4 * n
    → IsColored color span (4 * n) → span ≡ joined (λ _. color) n
unfolding joined
joined-colored (r ∷ g ∷ b ∷ a ∷ []) [] zero whole long colored = refl
joined-colored (r ∷ g ∷ b ∷ a ∷ []) (w ∷ x ∷ y ∷ z ∷ rest) (suc n) whole long colored =
    let e0 : w ≡ r = colored 0 (omega arith) in
    let e1 : x ≡ g = colored 1 (omega arith) in
    let e2 : y ≡ b = colored 2 (omega arith) in
    let e3 : z ≡ a = colored 3 (omega arith) in
    let color = r ∷ g ∷ b ∷ a ∷ [] in
    let more =
    joined-colored color rest n whole (omega arith)
    (λ k h.
    colored (suc (suc (suc (suc k)))) (omega arith) ∙ ap (λ i. get_or color i 0) (omega arith)) in
    let front = joined-front (λ _. color) n in
    cc
joined-colored _ _ n whole long colored = absurd (omega arith)

-- bytes whose end was written in one color
pub put_mid-colored : (bytes span color : List ℕ) (start n : ℕ) → start + 4 * n ≡ length bytes
    → length color ≡ 4 → length span ≡ 4 * n → IsColored color span (4 * n)
    → put_mid start (length bytes - start) bytes span ≡ take start bytes ++ joined (λ _. color) n
put_mid-colored bytes span color start n whole four long colored =
    grind (arith, take_all, append-nil, drop_all, put_mid-paste, joined-colored)

-- bytes of which a part was written in one color
pub put_mid-filled : (bytes span color : List ℕ) (from to : ℕ) → from ≤ to → 4 * to ≤ length bytes
    → length color ≡ 4 → length span ≡ 4 * (to - from) → IsColored color span (4 * (to - from))
    → put_mid (4 * from) (4 * to - 4 * from) bytes span
    ≡ take (4 * from) bytes ++ joined (λ _. color) (to - from) ++ drop (4 * to) bytes
put_mid-filled bytes span color from to order within four long colored =
    grind (arith, nat_tests, take_all, put_mid-paste, length-joined, joined-colored)

-- the bytes of the first pixels
joined-pixels : (pixels : List (List ℕ)) (d : List ℕ) (n : ℕ) → n ≤ length pixels
    → joined (λ k. get_or pixels k d) n ≡ flat_map (λ x. x) (take n pixels)
unfolding joined
joined-pixels pixels d zero le = refl
joined-pixels [] d (suc n) le = absurd (omega arith)
joined-pixels (pixel ∷ pixels) d (suc n) le =
    joined-front (λ k. get_or (pixel ∷ pixels) k d) n
    ∙ ap (λ xs. pixel ++ xs) (joined-pixels pixels d n (omega arith))

-- the bytes of a row of this width, with the background where the pixels end
pub joined-row : (pixels : List (List ℕ)) (background : List ℕ) (held width : ℕ)
    → held ≡ min (length pixels) width
    → joined (λ column. get_or pixels column background) width
    ≡ flat_map (λ x. x) (take held pixels) ++ joined (λ _. background) (width - held)
joined-row pixels background held width least =
    let rest = width - held in
    let wide : held + rest ≡ width = omega arith in
    let past = λ (k : ℕ) (h : k < rest). get_or_past pixels (held + k) background (omega arith) in
    grind (arith, joined-add, joined-pixels, joined-same)

-- the bytes of `count` pixels from column `from` on, with the background where the pixels end
pub joined-part : (pixels : List (List ℕ)) (background : List ℕ) (from begin held count : ℕ)
    → begin ≡ min from (length pixels) → held ≡ min count (length pixels - begin)
    → joined (λ k. get_or pixels (from + k) background) count
    ≡ flat_map (λ x. x) (take held (drop begin pixels)) ++ joined (λ _. background) (count - held)
joined-part pixels background from begin held count begins least =
    grind (arith, nat_tests, get_or-drop, length-drop, get_or_past, joined-same, joined-row)
