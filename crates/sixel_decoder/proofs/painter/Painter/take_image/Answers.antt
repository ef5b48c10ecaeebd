use Rattle.std.proofs.Common.{arith, ◌≡◌, ℕ, ◌+◌, ◌-◌, ◌*◌, ◌≤◌, List, ◌++◌, ap, sym, ◌∙◌, refl}
use Rattle.std.proofs.{Common.{append-nil, ⊎_elim, min}, Math.Nat.mul-le-mul_left}
use Rattle.std.proofs.{lemmas.Bool.cases_lt, lemmas.Nat.mul-le}
use Rattle.sixel_base.specs.{Clip.{clipped_pixel, clipped_width}, DrawnHeight.image_drawn_height}
use Rattle.sixel_base.specs.{Limits.Limit, Payload.image_height, Picture.{joined, picture}}
use Rattle.sixel_base.specs.Place.{raster_height}
use Rattle.sixel_base.proofs.PictureBytes.{joined-add}
use Rattle.sixel_canvas.proofs.Pictures.{picture_same}
use Rattle.sixel_decoder.proofs.{drawing.Clips.clipped_picture, drawing.ImageAreas.low}
use Rattle.sixel_decoder.proofs.painter.Painter.take_image.Goals as goal

-- the rows that are left, below those above the first of them
picture-left : (p q : ℕ → ℕ → List ℕ) (width height released first : ℕ)
    → first ≡ min released height → ((column row : ℕ) → q column row ≡ p column row)
    → picture p width first ++ picture (λ column row. q column (released + row)) width
    (height - released) ≡ picture p width height
unfolding picture joined
picture-left p q width height released first is same =
    ⊎_elim (λ above.
    let at : first ≡ released = omega arith in
    let all : released + (height - released) ≡ height = omega arith in
    let rest = picture_same _ (λ column row. p column (released + row)) width (height - released)
    (λ column row. same column (released + row)) in
    let parts = joined-add (λ row. joined (λ column. p column row) width) released
    (height - released) in
    rw (at, rest) (sym parts ∙ ap (picture p width) all))
    (λ below.
    let at : first ≡ height = omega arith in
    let none : height - released ≡ 0 = omega arith in
    rw (at, none) (append-nil (picture p width height)))
    (cases_lt released height)

pub returns-clause-ends : goal.returns-clause-ends
returns-clause-ends g c = λ o h shows.
    let painter = c.args.self.now in
    let height = c.image_height-height.result in
    let limit : Limit = o.pixel_limit in
    let high : painter.raster.1 ≡ raster_height h = ap (λ (p : ℕ × ℕ). p.1) shows.raster in
    let tall : height ≡ image_height limit o.raster_crop h =
    c.image_height-height.ensures
    ∙ rw (shows.crop, high, shows.height, shows.limit) refl in
    let drawn : c.min-drawn_height.result ≡ image_drawn_height limit o.raster_crop h =
    omega (arith, c.min-drawn_height.ensures, c.drawn_height.ensures o h shows, tall) in
    let wide : painter.clipped_width ≡ clipped_width limit h =
    painter.clipped_width_is ∙ rw (shows.width, shows.limit) refl in
    let area_fits : painter.clipped_width * painter.clipped_height ≤ limit.pixels =
    let inside =
    mul-le painter.clipped_width painter.clipped_height painter.width painter.height
    (omega (arith, painter.clipped_width_is)) (omega (arith, painter.clipped_height_is)) in
    omega (arith, inside, rw shows.limit at painter.area_fits) in
    let pixels =
    picture-left (clipped_pixel o h) (g.C.Canvas.shown painter.canvas) painter.clipped_width
    height (g.C.Canvas.released painter.canvas) c.min-first_row.result
    (c.min-first_row.ensures ∙ ap (λ n. min n height) c.released.ensures) shows.pixels
    ∙ clipped_picture o h painter.clipped_width height (omega (arith, wide)) (omega (arith, tall))
    in (
      shows.faultless,
      rw (
        c.in_ok-pixels.ensures.items,
        c.in_ok-picture.ensures.ok,
        pixels,
        wide,
        tall,
        shows.ratio,
        c.background_mode.ensures,
        shows.settings,
      ) refl,
      shows.registers,
      omega (
        arith,
        mul-le-mul_left painter.clipped_width (low painter height c.image_height-height.ensures),
        area_fits,
      ),
      rw (drawn, shows.raster) refl,
    )
