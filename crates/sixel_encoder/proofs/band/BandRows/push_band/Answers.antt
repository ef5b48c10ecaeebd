use Rattle.std.proofs.Common.{◌≡◌, ℕ, ◌+◌, ◌*◌, ◌<◌, ◌++◌, length, string_bytes, append_assoc, ap}
use Rattle.std.proofs.{Common.{◌∙◌, arith}, lemmas.Bool.Decides.nat_tests}
use Rattle.std.proofs.lemmas.Grind.{div_ceil_times}
use Rattle.sixel_encoder.specs.{Text.{entry_text, sixel_of}, inside.Grid.cell}
use Rattle.sixel_encoder.specs.inside.Indexed.{drawing_of}
use Rattle.sixel_encoder.proofs.{MaskBits.mask-lt, band_rows.Dots.{appended-start, joined-part}}
use Rattle.sixel_encoder.proofs.band_rows.Parts.{joined-all, appended-part}
use Rattle.sixel_encoder.proofs.band.BandRows.push_band.Goals as goal

pub loop-part-init : goal.loop-part-init
loop-part-init c =
    let none : 0 * length c.args.self.now.used.items ≡ 0 = omega arith in
    grind (arith, nat_tests, appended-start, string_bytes, c.requires.empty)

pub push_rows-requires-clause-below : goal.push_rows-requires-clause-below
push_rows-requires-clause-below c = λ e x le lx.
    grind (arith, nat_tests, mask-lt, c.loop-part.invariant.empty.wide, c.fill.ensures.cells)

pub loop-part-preserved : goal.loop-part-preserved
loop-part-preserved c =
    let image = c.args.image.now in
    let drawing = drawing_of image in
    let band = c.args.band in
    let part = c.loop-part.part in
    let is = c.loop-part.invariant in
    let old = c.loop-part.self in
    let filled = c.fill.new.self in
    let new = c.push_rows.new.self in
    let count = length old.used.items in
    let shape = c.push_rows.ensures.shape in
    let from_old = c.fill.ensures.shape in
    let size : c.len-in-loop-part.result ≡ count = grind (arith, nat_tests) in
    let from : filled.first ≡ part * count = from_old.from ∙ ap (λ n. part * n) size in
    let wide : filled.width ≡ image.width = from_old.wide ∙ is.empty.wide in
    let marks : length new.used.items ≡ count = shape.marks ∙ from_old.marks in
    let sixels : length new.rows.items ≡ length old.rows.items = shape.sixels ∙ from_old.sixels in
    let cells : (e x : ℕ) → e < count → x < image.width
    → cell filled.rows.items image.width e x ≡ sixel_of drawing band (part * count + e) x =
    λ e x le lx. grind (arith, nat_tests) in
    let text = rw (wide, from, from_old.marks) at c.in_ok-push_rows.ensures.text in
    record {
      text = rw marks (appended-part (entry_text drawing band) part count _ _ _ is.text
          (text ∙ ap (λ rows. string_bytes c.loop-part.text ++ rows)
          (joined-part drawing band (part * count) count filled.rows.items cells)));
      count = marks ∙ is.count;
      empty = grind (arith, nat_tests);
    }

pub returns-clause-text : goal.returns-clause-text
returns-clause-text c =
    let image = c.args.image.now in
    let all = div_ceil_times (length image.colors.now) _ c.requires.empty.some in
    grind (arith, nat_tests, joined-all, append_assoc, all.0)
