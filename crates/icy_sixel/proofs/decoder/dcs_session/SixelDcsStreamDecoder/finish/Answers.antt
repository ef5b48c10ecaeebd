use Rattle.std.proofs.Common.{◌≡◌, ◌∙◌, None, sym, arith, refl}
use Rattle.sixel_decoder.specs.{FinishedImages.shown_whole, FinalRows.found_pixel}
use Rattle.sixel_decoder.specs.Reception.{of_sequence, found}
use Rattle.sixel_decoder.proofs.images.{FinishedImages.finished_as, WholePictures.whole_picture}
use Rattle.icy_sixel.specs.ImageView.{image_value}
use Rattle.icy_sixel.proofs.decoder.dcs_session.SixelDcsStreamDecoder.finish.Goals as goal
use goal.{in-Some, in_default}

pub returns-clause-finished : goal.returns-clause-finished
returns-clause-finished c =
    let picture = c.in_ok-picture.picture in
    let image = of_sequence c.args.self.reader in
    let is = c.in_ok-picture.ensures in
    let stored : image.released ≡ 0 =
    elim c.match-payload.branch [
      | in-Some w ↦ omega (arith, w.stores_all_rows.ensures, w.in-Some.ensures.lent.released)
      | in_default w ↦ (w.in_default.ensures.none refl).released
    ] in
    let none : picture.first_row ≡ 0 = omega (arith, is.first, stored) in
    finished_as (shown_whole image) (λ p. p.registers) image_value (λ _. picture.registers) image
    None picture _
    (whole_picture (found_pixel image.start (found image.form image.bytes)) picture none
    ∙ sym c.from_picture.ensures.image) refl is.finished
