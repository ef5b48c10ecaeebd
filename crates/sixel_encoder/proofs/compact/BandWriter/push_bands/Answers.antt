use Rattle.std.proofs.{Common.{ap, ◌∙◌, arith, length-append}, lemmas.Bool.Decides.nat_tests}
use Rattle.sixel_encoder.specs.inside.Indexed.{drawing_of}
use Rattle.sixel_encoder.proofs.compact_form.Counts.{flat_map-more, flat_map-start}
use Rattle.sixel_encoder.proofs.compact_form.SegmentOrder.{register_after-more, register_after-none}
use Rattle.sixel_encoder.proofs.plain_text.Bound.{length-band, length-joined}
use Rattle.sixel_encoder.proofs.round_trip.DrawnHeight.{bands_up_to-le}
use Rattle.sixel_encoder.proofs.compact.BandWriter.push_bands.Goals as goal

pub loop-band-init : goal.loop-band-init
loop-band-init c =
    grind (arith, c.requires.writer, flat_map-start, c.requires.register, register_after-none)

pub push_band-requires-clause-band : goal.push_band-requires-clause-band
push_band-requires-clause-band c = grind (arith, nat_tests, bands_up_to-le)

pub loop-band-preserved : goal.loop-band-preserved
loop-band-preserved c =
    let drawing = drawing_of c.args.self.now.entries.image.now in
    let is = c.loop-band.invariant in
    let told = c.in_ok-push_band.ensures in
    record {
      writer = told.writer;
      image = ap (λ b. b.now) c.push_band.ensures.image ∙ is.image;
      text = grind (arith, nat_tests, flat_map-more, is.text, is.register, is.image, told.text);
      plain = length-band drawing c.loop-band.band c.loop-band.plain_bytes c.least_bytes.result
          c.saturating_add-plain_bytes.result is.plain
          (rw (c.push_band.ensures.image, is.image, told.band) at c.least_bytes.ensures)
          (omega (arith, c.saturating_add-plain_bytes.ensures));
      register =
          grind (arith, nat_tests, register_after-more, is.register, is.image, told.register);
    }

pub returns-clause-plain : goal.returns-clause-plain
returns-clause-plain c = grind (arith, bands_up_to-le, nat_tests, length-append, length-joined)
