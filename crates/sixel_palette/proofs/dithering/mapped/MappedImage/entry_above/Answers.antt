use Rattle.std.{proofs.Common.{ap, sym, ◌∙◌, arith}, specs.Prelude.{◌-◌, ℕ}}
use Rattle.sixel_palette.proofs.mapped_images.KeptEntries.{above-none, above-some}
use Rattle.sixel_palette.{specs.Palette.entry_of, specs.inside.Mapped.mapped_value}
use Rattle.sixel_palette.proofs.dithering.mapped.MappedImage.entry_above.Goals as goal

pub returns-then-place-eq0-clause-value : goal.returns-then-place-eq0-clause-value
returns-then-place-eq0-clause-value c =
    sym
    (above-none (mapped_value c.args.self.now) c.args.indices.now c.args.place.row
    c.args.place.step c.requires.place.step (omega (arith, c.if-place-eq0.true)))

pub returns-clause-value : goal.returns-clause-value
returns-clause-value c =
    let image = c.args.self.now in
    c.entry_at.ensures.value
    ∙ (ap (λ (p : ℕ). entry_of image.pixels.now c.args.indices.now (p - image.width))
    (sym c.requires.place.pixel)
    ∙ sym
    (above-some (mapped_value image) c.args.indices.now c.args.place.row c.args.place.step
    c.requires.place.step (omega (arith, c.if-place-eq0.false))))
