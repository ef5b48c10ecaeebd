use Rattle.std.proofs.Common.{◌≡◌, ◌+◌, ◌*◌, [], get_or, ap, refl, sym, ◌∙◌, arith}
use Rattle.std.proofs.{lemmas.Bool.Decides.nat_tests, lemmas.Nat.mod-mul-add}
use Rattle.sixel_palette.specs.Dithering.{column_of_step, error_above, error_back, errors_of}
use Rattle.sixel_palette.specs.{Palette.entry_of, declared.dithering.diffusion.Neighbors.Neighbors}
use Rattle.sixel_palette.specs.{inside.Diffusion.channels, inside.Mapped.mapped_value}
use Rattle.sixel_palette.proofs.mapped_images.DiffusionVisit.{AreErrors-beyond}
use Rattle.sixel_palette.proofs.mapped_images.DiffusionVisit.{AreReceived-neighbors}
use Rattle.sixel_palette.proofs.mapped_images.DiffusionVisit.{AreVisited-more, IsLine-more}
use Rattle.sixel_palette.proofs.mapped_images.DiffusionVisit.{before-more, behind-more, beyond-line}
use Rattle.sixel_palette.proofs.mapped_images.DiffusionVisit.{errors_of-more}
use Rattle.sixel_palette.proofs.mapped_images.KeptEntries.{before-none, before-some}
use Rattle.sixel_palette.proofs.mapped_images.Serpentine.{column-next_row, serpentine-step}
use Rattle.sixel_palette.proofs.dithering.mapped.MappedImage.diffuse_row.Goals as goal

pub loop-step-init : goal.loop-step-init
loop-step-init c =
    let m = mapped_value c.args.self.now in
    let first : c.args.row * m.width + 0 ≡ c.args.row * m.width = omega arith in
    record {
      size = c.requires.indices;
      entries = c.requires.entries;
      visited = rw first c.requires.visited;
      line = rw first c.requires.line;
      entry = λ some. sym (before-none m c.args.indices.now c.args.row 0 some refl);
      inside = λ index is. absurd cc;
      before = ap channels c.no_error-before.ensures.value;
      behind = ap channels c.no_error-behind.ensures.value;
      lanes_before = c.no_error-before.ensures.lanes;
      lanes_behind = c.no_error-behind.ensures.lanes;
      prepared = c.requires.prepared;
    }

pub loop-step-preserved : goal.loop-step-preserved
loop-step-preserved c =
    let m = mapped_value c.args.self.now in
    let row = c.args.row in
    let step = c.loop-step.step in
    let n = row * m.width + step in
    let old = c.loop-step.indices in
    let new = c.visit.new.indices in
    let line = c.loop-step.line in
    let error = c.visit.new.error in
    let errors = errors_of m old n in
    let h = c.loop-step.invariant in
    let inside = c.loop-step-test.true in
    let column = c.column_of_step-column.result in
    let same = c.column_of_step-column.ensures.value in
    let above : channels (get_or line column []) ≡ error_above m errors step =
    ap (λ k. channels (get_or line k [])) same
    ∙ (h.line.above step (omega arith) inside ∙ ap (error_back m errors) (omega arith)) in
    let beyond =
    beyond-line m errors line row step c.error_beyond.result inside h.line c.error_beyond.ensures in
    let neighbors : Neighbors = record {
      entry = c.loop-step.entry;
      before = c.loop-step.before;
      behind = c.loop-step.behind;
      above = get_or line column [];
      beyond = c.error_beyond.result;
    } in
    let visit =
    c.in_ok-visit.ensures.visit errors
    (AreReceived-neighbors m errors n step neighbors (mod-mul-add row m.width step inside) h.before
    h.behind above beyond) in
    let wide = c.requires.image.whole.wide in
    let next : n + 1 ≡ row * m.width + (step + 1) = omega arith in
    let more = rw next at (errors_of-more m old new error n wide visit) in
    record {
      size = c.in_ok-visit.ensures.indices;
      entries = c.in_ok-visit.ensures.entries;
      visited = rw next at (AreVisited-more m old new error n wide h.visited visit);
      line = rw (more, same) (IsLine-more m errors line row step error inside visit.lanes h.line);
      entry = λ later.
          c.entry_at-entry.ensures.value
          ∙ (ap (λ k. entry_of m.pixels new (row * m.width + k))
          (same ∙ ap (column_of_step m.width row) (omega arith))
          ∙ sym (before-some m new row (step + 1) later (omega arith)));
      inside = λ index is. c.entry_at-entry.ensures.inside index c.in_ok-visit.ensures.entries is;
      before = rw more (before-more m errors step (channels error));
      behind = rw more (above ∙ behind-more m errors step (channels error));
      lanes_before = visit.lanes;
      lanes_behind = h.line.lanes column c.column_of_step-column.ensures.within;
      prepared = c.in_ok-visit.ensures.prepared;
    }

pub returns : goal.returns
returns c =
    grind (
      arith,
      nat_tests,
      c.loop-step.invariant,
      c.loop-step.step,
      c.args.self.now.width,
      column-next_row,
    )

pub visit-requires : goal.visit-requires
visit-requires c =
    let m = mapped_value c.args.self.now in
    let h = c.loop-step.invariant in
    record {
      image = c.requires.image;
      indices = h.size;
      entries = h.entries;
      place = grind (arith, c.loop-step-test.true, c.requires.row, serpentine-step);
      entry = h.entry c.loop-step-test.true;
      inside = h.inside;
      errors = record {
        before = h.lanes_before;
        behind = h.lanes_behind;
        above = h.line.lanes c.column_of_step-column.result c.column_of_step-column.ensures.within;
        beyond = AreErrors-beyond m c.loop-step.line c.args.row c.loop-step.step
            c.error_beyond.result c.loop-step-test.true
            (rw c.no_error-before.ensures.value at c.no_error-before.ensures.lanes) h.line.lanes
            c.error_beyond.ensures;
      };
      prepared = h.prepared;
    }
