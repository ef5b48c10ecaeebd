use Rattle.std.proofs.Common.{◌≡◌, ◌+◌, ◌*◌, arith}
use Rattle.std.proofs.lemmas.{Bool.cases_lt, Bool.Decides.nat_tests, Grind.common_steps}
use Rattle.std.proofs.lemmas.List.{get_or-replicate, get_or_past, length-replicate, with_items_is}
use Rattle.sixel_palette.specs.inside.Mapped.{mapped_value}
use Rattle.sixel_palette.proofs.mapped_images.DiffusionVisit.{IsLine-none}
use Rattle.sixel_palette.proofs.dithering.diffusion.diffused_indices.Goals as goal

pub loop-row-init : goal.loop-row-init
loop-row-init c =
    let none : 0 * c.args.image.now.width ≡ 0 = omega arith in
    record {
      size = grind (arith, nat_tests, length-replicate);
      entries = grind (arith, nat_tests, cases_lt, get_or-replicate, get_or_past, length-replicate);
      visited = λ k l. absurd (omega arith);
      line =
          rw none (IsLine-none (mapped_value c.args.image.now) _ _
          (grind (arith, nat_tests, c.no_error.ensures.value))
          (rw c.no_error.ensures.value at c.no_error.ensures.lanes));
      prepared = c.in_ok-entries.ensures;
    }

pub diffuse_row-requires : goal.diffuse_row-requires
diffuse_row-requires c =
    let h = c.loop-row.invariant in
    rw (c.deref_mut.ensures.value, c.deref_mut-in-loop-row.ensures.value) (record {
      image = c.requires;
      row = grind (arith, common_steps);
      indices = h.size;
      entries = h.entries;
      visited = h.visited;
      line = h.line;
      prepared = h.prepared;
    })

pub loop-row-preserved : goal.loop-row-preserved
loop-row-preserved c =
    let width = c.args.image.now.width in
    let next : c.loop-row.row * width + width ≡ (c.loop-row.row + 1) * width = omega arith in
    let row = c.in_ok-diffuse_row.ensures in
    let indices =
    with_items_is c.loop-row.indices c.diffuse_row.new.indices
    (omega (arith, row.indices, c.loop-row.invariant.size, c.loop-row.indices.ok.0)) in
    let line =
    with_items_is c.loop-row.line c.diffuse_row.new.line
    (omega (arith, c.diffuse_row.auto.line, c.deref_mut-in-loop-row.ensures.len)) in
    rw (indices, line) (record {
      size = row.indices;
      entries = row.entries;
      visited = rw next at row.visited;
      line = rw next at row.line;
      prepared = row.prepared;
    })

pub returns : goal.returns
returns c =
    let h = c.loop-row.invariant in
    let last = c.loop-row-test.false in
    grind (arith, c.requires.whole.rows, c.loop-row.auto.row-end, h.size, h.visited)
