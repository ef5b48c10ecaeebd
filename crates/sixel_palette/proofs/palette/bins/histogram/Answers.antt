use Rattle.std.proofs.Common.{◌≡◌, refl, get_or, length, sym, ◌∙◌, arith}
use Rattle.std.proofs.{lemmas.List.{length-replicate, with_items_is}, lemmas.List.Sums.sum_by_more}
use Rattle.sixel_palette.specs.{GainCut.corner, inside.Codes.color_of, inside.Sums.first_counted}
use Rattle.sixel_palette.proofs.{colors.Lists.increasing-le, refinement.Bins.counted_more}
use Rattle.sixel_palette.proofs.refinement.Bins.{counted_none, red-le, table_none, whole_bins}
use Rattle.sixel_palette.proofs.palette.bins.histogram.Goals as goal

pub loop-index-init : goal.loop-index-init
loop-index-init c =
    rw c.new-bins.ensures.items (record {
      positions = grind (arith, length-replicate);
      pixels = refl;
      sums = λ contains k. sym (counted_none 4 c.args.codes.now c.args.counts.now contains k);
      table = λ k l m. table_none c.in_ok-positions.positions.items _;
      distinct = λ i j l m. absurd (omega arith);
    })

pub loop-index-preserved : goal.loop-index-preserved
loop-index-preserved c =
    let codes = c.args.codes.now in
    let counts = c.args.counts.now in
    let index = c.loop-index.index in
    let h = c.loop-index.invariant in
    let color = color_of (get_or codes index 0) in
    let added = rw c.deref_mut.ensures.value at c.in_ok-add_color.ensures in
    let kept =
    with_items_is c.loop-index.positions c.add_color.new.positions
    (omega (arith, added.positions, c.loop-index.positions.ok.0)) in
    rw kept (record {
      positions = omega (arith, added.positions, h.positions);
      pixels =
          omega (
            arith,
            sum_by_more (λ n. n) counts index 0 (omega (arith, c.requires.weighed.same)),
          );
      sums = λ contains k.
          added.sums contains k
          ∙ rw (h.sums contains k, c.of-sums.ensures.sums k, c.color_of-color.ensures)
          (sym (counted_more 4 codes _ index contains k));
      table = λ k l m.
          added.table (get_or (corner 4 (color_of (get_or codes k 0))) 0 0)
          (rw c.color_of-color.ensures
          (red-le _ _ (increasing-le _ c.requires.ascending _ _ (omega arith) m)))
          (h.table k (omega arith) m);
      distinct =
          (added.table (get_or (corner 4 color) 0 0) (rw c.color_of-color.ensures (omega arith))
          (h.table index (omega arith) (omega arith))).distinct;
    })

pub returns-clause-bins : goal.returns-clause-bins
returns-clause-bins c = λ contains k.
    let all : c.loop-index.index ≡ length c.args.codes.now = omega arith in
    rw all at (c.loop-index.invariant.sums contains k)

pub returns-clause-whole : goal.returns-clause-whole
returns-clause-whole c =
    whole_bins (first_counted 4 c.args.codes.now c.args.counts.now (length c.args.codes.now)) _
    (returns-clause-bins c) c.loop-index.invariant.distinct
