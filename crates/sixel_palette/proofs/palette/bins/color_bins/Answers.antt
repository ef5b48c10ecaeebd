use Rattle.std.proofs.Common.{refl, get_or, length, sym, ◌∙◌, arith, cond}
use Rattle.std.proofs.lemmas.{Bool.Decides.nat_tests, List.{map_more, map_push, take_all}}
use Rattle.std.proofs.lemmas.List.Sums.{sum_by_more, sum_by_push}
use Rattle.sixel_palette.specs.declared.palette.bins.Bin.{Bin}
use Rattle.sixel_palette.specs.inside.{Codes.color_of, Sums.{channels, first_counted, total}}
use Rattle.sixel_palette.proofs.refinement.Bins.{colors_distinct, corner-one, counted_more}
use Rattle.sixel_palette.proofs.refinement.Bins.{counted_none, whole_bins}
use Rattle.sixel_palette.proofs.palette.bins.color_bins.Goals as goal

pub loop-index-init : goal.loop-index-init
loop-index-init c =
    rw c.in_ok-bins.ensures.items (record {
      pixels = refl;
      sums = λ contains k. sym (counted_none 1 c.args.codes.now c.args.counts.now contains k);
      corners = refl;
    })

pub loop-index-preserved : goal.loop-index-preserved
loop-index-preserved c =
    let codes = c.args.codes.now in
    let counts = c.args.counts.now in
    let bins = c.loop-index.bins.items in
    let index = c.loop-index.index in
    let h = c.loop-index.invariant in
    let bin : Bin = record { corner = c.color_of-corner.result; sums = c.of-sums.result } in
    let color = c.color_of-corner.ensures in
    let own = corner-one (color_of (get_or codes index 0)) in
    rw c.in_ok-push.ensures.items (record {
      pixels =
          omega (
            arith,
            sum_by_push (λ (b : Bin). b.sums.count) bins bin,
            sum_by_more (λ n. n) counts index 0 (omega (arith, c.requires.weighed.same)),
          );
      sums = λ contains k.
          sum_by_push (λ b. cond (contains (channels b.corner)) (total b.sums k) 0) bins bin
          ∙ rw (h.sums contains k, c.of-sums.ensures.sums k, color, ← own)
          (sym (counted_more 1 codes counts index contains k));
      corners = grind (arith, nat_tests, map_push, h.corners, map_more);
    })

pub returns-clause-bins : goal.returns-clause-bins
returns-clause-bins c = grind (arith, nat_tests)

pub returns-clause-whole : goal.returns-clause-whole
returns-clause-whole c =
    let codes = c.args.codes.now in
    whole_bins (first_counted 1 codes c.args.counts.now (length codes)) _ (returns-clause-bins c)
    (colors_distinct _ _ c.requires.ascending
    (rw (take_all c.loop-index.index codes (omega arith)) at c.loop-index.invariant.corners))
