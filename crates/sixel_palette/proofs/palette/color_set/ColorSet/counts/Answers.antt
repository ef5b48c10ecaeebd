use Rattle.std.proofs.Common.{◌≡◌, ◌+◌, ◌*◌, arith, length}
use Rattle.std.proofs.lemmas.{Bool.Decides.nat_tests, List.get_or_read}
use Rattle.sixel_palette.proofs.refinement.Counts.{count-le, counts_hidden, counts_none, counts_run}
use Rattle.sixel_palette.proofs.palette.color_set.ColorSet.counts.Goals as goal

pub loop-four-init : goal.loop-four-init
loop-four-init c =
    let codes = c.args.self.now.codes in
    let size : c.len.result ≡ length codes.items = omega (arith, c.len.ensures, codes.ok.0) in
    record {
      counts =
          counts_none c.args.pixels.now codes.items _
          (rw size at (c.in_ok-counts.ensures.items_if_clones_equal (λ y e. e)));
      last = grind (arith, nat_tests);
    }

pub overflow_add-index_mut : goal.overflow_add-index_mut
overflow_add-index_mut c =
    let h = c.loop-four.invariant in
    let within = h.last.within c.if-last-ge128.true in
    omega (
      arith,
      get_or_read c.loop-four.counts.items c.loop-four.position _
          (omega (arith, within, h.counts.same)) c.index_mut.ensures.value 0,
      count-le c.args.pixels.now _ _ (4 * c.loop-four.four) _ within h.counts,
      c.requires.area,
    )

pub loop-four-preserved : goal.loop-four-preserved
loop-four-preserved c =
    let h = c.loop-four.invariant in
    let end : 4 * (c.loop-four.four + 1) ≡ 4 * c.loop-four.four + 4 = omega arith in
    elim c.if-not-are_four_of.branch [
      | goal.then-not-are_four_of+else-loop-lane-test w ↦
          let all : w.loop-lane.lane ≡ 4 = omega arith in
          let made = w.loop-lane.invariant in
          rw (w.counts-is, w.last-is, w.position-is, end) (record {
            counts = rw all at made.counts;
            last = (rw all at made.last) (omega arith);
          })
      | goal.else-not-are_four_of+then-last-ge128 w ↦ (
          let light = w.if-last-ge128.true in
          let within = h.last.within light in
          let read =
          get_or_read c.loop-four.counts.items c.loop-four.position _
          (omega (arith, within, h.counts.same)) w.index_mut.ensures.value 0 in
          rw (w.counts-is, w.last-is, w.position-is, end) (record {
            counts =
                counts_run _ _ c.loop-four.counts.items _ 4 _ _ _
                (c.are_four_of.ensures w.if-not-are_four_of.false) light within
                (h.last.code light) (omega (arith, read)) h.counts;
            last = h.last;
          }))
      | goal.else-not-are_four_of+else-last-ge128 w ↦
          rw (w.counts-is, w.last-is, w.position-is, end) (record {
            counts =
                counts_hidden _ _ _ _ 4 _ (c.are_four_of.ensures w.if-not-are_four_of.false)
                w.if-last-ge128.false h.counts;
            last = h.last;
          })
    ]
