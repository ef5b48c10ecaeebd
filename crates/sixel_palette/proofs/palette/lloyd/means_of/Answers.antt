use Rattle.std.proofs.Common.{◌≡◌, ◌<◌, [], get_or, length, ap, ◌∙◌, arith}
use Rattle.std.proofs.{lemmas.List.{get_or_default, length_push}, lemmas.List.Elements.All-push}
use Rattle.sixel_palette.specs.{ColorSums.mean_or, Refined.IsRegisterColor}
use Rattle.sixel_palette.specs.{declared.palette.color_sums.ColorSums.ColorSums, inside.Sums.total}
use Rattle.sixel_palette.proofs.{colors.Lists.each_push, refinement.Sums.mean_or-same}
use Rattle.sixel_palette.proofs.palette.lloyd.means_of.Goals as goal

pub loop-position-preserved : goal.loop-position-preserved
loop-position-preserved c =
    let means = c.loop-position.means.items in
    let colors = c.args.colors.now in
    let sums = c.add_bins.new.sums in
    let position = c.loop-position.position in
    let mean = c.mean_or.result in
    let h = c.loop-position.invariant in
    let inside : position < length sums =
    omega (arith, c.add_bins.ensures.size, c.requires.few, c.loop-position-test.true) in
    rw c.in_ok-push.ensures.items (record {
      shown = All-push IsRegisterColor means mean h.shown c.mean_or.ensures.shown;
      size = omega (arith, length_push means mean, h.size);
      means = λ k d.
          each_push
          (λ i x. x ≡ mean_or (total (get_or sums i d)) (get_or colors i [])) means
          mean [] position h.size (λ i. h.means i d)
          (c.mean_or.ensures.mean
          ∙ ap (λ (s : ColorSums). mean_or (total s) (get_or colors position []))
          (get_or_default sums position c.index-sums-position.result d inside)) k;
    })

pub returns-clause-means : goal.returns-clause-means
returns-clause-means c = λ entry are k l.
    let d = c.none-sums.result in
    c.loop-position.invariant.means k d (omega arith)
    ∙ mean_or-same _ _ _
    (λ j. c.add_bins.ensures.sums entry are k j d (omega (arith, l, c.requires.few)))
