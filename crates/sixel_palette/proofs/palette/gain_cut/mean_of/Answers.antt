use Rattle.std.proofs.{Common.{◌≡◌, ℕ, ap, ◌∙◌, arith}, lemmas.List.take_all}
use Rattle.std.proofs.lemmas.List.Sums.{sum_by_more_le}
use Rattle.sixel_palette.specs.{ColorSums.mean_or, GainCut.box_sums, declared.palette.bins.Bin.Bin}
use Rattle.sixel_palette.specs.inside.Sums.{total}
use Rattle.sixel_palette.proofs.refinement.Sums.{all_sums, mean_or-same}
use Rattle.sixel_palette.proofs.palette.gain_cut.mean_of.Goals as goal

pub plus-sums-requires : goal.plus-sums-requires
plus-sums-requires c =
    omega (
      arith,
      c.loop-bin.invariant 0,
      sum_by_more_le (λ (b : Bin). b.sums.count) c.args.bins.now c.loop-bin.bin-index
          c.bin-item.result (omega arith),
      ap (λ (b : Bin). b.sums.count) c.bin-item.is,
    )

pub returns-clause-mean : goal.returns-clause-mean
returns-clause-mean c = λ pixels box are.
    let bins = c.args.bins.now in
    let all : (k : ℕ) → total c.loop-bin.sums k ≡ box_sums pixels box k = λ k.
    rw (take_all c.loop-bin.bin-index bins (omega arith)) at (c.loop-bin.invariant k)
    ∙ all_sums pixels box bins are k in
    c.mean_or.ensures.mean
    ∙ (mean_or-same (total c.loop-bin.sums) (box_sums pixels box) c.percent_color.result all
    ∙ ap (mean_or (box_sums pixels box)) c.percent_color.ensures.value)
