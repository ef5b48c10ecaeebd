use Rattle.std.proofs.Common.{◌<◌, length, ap, ◌∙◌, arith}
use Rattle.sixel_palette.specs.{Lloyd.nearest_index, inside.Sums.AreIndicesBy}
use Rattle.sixel_palette.proofs.{colors.Colors.IsColor-color_of, refinement.Lloyd.entry_of}
use Rattle.sixel_palette.proofs.refinement.Lloyd.{moved_is, nearest_index-is}
use Rattle.sixel_palette.proofs.refinement.Refined.{nearest_entry-lt}
use Rattle.sixel_palette.proofs.palette.lloyd.moved_once.Goals as goal

pub returns-clause-moved : goal.returns-clause-moved
returns-clause-moved c = λ pixels are whole.
    let colors = c.args.colors.now in
    let codes = c.args.codes.now in
    let bins = c.args.bins.now in
    let indices = c.in_ok-traversal.traversal.indices.items in
    let by : AreIndicesBy (entry_of colors) bins indices = λ k d l.
    let inside : k < length codes = omega (arith, l, c.requires.size) in
    nearest_index-is _ _ _
    (nearest_entry-lt _ _ c.requires.some c.requires.shown
    (IsColor-color_of _ (c.requires.small k 0 inside))) (c.in_ok-traversal.ensures.relaxed k inside)
    ∙ ap (nearest_index colors) (c.requires.means k d l) in
    moved_is pixels _ _ _ are whole c.in_ok-moved.ensures.size
    (c.in_ok-moved.ensures.means (entry_of colors) (rw c.deref.ensures.value by))
