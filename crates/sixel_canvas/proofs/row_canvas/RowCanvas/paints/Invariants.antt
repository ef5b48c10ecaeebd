use Rattle.std.{proofs.Common.{◌≡◌, take}, specs.List.sum_by}
use Rattle.sixel_canvas.specs.inside.TaggedRow.{TaggedRowState}
use Rattle.sixel_canvas.proofs.row_canvas.RowCanvas.paints.Given as goal

abbrev pub invariant-counted : goal.invariant-counted
invariant-counted l =
    l.appended
    ≡ sum_by (sum_by (λ (line : TaggedRowState). line.appended)) (take l.band-index l.band-items)
