use Rattle.std.proofs.Common.{arith, length-append, length-take, length-drop}
use Rattle.icysixel.proofs.SourceRows.{rows_more}
use Rattle.icysixel.proofs.source_layout.SourceLayout.gathered.Goals as goal
use Rattle.std.proofs.lemmas.Bool.Decides.{nat_tests}

pub loop-row-preserved : goal.loop-row-preserved
loop-row-preserved c =
    let more = c.in_ok-extend_from_slice.ensures.items in
    grind (arith, nat_tests, more, rows_more, length-append, length-take, length-drop)
